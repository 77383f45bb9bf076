use Rattle.std.proofs.Common.{◌≡◌, ◌∷◌, [], ℕ, List, ap, codes, map}
use Rattle.std.specs.List.{flat_map}
use Rattle.std.proofs.lemmas.Result.{IfOk-weaker}
use Rattle.lexopt_line_spec.proofs.Computing.{computing}
use Rattle.lexopt_commands.specs.Completions.{begun_line, place}
use Rattle.test_command_callers.specs.declared.commands.Task.TheVariants as task
use Rattle.test_command_callers.proofs.TypedTasks.{lines_so, name_and_line, names_written, nothing_written, options_offered, task_asked}
use Rattle.test_command_callers.proofs.commands.complete_tasks.Goals as goal

pub returns-clause-command : goal.returns-clause-command
returns-clause-command g c = λ front rest split.
    IfOk-weaker c.answer_request.result _ _ (λ it is. task_asked c.new.result c.args.options c.args.words.items front rest rest (codes "remote") c.args.typed (codes "remote") task.Remote it c.new.ensures.options (ap (λ cs. place cs (codes "remote" ∷ rest)) c.new.ensures.commands) split is) c.answer_request.ensures

pub returns-clause-help_of_a_command : goal.returns-clause-help_of_a_command
returns-clause-help_of_a_command g c = λ front rest split.
    IfOk-weaker c.answer_request.result _ _ (λ it is.
    task_asked c.new.result c.args.options c.args.words.items front (codes "remote" ∷ rest) rest (codes "help") c.args.typed (codes "remote") task.Remote it c.new.ensures.options (ap (λ cs. place cs (codes "help" ∷ codes "remote" ∷ rest)) c.new.ensures.commands) split is) c.answer_request.ensures

pub returns-clause-help : goal.returns-clause-help
unfolding computing
returns-clause-help g c = λ front split.
    IfOk-weaker c.answer_request.result _ _ (λ it is.
    names_written c.new.result c.args.options c.args.words.items front [] (codes "help") c.args.typed it _ c.new.ensures.options (ap (λ cs. place cs (codes "help" ∷ [])) c.new.ensures.commands) (ap (flat_map (begun_line c.args.typed)) c.new.ensures.commands) split is) c.answer_request.ensures

pub returns-clause-unknown : goal.returns-clause-unknown
returns-clause-unknown g c = λ front rest split.
    IfOk-weaker c.answer_request.result _ _ (λ it is. nothing_written c.new.result c.args.options c.args.words.items front rest (codes "remo") c.args.typed it c.new.ensures.options (ap (λ cs. place cs (codes "remo" ∷ rest)) c.new.ensures.commands) split is) c.answer_request.ensures

pub returns-clause-options : goal.returns-clause-options
unfolding computing
returns-clause-options g c = λ without.
    let words = c.args.words.items in
    let typed = c.args.typed in
    let so = λ (text : List ℕ). lines_so c.new.result words typed text (ap (map name_and_line) c.new.ensures.commands) in
    IfOk-weaker c.answer_request.result _ _ (λ it is. options_offered c.new.result c.args.options words typed it c.new.ensures.options without so is) c.answer_request.ensures
