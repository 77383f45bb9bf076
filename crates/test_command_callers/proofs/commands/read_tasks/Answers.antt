use Rattle.std.proofs.Common.{◌≡◌, ◌∷◌, ◌++◌, [], ℕ, List, Some, None, if◌then◌else◌, length, ap, codes, subst, ◌∙◌, arith}
use Rattle.std.specs.List.{insert}
use Rattle.std.specs.Option.{unwrap_or}
use Rattle.std.proofs.lemmas.Bool.{lt-ltb}
use Rattle.std.proofs.lemmas.Result.{IfOk-weaker}
use Rattle.lexopt_line_spec.proofs.Computing.{computing}
use Rattle.lexopt_commands.specs.declared.command.Command.{Command}
use Rattle.lexopt_commands.specs.Meanings.{command, help_word, meaning, with_help}
use Rattle.lexopt_commands.specs.Mistakes.{IsHint}
use Rattle.lexopt_commands.specs.Names.{names_of}
use Rattle.test_command_callers.specs.declared.commands.Task.{Task}
use Rattle.test_command_callers.specs.declared.commands.Task.TheVariants as task
use Rattle.test_command_callers.proofs.TaskLines.{asking_line, missing_line, of_options, task_line, unknown_line}
use Rattle.test_command_callers.proofs.commands.read_tasks.Goals as goal

pub returns-clause-command : goal.returns-clause-command
returns-clause-command g c = λ l rest none means.
    let words = codes "remote" ∷ rest in
    IfOk-weaker c.read.result _ _ (λ it of. task_line c.new.result c.args.options l words rest (codes "remote") task.Remote it c.new.ensures.options none (ap (λ cs. meaning cs words) c.new.ensures.commands) of)
    (c.read.ensures.answered l words (of_options c.new.result.options c.args.options c.args.words.items l words c.new.ensures.options means))

pub returns-clause-help_of_a_command : goal.returns-clause-help_of_a_command
returns-clause-help_of_a_command g c = λ l none means.
    let words = codes "help" ∷ codes "remote" ∷ codes "add" ∷ [] in
    IfOk-weaker c.read.result _ _ (λ it of. task_line c.new.result c.args.options l words (codes "add" ∷ codes "--help" ∷ []) (codes "remote") task.Remote it c.new.ensures.options none (ap (λ cs. meaning cs words) c.new.ensures.commands) of)
    (c.read.ensures.answered l words (of_options c.new.result.options c.args.options c.args.words.items l words c.new.ensures.options means))

-- a first word that begins with a dash is the first that does
dash_is_first : (word : List ℕ) (rest : List (List ℕ)) → with_help ((codes "-" ++ word) ∷ rest) ≡ help_word ∷ (codes "-" ++ word) ∷ rest
dash_is_first word rest =
    let words = (codes "-" ++ word) ∷ rest in
    ap (λ b. insert words (unwrap_or (if b then Some 0 else None) (length words)) help_word) (lt-ltb 0 (length words) (omega arith))

pub returns-clause-help_before_a_dash : goal.returns-clause-help_before_a_dash
returns-clause-help_before_a_dash g c = λ l word rest none means.
    let dashed = (codes "-" ++ word) ∷ rest in
    let words = codes "help" ∷ codes "remote" ∷ dashed in
    let asked = ap (λ own. command (codes "remote") task.Remote own) (dash_is_first word rest) in
    IfOk-weaker c.read.result _ _ (λ it of. task_line c.new.result c.args.options l words (codes "--help" ∷ dashed) (codes "remote") task.Remote it c.new.ensures.options none (ap (λ cs. meaning cs words) c.new.ensures.commands ∙ asked) of)
    (c.read.ensures.answered l words (of_options c.new.result.options c.args.options c.args.words.items l words c.new.ensures.options means))

pub returns-clause-help_before_a_separator : goal.returns-clause-help_before_a_separator
returns-clause-help_before_a_separator g c = λ l none means.
    let after = codes "--" ∷ codes "-x" ∷ [] in
    let words = codes "help" ∷ codes "remote" ∷ codes "add" ∷ after in
    IfOk-weaker c.read.result _ _ (λ it of. task_line c.new.result c.args.options l words (codes "add" ∷ codes "--help" ∷ after) (codes "remote") task.Remote it c.new.ensures.options none (ap (λ cs. meaning cs words) c.new.ensures.commands) of)
    (c.read.ensures.answered l words (of_options c.new.result.options c.args.options c.args.words.items l words c.new.ensures.options means))

pub returns-clause-help : goal.returns-clause-help
returns-clause-help g c = λ l none means.
    let words = codes "help" ∷ [] in
    IfOk-weaker c.read.result _ _ (λ it of. asking_line c.new.result c.args.options l words it c.new.ensures.options none (ap (λ cs. meaning cs words) c.new.ensures.commands) of)
    (c.read.ensures.answered l words (of_options c.new.result.options c.args.options c.args.words.items l words c.new.ensures.options means))

pub returns-clause-missing : goal.returns-clause-missing
returns-clause-missing g c = λ l none means.
    IfOk-weaker c.read.result _ _ (λ it of. missing_line c.new.result c.args.options l it c.new.ensures.options none (ap names_of c.new.ensures.commands) of)
    (c.read.ensures.answered l [] (of_options c.new.result.options c.args.options c.args.words.items l [] c.new.ensures.options means))

pub returns-clause-unknown : goal.returns-clause-unknown
unfolding computing
returns-clause-unknown g c = λ l rest none means.
    let name = codes "remot" ++ 0xFF ∷ [] in
    let typed = codes "remot" ++ 0xEF ∷ 0xBF ∷ 0xBD ∷ [] in
    let words = name ∷ rest in
    let hints = λ (own : List (List ℕ)) (is : IsHint c.new.result.commands.now name own). subst (λ (cs : List (Command Task)). IsHint cs name own) c.new.ensures.commands is in
    IfOk-weaker c.read.result _ _ (λ it of. unknown_line c.new.result c.args.options l words rest name typed it c.new.ensures.options none (ap (λ cs. meaning cs words) c.new.ensures.commands) hints of)
    (c.read.ensures.answered l words (of_options c.new.result.options c.args.options c.args.words.items l words c.new.ensures.options means))
