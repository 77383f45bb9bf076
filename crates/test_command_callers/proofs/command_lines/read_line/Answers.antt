use Rattle.std.proofs.Common.{◌≡◌, ◌∷◌, subst, sym}
use Rattle.std.specs.Prelude.{Some, slice_get}
use Rattle.std.proofs.lemmas.Result.{IfOk-weaker}
use Rattle.test_command_callers.proofs.AnyLines.{asked_line, line_tells, named_line, none_of}
use Rattle.test_command_callers.proofs.TaskLines.{of_options}
use Rattle.test_command_callers.proofs.command_lines.read_line.Goals as goal

pub returns-clause-line : goal.returns-clause-line
returns-clause-line g c = IfOk-weaker c.read.result _ _ (λ it is. line_tells c.new.result c.args.options c.args.commands.now c.args.words.items it c.new.ensures.options c.new.ensures.commands is) c.read.ensures.line

pub returns-clause-asked : goal.returns-clause-asked
returns-clause-asked g c = λ l rest asked means is.
    IfOk-weaker c.read.result _ _ (λ it of. asked_line c.new.result c.args.options l rest asked it c.new.ensures.options is of)
    (c.read.ensures.answered l rest (of_options c.new.result.options c.args.options c.args.words.items l rest c.new.ensures.options means))

pub returns-clause-named : goal.returns-clause-named
returns-clause-named g c = λ i own key l rest at runs means none.
    IfOk-weaker c.read.result _ _ (λ it is. named_line c.new.result c.args.options l own.name.now key rest it c.new.ensures.options is)
    (c.read.ensures.named i own key l rest (subst (λ cs. slice_get cs i ≡ Some own) (sym c.new.ensures.commands) at) runs (of_options c.new.result.options c.args.options c.args.words.items l (own.name.now ∷ rest) c.new.ensures.options means) (none_of c.new.result.options c.args.options l c.new.ensures.options none))
