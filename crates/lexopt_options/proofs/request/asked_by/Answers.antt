use Rattle.std.proofs.Common.{◌∙◌, Some, ap}
use Rattle.lexopt_declaration.specs.declared.shell.ShellRequest.TheVariants as asks
use Rattle.lexopt_options.proofs.Asking.{completion_asked}
use Rattle.lexopt_options.proofs.request.asked_by.Goals as goal

pub returns-in-Some-Script : goal.returns-in-Some-Script
returns-in-Some-Script c =
    ap (λ t. Some t) ((c.from_value.ensures (asks.Script c.in-Some-Script.shell)).0 (c.in-Some-Script.is ∙ ap (λ r. Some r) c.in-Some-Script.field-0-is))

pub returns-in-Some-Completion : goal.returns-in-Some-Completion
returns-in-Some-Completion c =
    completion_asked _ c.args.words.items c.in-Some-Completion.field-0-0 c.completion_of.result
    (ap (λ t. Some t) ((c.from_value.ensures (asks.Completion c.in-Some-Completion.field-0-0)).0 (c.in-Some-Completion.is ∙ ap (λ r. Some r) c.in-Some-Completion.field-0-is))) c.completion_of.ensures
