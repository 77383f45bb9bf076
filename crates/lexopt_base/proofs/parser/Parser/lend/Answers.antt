use Rattle.std.proofs.Common.{Result, Ok, sym, ap, ◌∙◌, string_bytes}
use Rattle.lexopt_spec.specs.UnreadLine.{UnreadLine}
use Rattle.lexopt_base.specs.Models.{last_of}
use Rattle.lexopt_base.specs.Found.{advance_reply}
use Rattle.lexopt_base.specs.declared.parser.Found.{Found}
use Rattle.lexopt_base.specs.declared.refusal.Refusal.{Refusal}
use Rattle.lexopt_base.proofs.States.{lent}
use Rattle.lexopt_base.proofs.parser.Parser.lend.Goals as goal

pub returns-in-Ok-Long : goal.returns-in-Ok-Long
returns-in-Ok-Long c = λ reply is.
    let name = string_bytes c.self.inside.name in
    let last = last_of c.self.inside.last_option name in
    rw c.deref.ensures (lent c.self.inside.last_option name reply
    (ap (λ (f : Result Found Refusal). advance_reply last f) (sym (c.in-Ok-Long.is ∙ ap Ok c.in-Ok-Long.field-0-is))
    ∙ ap (λ (l : UnreadLine). advance_reply l.last c.args.found) c.self.view_is ∙ is))
