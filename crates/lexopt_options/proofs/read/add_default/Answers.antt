use Rattle.std.proofs.Common.{sym, ◌∙◌}
use Rattle.lexopt_options.proofs.Defaults.{added_none, added_seen, added_value, one_value}
use Rattle.lexopt_options.proofs.read.add_default.Goals as goal

pub returns-in_default : goal.returns-in_default
returns-in_default g c = λ options l sound at are. added_none options l c.args.index c.args.option.now c.args.defaults.now.items c.in_default.is

pub returns-then-is_among : goal.returns-then-is_among
returns-then-is_among g c = λ options l sound at are.
    added_seen options l c.args.index c.args.option.now c.in-Some.default c.args.seen.now sound at c.in-Some.is are c.args.defaults.now.items (sym c.is_among.ensures ∙ c.if-is_among.true)

pub returns-in_ok-push-in-Value : goal.returns-in_ok-push-in-Value
returns-in_ok-push-in-Value g c = λ options l sound at are.
    added_value options l c.args.index c.args.option.now c.in-Some.default c.args.seen.now sound at c.in-Some.is are c.args.defaults.now.items c.push.new.self.items c.in-Value.key c.in-Value.field-1 c.in_ok-word-in-Value.word
    (sym c.is_among.ensures ∙ c.if-is_among.false) c.in-Value.is c.in_ok-word-in-Value.ensures c.in_ok-push-in-Value.ensures.items

pub returns-in_default-kind : goal.returns-in_default-kind
returns-in_default-kind g c = λ options l sound at are.
    let found = one_value options l c.args.index c.args.option.now c.in-Some.default c.args.seen.now sound at c.in-Some.is are in absurd (c.in_default-kind.not-Value found.0 found.1 found.2)
