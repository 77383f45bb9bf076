use Rattle.lexopt_options.proofs.Common.{refl, subst, sym, IsSome, declaration_of, options_of}
use Rattle.lexopt_options.proofs.Completing.{all_named, none_begins, none_stands, offered_all}
use Rattle.lexopt_options.proofs.options.Options.spellings_for.Goals as goal

pub returns-then-begins_otherwise : goal.returns-then-begins_otherwise
returns-then-begins_otherwise g c = λ words is.
    let otherwise = c.begins_otherwise.ensures c.if-begins_otherwise.true in
    rw c.new.ensures.items
    (none_begins (declaration_of c.args.self.now) words c.args.typed.now otherwise.0 otherwise.1)

pub returns-then-not-can_come : goal.returns-then-not-can_come
returns-then-not-can_come g c = λ words is.
    let d = declaration_of c.args.self.now in
    rw c.new-then-not-can_come.ensures.items
    (none_stands d words c.args.typed.now (rw c.if-not-can_come.true at (c.can_come.ensures words is)))

pub returns-in-Some : goal.returns-in-Some
returns-in-Some g c =
    let d = declaration_of c.args.self.now in
    offered_all d c.args.typed.now c.spellings_of.result _ c.args.front.now c.seen_of.result.now c.as_bytes.result.now c.args.self.now.sound c.args.self.now.listable (all_named (options_of c.args.self.now)) (c.to_str.ensures.exactly_on_utf8.0 (subst IsSome (sym c.in-Some.is) refl))
    (λ words is. rw c.if-not-can_come.false at (c.can_come.ensures words is))
    c.seen_of.ensures c.options.ensures.view c.as_bytes.ensures c.spellings_of.ensures.text c.spellings_of.ensures.spellings
