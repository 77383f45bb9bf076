use Rattle.std.proofs.Common.{ap, arith, below_more, false, map, option_map, sym, ℕ, ◌∙◌, ◌≡◌}
use Rattle.lexopt_options_spec.specs.Declaration.{has}
use Rattle.lexopt_options_spec.specs.Legal.{clash}
use Rattle.lexopt_declaration.specs.Models.{option_view}
use Rattle.lexopt_options.proofs.Accepted.{at_place}
use Rattle.lexopt_options.proofs.Seen.{none_past, unread_apart}
use Rattle.lexopt_options.proofs.read.first_clash.Goals.{then-is_among+in_default, else-is_among}
use Rattle.lexopt_options.proofs.read.first_clash.Goals as goal

pub returns-in-Some : goal.returns-in-Some
returns-in-Some g c =
    let options = c.args.options.now in
    let found = c.in-Some.ensures in (
      c.loop-index.index,
      found.0,
      record { here = found.1; first = c.loop-index.invariant; nearest = found.2 },
      ap (option_map (λ o. o.names)) (at_place options c.loop-index.index c.index-options-index.result c.loop-index-test.true c.index-options-index.is),
      found.3,
    )

pub loop-index-preserved : goal.loop-index-preserved
loop-index-preserved g c = λ i j below.
    below_more (λ k. (m : ℕ) → clash (map option_view c.args.options.now) (λ n. has n c.args.seen.now) k m ≡ false) c.loop-index.index (λ k less m. c.loop-index.invariant k m less) (elim c.if-is_among.branch [
      | then-is_among+in_default w ↦ rw w.in_default.is at w.first_excluded.ensures
      | else-is_among w ↦ λ m. unread_apart _ _ _ (sym c.is_among.ensures ∙ w.if-is_among.false)
    ]) i below j

pub returns : goal.returns
returns g c = λ i j. none_past c.args.options.now (λ k. has k c.args.seen.now) i j (λ within other_within. c.loop-index.invariant i j (grind (arith, within)))
