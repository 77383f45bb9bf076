use Rattle.std.proofs.Common.{Bool, ap, arith, below_more, not, option_map, sym, ◌∙◌, ℕ}
use Rattle.std.proofs.lemmas.Bool.{and_from, eq-eqb, ne_eqb}
use Rattle.lexopt_options_spec.specs.Declaration.{has}
use Rattle.lexopt_options.proofs.Accepted.{at_place}
use Rattle.lexopt_options.proofs.Seen.{clash_at, itself_apart, none_past, text_apart, unseen_apart}
use Rattle.lexopt_options.proofs.read.first_excluded.Goals.{else-other-index-via-then-other-index+then-are_same+else-is_among, else-other-index-via-then-other-index+else-are_same, else-other-index-via-else-other-index}
use Rattle.lexopt_options.proofs.read.first_excluded.Goals as goal

pub returns-then-is_among : goal.returns-then-is_among
returns-then-is_among g c =
    let options = c.args.options.now in
    let other = c.loop-other.other in
    let at = at_place options other c.index-options-other.result c.loop-other-test.true c.index-options-other.is in (
      other,
      clash_at options (λ k. has k c.args.seen.now) c.args.index other c.args.option.now c.index-options-other.result c.requires.here at
          ∙ and_from _ _ (and_from _ _ (ap not (ne_eqb other c.args.index c.if-other-index.true)) (sym c.are_same.ensures ∙ c.if-are_same.true))
          (and_from _ _ c.requires.seen (sym c.is_among.ensures ∙ c.if-is_among.true)),
      c.loop-other.invariant,
      ap (option_map (λ o. o.names)) at,
    )

pub loop-other-preserved : goal.loop-other-preserved
loop-other-preserved g c =
    let options = c.args.options.now in
    let other = c.loop-other.other in
    let there : ℕ → Bool = λ k. has k c.args.seen.now in
    let at = at_place options other c.index-options-other.result c.loop-other-test.true c.index-options-other.is in
    let is = clash_at options there c.args.index other c.args.option.now c.index-options-other.result c.requires.here at in
    below_more _ _ c.loop-other.invariant (elim c.else-other-index.branch [
      | else-other-index-via-then-other-index+then-are_same+else-is_among w ↦ is ∙ unseen_apart _ _ _ (sym w.is_among.ensures ∙ w.if-is_among.false)
      | else-other-index-via-then-other-index+else-are_same w ↦ is ∙ text_apart _ _ _ (sym w.are_same.ensures ∙ w.if-are_same.false)
      | else-other-index-via-else-other-index w ↦ is ∙ itself_apart _ _ _ (ap not (eq-eqb other c.args.index w.if-other-index.false))
    ])

pub returns : goal.returns
returns g c = λ other.
    none_past c.args.options.now (λ k. has k c.args.seen.now) c.args.index other (λ within other_within. c.loop-other.invariant other (grind (arith, other_within)))
