use Rattle.lexopt_options.proofs.Common.{arith, map, subst, sym, ◌∙◌, at_drop_all, positional_view, greedy, owners, parsed_words}
use Rattle.lexopt_options.proofs.TakenWords.{IsAt, at_end, at_next, at_no_place, at_refused, parsed_no_word, parsed_word}
use Rattle.lexopt_options.proofs.taken.first_refusal.Goals.{in-Positional, in-Some+in_ok-mistake+in_default-2, in_default-place_of, in_default}
use Rattle.lexopt_options.proofs.taken.first_refusal.Goals as goal

pub returns-in-Some-2 : goal.returns-in-Some-2
returns-in-Some-2 g c =
    let ps = map positional_view c.args.positionals.now in
    let word = parsed_word c.args.parsed.now c.loop-own.own-index c.own-item.result c.in-Positional.field-0 c.in-Positional.word c.loop-own-test.true c.own-item.is c.in-Positional.is in
    let found = rw c.in-Some-2.is at c.in_ok-mistake.ensures in
    (c.in-Some.place, c.in-Positional.word, at_refused ps (owners 0 (greedy ps c.args.spare)) _ _ _ c.in-Positional.word c.loop-own.index c.in-Some.place c.loop-own.invariant.1 word (sym c.place_of.ensures ∙ c.in-Some.is) found.0, found.1)

pub loop-own-preserved : goal.loop-own-preserved
loop-own-preserved g c =
    let ps = map positional_view c.args.positionals.now in
    let places = owners 0 (greedy ps c.args.spare) in
    let k = c.loop-own.own-index in
    let all = parsed_words c.args.parsed.now in
    let at = c.loop-own.invariant in
    elim c.match-own.branch [
      | in-Positional w ↦
          let word = parsed_word c.args.parsed.now k c.own-item.result w.in-Positional.field-0 w.in-Positional.word c.loop-own-test.true c.own-item.is w.in-Positional.is in
          elim w.match-place_of.branch [
            | in-Some+in_ok-mistake+in_default-2 v ↦
                (omega (arith, w.index-is, at.0), subst (IsAt ps places all _) (sym w.index-is) (at_next ps places all _ _ w.in-Positional.word c.loop-own.index v.in-Some.place at.1 word (sym w.place_of.ensures ∙ v.in-Some.is) (rw v.in_default-2.is at v.in_ok-mistake.ensures)))
            | in_default-place_of v ↦
                (omega (arith, w.index-is, at.0), subst (IsAt ps places all _) (sym w.index-is) (at_no_place ps places all _ _ w.in-Positional.word c.loop-own.index at.1 word (sym w.place_of.ensures ∙ v.in_default-place_of.is)))
          ]
      | in_default w ↦
          (omega (arith, w.index-is, at.0), subst (IsAt ps places all _) (sym w.index-is) (subst (λ l. IsAt ps places all l c.loop-own.index) (parsed_no_word c.args.parsed.now k c.own-item.result c.loop-own-test.true c.own-item.is (λ key word is. w.in_default.not-Positional key word is)) at.1))
    ]

pub returns : goal.returns
returns g c =
    let ps = map positional_view c.args.positionals.now in
    at_end ps (owners 0 (greedy ps c.args.spare)) _ _ c.loop-own.index c.loop-own.invariant.1 (at_drop_all parsed_words c.args.parsed.now c.loop-own.own-index (omega (arith, c.loop-own-test.false)))
