use Rattle.lexopt_options.proofs.Common.{ap, arith, is_none, map, sym, ◌∙◌, drop_all, positional_view, greedy, owners}
use Rattle.lexopt_options.proofs.TakenWords.{at_end, at_next, at_no_place, at_refused, takes_all, word_next}
use Rattle.lexopt_options.proofs.taken.are_taken.Goals.{in-Some+else-not-takes_at, in_default}
use Rattle.lexopt_options.proofs.taken.are_taken.Goals as goal

pub returns-then-not-any_has_list : goal.returns-then-not-any_has_list
returns-then-not-any_has_list g c =
    let ps = map positional_view c.args.positionals.now in
    sym (ap is_none (takes_all c.args.positionals.now (owners 0 (greedy ps c.args.spare)) c.args.words.now (sym c.any_has_list.ensures ∙ c.if-not-any_has_list.true)))

pub returns-then-not-takes_at : goal.returns-then-not-takes_at
returns-then-not-takes_at g c =
    let ps = map positional_view c.args.positionals.now in
    let word = word_next c.args.words.now c.loop-index.index c.index-words-index.result c.loop-index-test.true c.index-words-index.is in
    sym (ap is_none (at_refused ps (owners 0 (greedy ps c.args.spare)) _ _ _ c.index-words-index.result c.loop-index.index c.in-Some.place c.loop-index.invariant word (sym c.place_of.ensures ∙ c.in-Some.is) (sym c.takes_at.ensures ∙ c.if-not-takes_at.true)))

pub loop-index-preserved : goal.loop-index-preserved
loop-index-preserved g c =
    let ps = map positional_view c.args.positionals.now in
    let places = owners 0 (greedy ps c.args.spare) in
    let word = word_next c.args.words.now c.loop-index.index c.index-words-index.result c.loop-index-test.true c.index-words-index.is in
    elim c.match-place_of.branch [
      | in-Some+else-not-takes_at v ↦
          at_next ps places _ _ _ c.index-words-index.result c.loop-index.index v.in-Some.place c.loop-index.invariant word (sym c.place_of.ensures ∙ v.in-Some.is) (sym v.takes_at.ensures ∙ v.if-not-takes_at.false)
      | in_default v ↦ at_no_place ps places _ _ _ c.index-words-index.result c.loop-index.index c.loop-index.invariant word (sym c.place_of.ensures ∙ v.in_default.is)
    ]

pub returns : goal.returns
returns g c =
    let ps = map positional_view c.args.positionals.now in
    sym (ap is_none (at_end ps (owners 0 (greedy ps c.args.spare)) _ _ c.loop-index.index c.loop-index.invariant (drop_all c.loop-index.index c.args.words.now (omega (arith, c.loop-index-test.false)))))
