use Rattle.lexopt_options.proofs.Common.{ap, arith, map, sym, ◌∙◌, false≢true, length-map, positional_view}
use Rattle.lexopt_options.proofs.TakenWords.{all_owners, no_owners, not_owner, one_owner}
use Rattle.lexopt_options.proofs.taken.owners_of.Goals.{then-can_own+in_ok-push, else-can_own}
use Rattle.lexopt_options.proofs.taken.owners_of.Goals as goal

pub loop-index-init : goal.loop-index-init
loop-index-init g c = no_owners (map positional_view c.args.positionals.now) c.args.words.now _ c.in_ok-owners.ensures.items

pub loop-index-preserved : goal.loop-index-preserved
loop-index-preserved g c =
    let ps = map positional_view c.args.positionals.now in
    let n = c.loop-index.index in
    let are = c.loop-index.invariant in
    elim c.if-can_own.branch [
      | then-can_own+in_ok-push w ↦ one_owner ps c.args.words.now n _ _ are (c.can_own.ensures.0 w.if-can_own.true) (ap (λ v. v.items) w.owners-is ∙ w.in_ok-push.ensures.items)
      | else-can_own w ↦ rw w.owners-is (not_owner ps c.args.words.now n _ are (λ own. false≢true (sym w.if-can_own.false ∙ c.can_own.ensures.1 own)))
    ]

pub returns : goal.returns
returns g c = all_owners (map positional_view c.args.positionals.now) c.args.words.now c.loop-index.index c.loop-index.owners.items c.loop-index.invariant (omega (arith, c.loop-index-test.false, length-map c.args.positionals.now positional_view))
