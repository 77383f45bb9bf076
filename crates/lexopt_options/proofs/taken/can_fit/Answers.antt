use Rattle.lexopt_options.proofs.Common.{arith, map, refl, sym, ◌-◌, ◌≤◌, ◌∙◌, false≢true, positional_view, least, Fits}
use Rattle.lexopt_options.proofs.TakenWords.{and_not, none_fits}
use Rattle.lexopt_options.proofs.taken.can_fit.Goals as goal

pub returns-then-fit : goal.returns-then-fit
returns-then-fit g c =
    let both = (c.most_spare-spare-end.ensures c.loop-spare.spare).0 c.loop-spare-test.true in
    let low : c.args.count - least (map positional_view c.args.positionals.now) ≤ c.loop-spare.spare = omega (arith, c.spare_of-spare.ensures, c.loop-spare.auto.spare) in
    ((λ yes. (c.loop-spare.spare, record { low = low; high = both.0; within = both.1 }, c.fit.ensures.0 c.if-fit.true)), (λ there. refl))

pub loop-spare-preserved : goal.loop-spare-preserved
loop-spare-preserved g c =
    and_not (λ s. Fits (map positional_view c.args.positionals.now) c.args.words.now c.args.next s) (c.args.count - least (map positional_view c.args.positionals.now)) c.loop-spare.spare c.loop-spare.invariant
    (λ fits. false≢true (sym c.if-fit.false ∙ c.fit.ensures.1 fits))

pub returns : goal.returns
returns g c =
    let ps = map positional_view c.args.positionals.now in
    let never = none_fits ps c.args.words.now c.args.count c.most_spare-spare-end.result c.loop-spare.spare c.args.next c.most_spare-spare-end.ensures c.loop-spare-test.false c.loop-spare.invariant in
    ((λ yes. absurd (false≢true yes)), (λ there. absurd (never there)))

pub returns-else-fit : goal.returns-else-fit
returns-else-fit g c =
    let ps = map positional_view c.args.positionals.now in
    let none = and_not (λ s. Fits ps c.args.words.now c.args.next s) (c.args.count - least ps) c.loop-spare.spare c.loop-spare.invariant (λ fits. false≢true (sym c.if-fit.false ∙ c.fit.ensures.1 fits)) in
    let never = none_fits ps c.args.words.now c.args.count c.most_spare-spare-end.result _ c.args.next c.most_spare-spare-end.ensures (omega (arith, c.if-spare-spare-end.false)) none in
    ((λ yes. absurd (false≢true yes)), (λ there. absurd (never there)))
