use Rattle.std.proofs.Common.{subst, sym}
use Rattle.lexopt_options.proofs.Accepted.{at_place}
use Rattle.lexopt_options.proofs.Defaults.{AreAdded, added_more, all_added}
use Rattle.lexopt_options.proofs.read.defaults_beside.Goals as goal

pub loop-index-init : goal.loop-index-init
loop-index-init g c = λ m are. subst (AreAdded c.args.options.now m 0) (sym c.new-defaults.ensures.items) tt

pub loop-index-preserved : goal.loop-index-preserved
loop-index-preserved g c = λ m are.
    let options = c.args.options.now in
    let option = c.index-options-index.result in
    added_more options m c.loop-index.index option c.loop-index.defaults.items c.add_default.new.defaults.items c.loop-index-test.true c.index-options-index.is (c.loop-index.invariant m are)
    (c.in_ok-add_default.ensures options m c.requires (at_place options c.loop-index.index option c.loop-index-test.true c.index-options-index.is) are)

pub returns : goal.returns
returns g c = λ m are. all_added c.args.options.now m c.loop-index.index c.loop-index.defaults.items c.loop-index-test.false (c.loop-index.invariant m are)
