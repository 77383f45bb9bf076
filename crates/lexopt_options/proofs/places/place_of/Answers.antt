use Rattle.lexopt_options.proofs.Common.{arith, map, sym, length-map, positional_view}
use Rattle.lexopt_options.proofs.Owners.{found_here, found_later, nothing_left, viewed}
use Rattle.lexopt_options.proofs.places.place_of.Goals as goal

pub returns-then-left-needed : goal.returns-then-left-needed
returns-then-left-needed g c =
    let rust = c.args.positionals.now in
    let k = c.loop-index.index in
    let item = c.index-positionals-index.result in
    sym (found_here (map positional_view rust) c.args.spare c.args.word k c.loop-index.left c.loop-index.spare (positional_view item) c.loop-index.invariant (omega (arith, c.loop-index-test.true, length-map rust positional_view))
    (viewed rust k item c.loop-index-test.true c.index-positionals-index.is) (omega (arith, c.if-left-needed.true, c.needs-needed.ensures)))

pub returns-then-left-more : goal.returns-then-left-more
returns-then-left-more g c =
    let rust = c.args.positionals.now in
    let k = c.loop-index.index in
    let item = c.index-positionals-index.result in
    sym (found_here (map positional_view rust) c.args.spare c.args.word k c.loop-index.left c.loop-index.spare (positional_view item) c.loop-index.invariant (omega (arith, c.loop-index-test.true, length-map rust positional_view))
    (viewed rust k item c.loop-index-test.true c.index-positionals-index.is) (omega (arith, c.if-left-needed.false, c.if-left-more.true, c.needs-needed.ensures, c.extra-more.ensures)))

pub loop-index-preserved : goal.loop-index-preserved
loop-index-preserved g c =
    let rust = c.args.positionals.now in
    let k = c.loop-index.index in
    let item = c.index-positionals-index.result in
    found_later (map positional_view rust) c.args.spare c.args.word k c.loop-index.left c.loop-index.spare _ _ (positional_view item) c.loop-index.invariant (omega (arith, c.loop-index-test.true, length-map rust positional_view))
    (viewed rust k item c.loop-index-test.true c.index-positionals-index.is) (omega (arith, c.if-left-needed.false, c.if-left-more.false, c.needs-needed.ensures, c.extra-more.ensures))
    (omega (arith, c.needs-needed.ensures, c.extra-more.ensures)) (omega (arith, c.extra-more.ensures))

pub returns : goal.returns
returns g c =
    let rust = c.args.positionals.now in
    sym (nothing_left (map positional_view rust) c.args.spare c.args.word c.loop-index.left c.loop-index.spare c.loop-index.index (omega (arith, c.loop-index-test.false, length-map rust positional_view)) c.loop-index.invariant)
