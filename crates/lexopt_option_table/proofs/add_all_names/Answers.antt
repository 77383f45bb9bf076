use Rattle.std.proofs.Common.{arith, subst, sym}
use Rattle.lexopt_option_table.specs.Tables.{AddsNames}
use Rattle.lexopt_option_table.proofs.Tables.{adds_alias, all_so_far, none_so_far}
use Rattle.lexopt_option_table.proofs.add_all_names.Goals as goal

pub loop-names-init : goal.loop-names-init
loop-names-init g c =
    subst (λ names. AddsNames names c.args.shorts.now.items c.args.longs.now.items c.add_names.new.shorts.items c.add_names.new.longs.items)
    (sym (none_so_far c.args.option.now.names c.args.option.now.aliases.now)) c.in_ok-add_names.ensures

pub loop-names-preserved : goal.loop-names-preserved
loop-names-preserved g c =
    adds_alias c.args.option.now.names c.args.option.now.aliases.now c.loop-names.names-index _ _ _ _ _ _ _ c.loop-names-test.true c.loop-names.invariant c.in_ok-add_names-2.ensures

pub returns : goal.returns
returns g c =
    subst (λ names. AddsNames names c.args.shorts.now.items c.args.longs.now.items c.loop-names.shorts.items c.loop-names.longs.items)
    (all_so_far c.args.option.now c.loop-names.names-index (omega (arith, c.loop-names-test.false))) c.loop-names.invariant
