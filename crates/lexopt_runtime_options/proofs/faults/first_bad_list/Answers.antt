use Rattle.std.proofs.Common.{◌∙◌, ◌≡◌, ap, length, not, option_map, refl, subst, sym}
use Rattle.std.proofs.lemmas.Option.{slice_get_read}
use Rattle.lexopt_options_spec.specs.Declaration.{list_fault}
use Rattle.lexopt_declaration.specs.Models.{words_view}
use Rattle.lexopt_runtime_options.specs.Faults.{reason_view}
use Rattle.lexopt_runtime_options.proofs.BadLists.{all_listable, bad_here, good_here}
use Rattle.lexopt_runtime_options.proofs.faults.first_bad_list.Goals as goal

pub returns-then-is_some : goal.returns-then-is_some
returns-then-is_some g c = (
  c.loop-argument.argument-index,
  bad_here c.args.positionals.now c.loop-argument.argument-index c.argument-item.result c.list_fault.result c.loop-argument-test.true
      (subst (λ p. option_map reason_view c.list_fault.result ≡ list_fault (words_view p.words)) c.argument-item.is c.list_fault.ensures) (ap not (sym c.is_some.ensures ∙ c.if-is_some.true)) c.loop-argument.invariant,
  ap (option_map (λ p. p.placeholder)) (slice_get_read c.args.positionals.now (length c.args.positionals.now) c.loop-argument.argument-index c.argument-item.result refl c.loop-argument-test.true c.argument-item.is),
)

pub loop-argument-preserved : goal.loop-argument-preserved
loop-argument-preserved g c =
    good_here c.args.positionals.now c.loop-argument.argument-index c.argument-item.result c.list_fault.result c.loop-argument-test.true
    (subst (λ p. option_map reason_view c.list_fault.result ≡ list_fault (words_view p.words)) c.argument-item.is c.list_fault.ensures) (ap not (sym c.is_some.ensures ∙ c.if-is_some.false)) c.loop-argument.invariant

pub returns : goal.returns
returns g c = all_listable c.args.positionals.now c.loop-argument.argument-index c.loop-argument-test.false c.loop-argument.invariant
