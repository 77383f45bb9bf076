use Rattle.std.proofs.Common.{◌≡◌, ◌++◌, ◌∙◌, [], None, ap, append-nil, arith, map, refl, sym}
use Rattle.std.proofs.lemmas.List.{take_all}
use Rattle.lexopt_options_spec.specs.Declarable.{first_fault}
use Rattle.lexopt_options_spec.specs.Declaration as spec
use Rattle.lexopt_options_spec.specs.Declaration.{are_clear, are_listable}
use Rattle.lexopt_declaration.specs.Models.{option_view, positional_view}
use Rattle.lexopt_runtime_options.specs.Combined.{with_options}
use Rattle.lexopt_runtime_options.specs.Shared.{own_option, shared_option, with_kind}
use Rattle.lexopt_runtime_options.proofs.SharedOptions.{one_more, views_are}
use Rattle.lexopt_runtime_options.proofs.combined.Combined.with_shared.Goals as goal

pub loop-option-preserved : goal.loop-option-preserved
loop-option-preserved g c =
    one_more own_option c.args.declaration.now.options.now c.loop-option.option-index c.option-item.result c.with_kind.result [] _ _ c.loop-option-test.true c.option-item.is
    (c.with_kind.ensures ∙ ap (with_kind c.option-item.result) c.own_kind.ensures) c.in_ok-push.ensures.items c.loop-option.invariant

pub loop-option-2-init : goal.loop-option-2-init
loop-option-2-init g c =
    c.loop-option.invariant ∙ ap (map own_option) (take_all c.loop-option.option-index c.args.declaration.now.options.now (omega (arith, c.loop-option-test.false)))
    ∙ sym (append-nil (map own_option c.args.declaration.now.options.now))

pub loop-option-2-preserved : goal.loop-option-2-preserved
loop-option-2-preserved g c =
    one_more shared_option c.args.group.options.now c.loop-option-2.option-index c.option-item-in-loop-option-2.result c.with_kind-in-loop-option-2.result (map own_option c.args.declaration.now.options.now) _ _ c.loop-option-2-test.true
    c.option-item-in-loop-option-2.is (c.with_kind-in-loop-option-2.ensures ∙ ap (with_kind c.option-item-in-loop-option-2.result) c.shared_kind.ensures) c.in_ok-push-2.ensures.items c.loop-option-2.invariant

pub invariant_of-result-clause-sound : goal.invariant_of-result-clause-sound
invariant_of-result-clause-sound g c =
    let all = take_all c.loop-option-2.option-index c.args.group.options.now (omega (arith, c.loop-option-2-test.false)) in
    let options = c.loop-option-2.invariant ∙ ap (λ os. map own_option c.args.declaration.now.options.now ++ map shared_option os) all in
    ap first_fault (views_are c.args.declaration.now.options.now c.args.group.options.now _ options) ∙ c.requires.options

pub invariant_of-result-clause-clear : goal.invariant_of-result-clause-clear
invariant_of-result-clause-clear g c = ap (λ ps. are_clear (map positional_view ps)) c.frame_of.ensures.positionals ∙ c.requires.positionals

pub invariant_of-result-clause-listable : goal.invariant_of-result-clause-listable
invariant_of-result-clause-listable g c = ap (λ ps. are_listable (map positional_view ps)) c.frame_of.ensures.positionals ∙ c.requires.lists

pub returns : goal.returns
returns g c =
    let all = take_all c.loop-option-2.option-index c.args.group.options.now (omega (arith, c.loop-option-2-test.false)) in
    let options = c.loop-option-2.invariant ∙ ap (λ os. map own_option c.args.declaration.now.options.now ++ map shared_option os) all in (
      options,
      c.frame_of.ensures.positionals,
      ap (λ (d : spec.Declaration). record d { options = map option_view c.loop-option-2.options.items }) c.frame_of.ensures.view ∙ ap (with_options c.args.declaration.now) options,
    )
