use Rattle.std.proofs.Common.{◌≡◌, ◌<◌, ◌&&◌, Bool, List, filter, not, true, false, ap, length, subst, sym, take, map, ◌∙◌, arith}
use Rattle.std.proofs.lemmas.List.Concat.{concat_is}
use Rattle.std.proofs.lemmas.Grind.{common_steps}
use Rattle.std.specs.List.{AllZip}
use Rattle.lexopt_options_spec.specs.Declaration as spec
use Rattle.lexopt_options_spec.specs.Help.{IsOption, is_shown_by}
use Rattle.lexopt_declaration.specs.Models.{detail_view, option_view}
use Rattle.lexopt_options_spec.proofs.Wrapping.{listed_kept, listed_left_out}
use Rattle.lexopt_declaration.proofs.help.option_entries.Goals as goal

-- an option has an entry beside these
abbrev has_entry : List spec.Declared → spec.Declared → Bool
has_entry options o = not o.hidden && not (is_shown_by options o)

pub loop-option-preserved-then-not-has_entry : goal.loop-option-preserved-then-not-has_entry
loop-option-preserved-then-not-has_entry g c =
    listed_left_out option_view _ _ _ c.args.options.now c.loop-option.option-index _ _ c.loop-option-test.true (has_entry (map option_view c.args.options.now))
    (subst (λ o. has_entry (map option_view c.args.options.now) (option_view o) ≡ false) c.option-item.is (sym c.if-not-has_entry.ensures)) c.loop-option.invariant

pub loop-option-preserved : goal.loop-option-preserved
loop-option-preserved g c =
    let e = c.in_ok-push_option.ensures in
    let within : c.loop-option.option-index < length c.args.options.now = omega arith in
    listed_kept option_view _ _ _ c.args.options.now c.loop-option.option-index _ _ within (has_entry (map option_view c.args.options.now)) _ e.0
    (subst (λ o. has_entry (map option_view c.args.options.now) (option_view o) ≡ true) c.option-item.is (sym c.if-not-has_entry.ensures))
    c.loop-option.invariant
    (subst (λ o. IsOption (detail_view c.args.detail) c.args.width (option_view o) e.0) c.option-item.is e.1) e.2

pub returns : goal.returns
returns g c =
    let l = c.loop-option.invariant in
    let all : take c.loop-option.option-index c.args.options.now ≡ c.args.options.now = grind (arith, common_steps) in (
      l.texts,
      subst (λ os. AllZip (IsOption (detail_view c.args.detail) c.args.width) (filter (has_entry (map option_view c.args.options.now)) (map option_view os)) l.texts) all l.each,
      l.text_is ∙ sym (concat_is l.texts),
    )
