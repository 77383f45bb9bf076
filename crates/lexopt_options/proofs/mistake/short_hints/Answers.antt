use Rattle.std.proofs.Common.{ap, map, ◌++◌, ◌∙◌}
use Rattle.std.proofs.lemmas.Result.{IfOk-weaker}
use Rattle.lexopt_options_spec.specs.Nearest.{ending, long_names}
use Rattle.lexopt_declaration.specs.Models.{option_view}
use Rattle.lexopt_options.proofs.mistake.short_hints.Goals as goal

pub returns : goal.returns
returns g c =
    let names = ap (λ texts. map (λ text. text.now) texts) c.deref.ensures.value ∙ c.in_ok-names.ensures in
    let back = c.deref-2.ensures.value ∙ c.in_ok-extend_from_slice.ensures.items ∙ ap (λ front. front ++ c.args.rest.now) (ap (λ own. own.items) c.into_bytes-back.ensures.value ∙ c.in_ok-format.ensures.ok) in
    IfOk-weaker c.ending.result _ _ (λ hints is. is ∙ ap (λ from. ending from c.deref-2.result.now) names ∙ ap (ending (long_names (map option_view c.args.options.now))) back) c.ending.ensures
