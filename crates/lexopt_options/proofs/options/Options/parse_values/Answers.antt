use Rattle.lexopt_options.proofs.Common.{◌∙◌, Bool, ap, position, rules, subst, tests, YieldsList-from_slice, position_from_yields_List, Declared, names_at, options_of}
use Rattle.lexopt_options.specs.Usage.{ConvertsFor, is_values}
use Rattle.lexopt_options.proofs.options.Options.parse_values.Goals as goal

pub returns : goal.returns
returns g c =
    let is : Declared _ _ _ _ → Bool = λ o. is_values g.S.PartialEq.eq c.args.key o.kind in
    let place = position_from_yields_List is _ _ c.position-place.result c.position-place.ensures.ran (YieldsList-from_slice c.options.result.now cc) (λ x b q k. search (rules, tests)) in
    rw (place ∙ ap (position is) c.options.ensures.same) at c.parse_for.ensures
