use Rattle.std.proofs.Common.{ap, length, option_map, refl, sym, ◌∙◌}
use Rattle.std.proofs.lemmas.Option.{slice_get_past, slice_get_read}
use Rattle.lexopt_declaration.specs.Lookups.{names_at}
use Rattle.lexopt_declaration.proofs.lookup.names_of.Goals as goal

pub returns-in-Some : goal.returns-in-Some
returns-in-Some g c =
    sym (ap (names_at c.args.options.now) c.in_ok-index.was
    ∙ ap (option_map (λ o. o.names)) (slice_get_read c.args.options.now (length c.args.options.now) c.in_ok-index.field-0 c.in-Some.option.now refl c.in-Some.ensures.lookup.3.0 c.in-Some.ensures.lookup.1))

pub returns-in-None : goal.returns-in-None
returns-in-None g c =
    sym (ap (names_at c.args.options.now) c.in_ok-index.was
    ∙ ap (option_map (λ o. o.names)) (slice_get_past c.args.options.now c.in_ok-index.field-0 (rw c.in-None.is at c.get.ensures.lookup.3)))
