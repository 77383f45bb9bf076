use Rattle.lexopt_options.proofs.Common.{◌∙◌, map, refl, sym, positional_view}
use Rattle.lexopt_options.proofs.Owners.{has_its_key, no_place, place_past, place_there}
use Rattle.lexopt_options.proofs.places.key_of.Goals as goal

pub returns-in-Some-get : goal.returns-in-Some-get
returns-in-Some-get g c = λ places count are spare below.
    let rust = c.args.positionals.now in
    let i = c.in-Some.index in
    let at = c.in-Some-get.ensures.lookup in
    (c.in-Some-get.positional.now.key, i, refl, place_there (map positional_view rust) count places c.args.spare c.args.word i are spare below (sym c.place_of.ensures ∙ c.in-Some.is), has_its_key rust i c.in-Some-get.positional.now at.3.0 at.1)

pub returns-in-None-get : goal.returns-in-None-get
returns-in-None-get g c = λ places count are spare below.
    absurd (place_past c.args.positionals.now c.args.spare c.args.word c.in-Some.index c.in-None-get.ensures.lookup.3 (sym c.place_of.ensures ∙ c.in-Some.is))

pub returns-in-None : goal.returns-in-None
returns-in-None g c = λ places count are spare below.
    absurd (no_place (map positional_view c.args.positionals.now) count places c.args.spare c.args.word are spare below (sym c.place_of.ensures ∙ c.in-None.is))
