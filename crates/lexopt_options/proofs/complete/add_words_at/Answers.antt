use Rattle.lexopt_options.proofs.Common.{ap, map, option_map, string_bytes, ◌∙◌, slice_get-map, positional_view}
use Rattle.lexopt_options.proofs.Accepted.{at_place}
use Rattle.lexopt_options.proofs.Completing.{no_words_past}
use Rattle.lexopt_options.proofs.complete.add_words_at.Goals as goal

pub returns-in-Some : goal.returns-in-Some
returns-in-Some g c =
    let ps = c.args.positionals.now in
    let at = c.in-Some.ensures.lookup in
    let there = slice_get-map positional_view ps c.args.index ∙ ap (option_map positional_view) (at_place ps c.args.index c.in-Some.positional.now at.3.0 at.1) in
    rw (there, ← c.as_bytes.ensures) c.add_values.ensures

pub returns-in-None : goal.returns-in-None
returns-in-None g c = no_words_past c.args.positionals.now c.args.typed.now c.args.index (map string_bytes c.args.values.now.items) c.in-None.ensures.lookup.3
