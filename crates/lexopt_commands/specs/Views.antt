-- What the words after the general options mean, and where a word is typed, as contracts see it.
use Rattle.lexopt_commands.specs.declared.complete.Place.{Place}
use Rattle.lexopt_commands.specs.declared.complete.Place.TheVariants as place
use Rattle.lexopt_commands.specs.declared.read.Meaning.{Meaning}
use Rattle.lexopt_commands.specs.declared.read.Meaning.TheVariants as meaning
use Rattle.lexopt_commands.specs.Completions as places
use Rattle.lexopt_commands.specs.Meanings as spec

abbrev pub meaning_view : {C : Type 0} → Meaning C → spec.Meaning C
meaning_view (meaning.Command name key own) = spec.command name.now key own.items
meaning_view meaning.Help = spec.help
meaning_view meaning.Missing = spec.missing
meaning_view (meaning.Unknown word rest) = spec.unknown word rest.items

abbrev pub place_view : {C : Type 0} → Place C → places.Place C
place_view (place.Command name key own) = places.in_command name.now key own.items
place_view place.Help = places.at_help
place_view place.Nowhere = places.nowhere
