use Rattle.lexopt_declaration.proofs.Common.{◌≡◌, ◌++◌, false, map, take, flat_map, offered, spelled, names_list, spelling_view}
use Rattle.lexopt_declaration.proofs.spellings.add_aliases.Given as goal

abbrev pub invariant-loop-names : goal.invariant-loop-names
invariant-loop-names l =
    map spelling_view l.spellings.items ≡ map spelling_view l.initial.spellings.items ++ offered l.typed (spelled l.help false (flat_map names_list (take l.names-index l.aliases)))
