use Rattle.lexopt_options.proofs.Common.{◌≡◌, ◌++◌, map, string_bytes, take, flat_map, positional_view}
use Rattle.lexopt_options.specs.Completions.{words_so}
use Rattle.lexopt_options.proofs.complete.add_words.Given as goal

abbrev pub invariant-loop-index : goal.invariant-loop-index
invariant-loop-index g l = map string_bytes l.values.items ≡ map string_bytes l.fn.values.items ++ flat_map (words_so (map positional_view l.positionals) l.typed) (take l.index-index l.arguments)
