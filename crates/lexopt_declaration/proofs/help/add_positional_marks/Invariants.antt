use Rattle.std.proofs.Common.{◌≡◌, ◌++◌, map, take, string_bytes}
use Rattle.lexopt_options_spec.specs.Help.{positional_mark}
use Rattle.lexopt_declaration.specs.Models.{positional_view}
use Rattle.lexopt_declaration.proofs.help.add_positional_marks.Given as goal

abbrev pub invariant-loop-positional : goal.invariant-loop-positional
invariant-loop-positional g l =
    map string_bytes l.marks.items ≡ map string_bytes l.fn.marks.items ++ map positional_mark (map positional_view (take l.positional-index l.positionals))
