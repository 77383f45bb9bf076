use Rattle.std.proofs.Common.{◌≡◌, ◌++◌, [], drop, map, take, string_bytes}
use Rattle.lexopt_options_spec.specs.Help.{choices, visible}
use Rattle.lexopt_declaration.specs.Models.{option_view}
use Rattle.lexopt_declaration.proofs.help.add_choices.Given as goal

abbrev pub invariant-loop-index : goal.invariant-loop-index
invariant-loop-index g l =
    map string_bytes l.marks.items ++ choices (visible (map option_view (take l.index l.options))) (visible (map option_view (drop l.index l.options)))
    ≡ map string_bytes l.fn.marks.items ++ choices [] (visible (map option_view l.options))
