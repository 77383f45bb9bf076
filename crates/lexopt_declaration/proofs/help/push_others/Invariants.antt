use Rattle.std.proofs.Common.{◌≡◌, ◌++◌, codes, map, take, option_map, string_bytes}
use Rattle.std.specs.List.{flat_map}
use Rattle.lexopt_options_spec.specs.Help.{option_mark, sharing, visible}
use Rattle.lexopt_declaration.specs.Models.{option_view}
use Rattle.lexopt_declaration.proofs.help.push_others.Given as goal

abbrev pub invariant-loop-option : goal.invariant-loop-option
invariant-loop-option g l =
    string_bytes l.mark ≡ string_bytes l.fn.mark
    ++ flat_map (λ o. codes " | " ++ option_mark o) (sharing (option_map (λ own. own.now) l.text) (visible (map option_view (take l.option-index l.options))))
