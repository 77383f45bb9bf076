use Rattle.std.proofs.Common.{◌&&◌, ℕ, List, [], filter, map, not, take, string_bytes}
use Rattle.lexopt_options_spec.specs.Help.{IsOption, is_shown_by}
use Rattle.lexopt_declaration.specs.Models.{detail_view, option_view}
use Rattle.lexopt_options_spec.proofs.Wrapping.{Listed}
use Rattle.lexopt_declaration.proofs.help.option_entries.Given as goal

abbrev pub invariant-loop-option : goal.invariant-loop-option
invariant-loop-option g l =
    Listed (IsOption (detail_view l.detail) l.width) (λ (entry : List ℕ). entry) []
    (filter (λ o. not o.hidden && not (is_shown_by (map option_view l.options) o)) (map option_view (take l.option-index l.options))) (string_bytes l.text)
