-- How many values the option at an index has.
use Rattle.std.specs.Prelude.{ℕ, List, option_map, slice_get, unwrap_or}
use Rattle.lexopt_line_spec.specs.Table.{Kind, flag}
use Rattle.lexopt_options_spec.specs.Declaration.{Declared}

-- a flag, if there is no such option
abbrev pub kind_at : List Declared → ℕ → Kind
kind_at options index = unwrap_or (option_map (λ o. o.kind) (slice_get options index)) flag
