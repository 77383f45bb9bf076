-- Where the rest of a line begins, by the types of the code.
use Rattle.std.specs.Prelude.{Bool, true, false}
use Rattle.lexopt_options_spec.specs.Rest as spec
use Rattle.lexopt_options.specs.declared.rest.RestStart.{RestStart}
use Rattle.lexopt_options.specs.declared.rest.RestStart.TheVariants.{Separated, Surplus}

abbrev pub start_view : RestStart → spec.RestStart
start_view Surplus = spec.surplus
start_view Separated = spec.separated

-- a rest begins with a positional because the separator is before it, as this tells
abbrev pub is_separated : RestStart → Bool → Bool
is_separated Surplus ended = false
is_separated Separated ended = ended

-- a rest begins with a positional that is one too many, or that has the separator before it, as
-- this tells
abbrev pub begins_here : RestStart → Bool → Bool
begins_here Surplus ended = true
begins_here Separated ended = ended
