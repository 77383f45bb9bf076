-- The result of `advance`, as a reply.
use Rattle.std.specs.Prelude.{Option, Some, None, Result, Ok, Err}
use Rattle.lexopt_spec.specs.UnreadLine.{LastOption, no_option, short_option, long_option}
use Rattle.lexopt_spec.specs.Steps.{Reply, short, long, positional, end}
use Rattle.lexopt_base.specs.declared.parser.Found.{Found}
use Rattle.lexopt_base.specs.declared.parser.Found.TheVariants as found
use Rattle.lexopt_base.specs.declared.refusal.Refusal.{Refusal}
use Rattle.lexopt_base.specs.Refusals.{refusal_reply}

-- the reply for the last option, if that is a long option
abbrev pub name_of : LastOption → Option Reply
name_of no_option = None
name_of (short_option c) = None
name_of (long_option name) = Some (long name)

-- the reply for what was found, where `last` is now the last option
abbrev pub found_as : LastOption → Found → Option Reply
found_as last (found.Short c) = Some (short c)
found_as last found.Long = name_of last
found_as last (found.Value word) = Some (positional word)
found_as last found.End = Some end

-- the reply for a result of `advance`, where `last` is now the last option
abbrev pub advance_reply : LastOption → Result Found Refusal → Option Reply
advance_reply last (Ok f) = found_as last f
advance_reply last (Err refused) = Some (refusal_reply refused)
