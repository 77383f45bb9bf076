-- What a program whose line ends with a rest has to do about its words, or about a request of a shell.
-- The source is `docs/behaviour.md`.
use Rattle.std.specs.Prelude.{◌≡◌, ◌≢◌, ◌⊎◌, ◌++◌, ◌∷◌, ◌==◌, ◌&&◌, ℕ, Bool, true, false, not}
use Rattle.std.specs.Prelude.{if◌then◌else◌, List, [], codes, length, string_bytes}
use Rattle.std.specs.Prelude.{Vec}
use Rattle.std.specs.Fmt.{decimal}
use Rattle.std.specs.Global.{Global}
use Rattle.std.specs.declared.convert.Infallible.{Infallible}
use Rattle.lexopt_spec.specs.UnreadLine.{dash}
use Rattle.lexopt_options_spec.specs.Declaration as spec
use Rattle.lexopt_options_spec.specs.Declaration.{Count, any_number, at_most_once, files, once}
use Rattle.lexopt_options_spec.specs.Help.{line_feed}
use Rattle.lexopt_options_spec.specs.Rest.{HaveNoRest, IsSplit}
use Rattle.lexopt_declaration.specs.Lookups.{help_names}
use Rattle.lexopt_options.specs.declared.mistake.Mistake.TheVariants.{MissingArgument}
use Rattle.lexopt_options.specs.declared.parsed.Asked as rust
use Rattle.lexopt_options.specs.declared.parsed.Parsed.{Parsed}
use Rattle.lexopt_options.specs.declared.refused.Line.TheVariants as line
use Rattle.lexopt_options.specs.declared.refused.Refused.{Refused}
use Rattle.lexopt_options.specs.declared.request.Request.{Request}
use Rattle.lexopt_options.specs.declared.request.Request.TheVariants as request
use Rattle.lexopt_options.specs.Answers.{IsAskedText, IsCompletionText, IsUnknownRequest, script_lines}
use Rattle.lexopt_options.specs.Begun.{TellsRest}
use Rattle.lexopt_options.specs.Declarations.{declaration_of, options_of}
use Rattle.lexopt_options.specs.Keys.{asked_view}
use Rattle.lexopt_options.specs.RestLines.{IsRestRead}
use Rattle.lexopt_options.specs.RestStarts.{start_view}
use Rattle.lexopt_options.specs.declared.rest.RestStart.{RestStart}
use Rattle.lexopt_options.specs.declared.rest.RestStart.TheVariants.{Separated, Surplus}
use Rattle.lexopt_commands.specs.Help.{usage_positional}
use Rattle.lexopt_commands.specs.declared.call.Call.{Call}
use Rattle.lexopt_commands.specs.declared.wrapper.Rest.{Rest}
use Rattle.lexopt_commands.specs.declared.wrapper.Wrapper.{Wrapper}
use Rattle.lexopt_commands.specs.declared.wrapper.WrapperAnswer.{WrapperAnswer}
use Rattle.lexopt_commands.specs.declared.wrapper.WrapperAnswer.TheVariants as answer

-- ---- the help

abbrev pub rest_count : Bool → Count
rest_count true = once
rest_count false = at_most_once

-- how the usage line and the help show this placeholder of a rest
abbrev pub shown_by : RestStart → List ℕ → List ℕ
shown_by Surplus placeholder = placeholder
shown_by Separated placeholder = codes "-- " ++ (placeholder ++ codes "...")

abbrev pub rest_mark : Rest → List ℕ
rest_mark rest = shown_by rest.start rest.placeholder.now

-- the rest, or its first word, as a positional that is shown so
abbrev pub rest_positional : List ℕ → Rest → spec.Positional
rest_positional mark rest = record {
  placeholder = mark;
  count = rest_count rest.required;
  help = rest.help.now;
  words = files;
  hides_list = false;
}

abbrev pub argument_positional : spec.Positional
argument_positional = usage_positional (codes "ARGUMENT") any_number

-- the words after the first of a command line
abbrev pub arguments_if : RestStart → List spec.Positional
arguments_if Surplus = argument_positional ∷ []
arguments_if Separated = []

-- the rest as positionals, of which the first is shown so
abbrev pub rest_positionals : List ℕ → Rest → List spec.Positional
rest_positionals mark rest = rest_positional mark rest ∷ arguments_if rest.start

-- the declaration, with the rest as positionals
abbrev pub whole_of : {F V P M S : Type 0} → Wrapper F V P M S → spec.Declaration
whole_of w = record (declaration_of w.options) {
  positionals = (declaration_of w.options).positionals
      ++ rest_positionals (rest_mark w.rest) w.rest;
}

-- ---- completion

-- the line for a command line of which this many words come before the one that is typed
abbrev pub command_line : ℕ → List ℕ
command_line n = codes "command\t" ++ (decimal n ++ line_feed ∷ [])

abbrev pub begins_with_dash : List ℕ → Bool
begins_with_dash [] = false
begins_with_dash (b ∷ bs) = b == dash

-- the line for a rest of which this many words come before the one that is typed
abbrev pub rest_line : RestStart → ℕ → List ℕ
rest_line Surplus n = command_line n
rest_line Separated n = codes "files\n"

-- the text where this is typed after words without a rest, by what can come there of the options, and
-- by whether a rest can begin there
abbrev pub text_before : RestStart → List ℕ → Bool → List ℕ → List ℕ
text_before Surplus own begins typed =
    own ++ (if begins && not (begins_with_dash typed) then command_line 0 else [])
text_before Separated own begins typed = if begins then codes "files\n" else own

-- The words have a rest, which the shell completes as a command line or by the names of files. Or
-- they have none: what can come is that of the options, or the rest if it can begin there.
pub data IsWrapperText {F V P M S : Type 0} (w : Wrapper F V P M S) (words : List (List ℕ))
    (typed text : List ℕ) : Type 0 where
  in_rest : (front : List (List ℕ)) (word : List ℕ) (more : List (List ℕ))
      → IsSplit (start_view w.rest.start) (declaration_of w.options) words front word more
      → text ≡ rest_line w.rest.start (length (word ∷ more)) → IsWrapperText w words typed text
  before_rest : (own : List ℕ) (begins : Bool)
      → HaveNoRest (start_view w.rest.start) (declaration_of w.options) words
      → IsCompletionText w.options words typed own
      → TellsRest (start_view w.rest.start) (declaration_of w.options) words begins
      → text ≡ text_before w.rest.start own begins typed
      → IsWrapperText w words typed text

-- ---- the answer

-- the line means this, and the rest is required and missing
pub record LacksRest {F V P M S : Type 0} (w : Wrapper F V P M S) (words : List (List ℕ))
    (refused : Refused F V P M S) : Type 0 where
  pub required : w.rest.required ≡ true
  pub read : IsRestRead (start_view w.rest.start) w.options words [] (line.Parsed refused.before)
  pub program : refused.program.now ≡ (declaration_of w.options).program
  pub help : refused.help ≡ help_names (options_of w.options)
  pub mistake : refused.mistake ≡ MissingArgument w.rest.placeholder

-- the answer to these words, with the help at this width
abbrev pub IsWrapperAnswer : {F V P M S : Type 0} → Wrapper F V P M S → List (List ℕ) → ℕ
    → WrapperAnswer F V P M S → Type 0
IsWrapperAnswer w words width (answer.Parsed parsed rest) =
    IsRestRead (start_view w.rest.start) w.options words rest.items (line.Parsed parsed)
    × (w.rest.required ≡ true → rest.items ≢ [])
IsWrapperAnswer w words width (answer.Text text) = (rest : List (List ℕ)) × (asked : rust.Asked)
    × IsRestRead (start_view w.rest.start) w.options words rest (line.Asked asked)
    × IsAskedText (whole_of w) (asked_view asked) width (string_bytes text)
IsWrapperAnswer w words width (answer.Refused refused) =
    ((rest : List (List ℕ))
    × IsRestRead (start_view w.rest.start) w.options words rest (line.Refused refused))
    ⊎ LacksRest w words refused

-- the answer to this request, with the help at this width
abbrev pub IsWrapperRequest : {F V P M S : Type 0} → Wrapper F V P M S → Request → ℕ
    → WrapperAnswer F V P M S → Type 0
IsWrapperRequest w (request.Line words) width found = IsWrapperAnswer w words.items width found
IsWrapperRequest w (request.Completion words typed) width (answer.Text text) =
    IsWrapperText w words.items typed (string_bytes text)
IsWrapperRequest w (request.Script shell) width (answer.Text text) =
    string_bytes text ≡ script_lines w.options shell
IsWrapperRequest w request.Unknown width (answer.Refused refused) = IsUnknownRequest w.options refused
IsWrapperRequest w request width found = ⊥

-- the general options of the call, and the answer to what the call asks for
abbrev pub IsWrapperCall : {F V M S G W P N T : Type 0} → Call F V M S → Wrapper G W P N T → ℕ
    → Vec (Parsed F V Infallible M S) Global × WrapperAnswer G W P N T → Type 0
IsWrapperCall call w width found =
    (found.0 ≡ call.general) × IsWrapperRequest w call.request width found.1
