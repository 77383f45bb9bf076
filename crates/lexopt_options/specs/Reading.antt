-- What is read from a line, as contracts see it, and what one step of the reading reads.
use Rattle.std.specs.Prelude.{None, ◌≡◌, ◌≤◌, ◌<◌, ◌+◌, ◌++◌, ◌∷◌, ℕ, Bool, true, false, List, [], Some}
use Rattle.std.specs.Prelude.{Option, Result, Ok, Err, length, slice_get, string_bytes, ◌||◌}
use Rattle.std.specs.Prelude.{unwrap_or}
use Rattle.std.specs.Option.{is_some, option_map}
use Rattle.lexopt_spec.specs.UnreadLine.{UnreadLine, IsLine, long_option}
use Rattle.lexopt_spec.specs.Steps as steps
use Rattle.lexopt_spec.specs.Steps.{Next}
use Rattle.lexopt_line_spec.specs.Readings.{ReadsFirst, option_reply, start}
use Rattle.lexopt_line_spec.specs.Bound.{bound}
use Rattle.lexopt_line_spec.specs.Table.{Item, Name, short, long}
use Rattle.lexopt_line_spec.specs.Values.{Values, at_most_one, all}
use Rattle.lexopt_options_spec.specs.Asking.{AskFor, first_asked, parsed_before}
use Rattle.lexopt_options_spec.specs.Declaration as declared
use Rattle.lexopt_options_spec.specs.Declaration.{Declaration, has, index_of}
use Rattle.lexopt_options_spec.specs.Completion.{IsOption}
use Rattle.lexopt_options_spec.specs.Legal as spec
use Rattle.lexopt_options_spec.specs.Legal.{AreApart, IsWithin, are_accepted, counts, is_required, most, occurs}
use Rattle.lexopt_options_spec.specs.Legal.{positional_count, positional_words, refused_value, parsed_item}
use Rattle.lexopt_options_spec.specs.Places.{AreTaken, least}
use Rattle.lexopt_options_spec.specs.Stops as stops
use Rattle.lexopt_options_spec.specs.Stops.{IsOfOption, ReadsUpTo, Stops, StopsAt}
use Rattle.lexopt_options.specs.declared.mistake.Mistake.{Mistake}
use Rattle.lexopt_options.specs.declared.options.Options.{Options}
use Rattle.lexopt_options.specs.declared.rest.RestStart.{RestStart}
use Rattle.lexopt_options.specs.declared.rest.RestStart.TheVariants.{Separated}
use Rattle.lexopt_options.specs.RestStarts.{is_separated}
use Rattle.lexopt_options.specs.declared.parsed.Parsed.{Parsed}
use Rattle.lexopt_options.specs.declared.read.Ended.{Ended}
use Rattle.lexopt_options.specs.declared.read.Ended.TheVariants as ended
use Rattle.lexopt_options.specs.declared.read.Outcome.{Outcome}
use Rattle.lexopt_options.specs.declared.read.Outcome.TheVariants as outcome
use Rattle.lexopt_options.specs.declared.read.Read.{Read}
use Rattle.lexopt_declaration.specs.Models.{option_view}
use Rattle.lexopt_declaration.specs.declared.declaration.Declared.{Declared}
use Rattle.lexopt_options.specs.declared.parsed.ByKey.{ByKey}
use Rattle.lexopt_options.specs.Declarations.{declaration_of, options_of, positionals_of}
use Rattle.lexopt_options.specs.Keys.{AllFirst, AreParsedAs, IsByKey, asked_view, positional_keys}
use Rattle.lexopt_options.specs.Mistakes.{IsMistake}

-- an option with these values
abbrev pub parsed_with : ℕ → Values → spec.Parsed
parsed_with index (at_most_one value) = spec.option index value
parsed_with index (all values) = spec.several index values

-- the next item is a declared option, or one more positional that the declaration allows
pub record ReadsParsed (d : Declaration) (count : ℕ) (u : UnreadLine) (s : spec.Parsed)
    (v : UnreadLine) : Type 0 where
  pub item : Item
  pub reads : ReadsFirst (declared.table d.options) u item v
  pub shorter : bound v < bound u
  pub parsed : parsed_item d.options item ≡ Some s
  pub line : IsLine u → IsLine v
  pub within : IsWithin count (most d.positionals) → IsWithin (count + counts s) (most d.positionals)

-- Whatever was read before, the reading stops at an option with this mistake. It is not that the
-- option has an unexpected value.
pub record StopsAtOption (d : Declaration) (u : UnreadLine) (mistake : Mistake) : Type 0 where
  pub why : stops.Mistake
  pub told : IsMistake d mistake why
  pub of_option : IsOfOption why
  pub kept : (l : List spec.Parsed) → parsed_before why l ≡ l
  pub stops : (l : List spec.Parsed) → IsLine u → Stops d l u why

-- an option comes next that is not declared: the short one with this character, or a long one
abbrev pub UndeclaredNext : Declaration → UnreadLine → Option ℕ → UnreadLine → Type 0
UndeclaredNext d u (Some c) v = Next u (steps.short c) v × (index_of d.options (short c) ≡ None)
UndeclaredNext d u None v = (name : List ℕ) × (v.last ≡ long_option name)
    × Next u (steps.long name) v × (index_of d.options (long name) ≡ None)

-- this comes next
abbrev pub ComesNext : Declaration → UnreadLine → Outcome → UnreadLine → Type 0
ComesNext d u (outcome.Option index) v = (name : Name) × Next u (option_reply name) v
    × (index_of d.options name ≡ Some index)
ComesNext d u (outcome.Positional word) v = Next u (steps.positional word) v
ComesNext d u outcome.End v = Next u steps.end v
ComesNext d u (outcome.Undeclared c) v = UndeclaredNext d u c v
ComesNext d u (outcome.Unexpected option value) v =
    Next u (steps.unexpected (string_bytes option) value) v

-- ---- the end of a line

-- each required option is among these indices
abbrev pub AllSeen : List declared.Declared → List ℕ → Type 0
AllSeen options seen = (i : ℕ) → is_required options i ≡ true → has i seen ≡ true

-- the option at this index is the first required one that is not among these
pub record IsFirstUnseen (options : List declared.Declared) (seen : List ℕ) (index : ℕ)
    : Type 0 where
  pub here : is_required options index ≡ true
  pub absent : has index seen ≡ false
  pub first : (i : ℕ) → i < index → is_required options i ≡ true → has i seen ≡ true

-- the option is required, has a default or may be excluded, so the end of a line hangs on whether
-- the line has it
abbrev pub is_noted : declared.Declared → Bool
is_noted o = o.required || (is_some o.default || is_some o.exclusive)

-- the same for the option at this index, if there is one
abbrev pub is_noted_at : List declared.Declared → ℕ → Bool
is_noted_at options i = unwrap_or (option_map is_noted (slice_get options i)) false

-- such an option is among these indices if and only if it occurs in the list
abbrev pub AreSeen : List declared.Declared → List spec.Parsed → List ℕ → Type 0
AreSeen options l seen = (i : ℕ) → is_noted_at options i ≡ true → has i seen ≡ occurs i l

-- these indices, and then this one if its option is such an option
abbrev pub noted : Bool → ℕ → List ℕ → List ℕ
noted true index seen = seen ++ index ∷ []
noted false index seen = seen

-- at the end of a line with these positionals and these options, nothing is missing, each word is
-- accepted, and no two options exclude each other
pub record IsRight (d : Declaration) (words : List (List ℕ)) (seen : List ℕ) : Type 0 where
  pub enough : least d.positionals ≤ length words
  pub taken : AreTaken d.positionals words
  pub all : AllSeen d.options seen
  pub apart : AreApart d.options (λ i. has i seen)

-- at the end of a line with these positionals and these options, something is missing, a word is not
-- accepted, or two options exclude each other, which is this mistake
pub record IsWrong (d : Declaration) (words : List (List ℕ)) (seen : List ℕ) (mistake : Mistake)
    : Type 0 where
  pub why : stops.Mistake
  pub told : IsMistake d mistake why
  pub kept : (l : List spec.Parsed) → parsed_before why l ≡ l
  pub stops : (u v : UnreadLine) (l : List spec.Parsed) → Next u steps.end v
      → positional_words l ≡ words → AreSeen d.options l seen → Stops d l u why

-- ---- what one option is

-- the option at this index is read with its values, by its key; or it is the mistake that it has
-- none, or does not accept one
abbrev pub IsReadByKey : {F V P M S : Type 0} → Declaration → List (Declared F V M S) → ℕ → ℕ
    → UnreadLine → Result (ByKey F V P M S) Mistake → UnreadLine → Type 0
IsReadByKey d options index count u (Ok told) v = (s : spec.Parsed) × ReadsParsed d count u s v
    × IsByKey options s told × (counts s ≡ 0) × IsOption index s
    × (refused_value d.options s ≡ None)
IsReadByKey d options index count u (Err mistake) v = StopsAtOption d u mistake

-- ---- the values that an option accepts

-- wherever this option is declared, this is the mistake that it does not accept the value
abbrev pub IsInvalidValue : {F V M S : Type 0} → Declared F V M S → List ℕ → Mistake → Type 0
IsInvalidValue option value mistake = (d : Declaration) (i : ℕ)
    → slice_get d.options i ≡ Some (option_view option)
    → IsMistake d mistake (stops.invalid_value i value)

-- ---- how the reading of a line ends

-- The line u was read up to v, and this was read, by keys, with `count` positionals. Nothing was
-- asked for. If a rest begins after the separator, that was not read.
pub record HasRead {F V P M S : Type 0} (o : Options F V P M S) (begins : RestStart)
    (u v : UnreadLine) (count : ℕ) (seen : List ℕ) (parsed : List (Parsed F V P M S)) : Type 0 where
  pub l : List spec.Parsed
  pub read : ReadsUpTo (declaration_of o) u l v
  pub before : begins ≡ Separated → v.ended ≡ false
  pub none : first_asked (declaration_of o).options l ≡ None
  pub are : AreParsedAs (options_of o) l parsed
  pub counted : count ≡ positional_count l
  pub are_seen : AreSeen (declaration_of o).options l seen
  pub firsts : AllFirst (positionals_of o) (positional_keys parsed)
  pub accepted : are_accepted (declaration_of o).options l ≡ true

-- The reading of the words stops at this mistake. Before it they mean this, by keys, and ask for
-- nothing.
pub record HasStopped {F V P M S : Type 0} (o : Options F V P M S) (words : List (List ℕ))
    (parsed : List (Parsed F V P M S)) (mistake : Mistake) : Type 0 where
  pub why : stops.Mistake
  pub told : IsMistake (declaration_of o) mistake why
  pub read : List spec.Parsed
  pub stops : StopsAt (declaration_of o) words read why
  pub own : first_asked (declaration_of o).options (parsed_before why read) ≡ None
  pub before : AreParsedAs (options_of o) (parsed_before why read) parsed
  pub firsts : AllFirst (positionals_of o) (positional_keys parsed)

-- nothing was read
pub record IsNothing {F V P M S : Type 0} (read : Read F V P M S) : Type 0 where
  pub parsed : read.parsed.items ≡ []
  pub seen : read.seen.items ≡ []
  pub count : read.count ≡ 0

-- the reading of the words ends so, if a rest may begin there
abbrev pub HasEnded : {F V P M S : Type 0} → Options F V P M S → List (List ℕ) → RestStart → ℕ
    → List ℕ → List (Parsed F V P M S) → Ended → UnreadLine → Type 0
HasEnded o words begins count seen parsed ended.End v = (u : UnreadLine)
    × HasRead o begins (start (declaration_of o).short_equals words) u count seen parsed
    × Next u steps.end v
HasEnded o words begins count seen parsed (ended.Positional word) v = (u : UnreadLine)
    × HasRead o begins (start (declaration_of o).short_equals words) u count seen parsed
    × Next u (steps.positional word) v
    × (is_separated begins v.ended ≡ false → most (declaration_of o).positionals ≡ Some count)
HasEnded o words begins count seen parsed (ended.Asked asked) v =
    AskFor (declaration_of o) words (asked_view asked)
HasEnded o words begins count seen parsed (ended.Mistake mistake) v =
    (stopped : HasStopped o words parsed mistake) × IsOfOption stopped.why
