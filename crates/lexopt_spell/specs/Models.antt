-- The results of the speller's functions, as contracts see them.
use Rattle.std.specs.Prelude.{ℕ, Bool, true, false, List, ◌∷◌, [], ◌++◌, Result, Ok, Err}
use Rattle.std.specs.Prelude.{encode_utf8, string_bytes}
use Rattle.lexopt_spec.specs.UnreadLine.{dash, is_plain}
use Rattle.lexopt_line_spec.specs.Table.{Item, Kind, Name, Table, option, many, positional}
use Rattle.lexopt_line_spec.specs.Spelling as how
use Rattle.lexopt_line_spec.specs.Speller as spec
use Rattle.lexopt_line_spec.specs.Speller.{Adds, CannotBeSpelled, GoesOn, HasForm, HasNoForm}
use Rattle.lexopt_line_spec.specs.Speller.{after_bytes}
use Rattle.lexopt_spell.specs.declared.forms.Place.{Place}
use Rattle.lexopt_spell.specs.declared.forms.Place.TheVariants.{Open, InCluster, AfterValues}
use Rattle.lexopt_spell.specs.declared.forms.Place.TheVariants.{AfterPositional, Ended}
use Rattle.lexopt_spell.specs.declared.forms.After.{After}
use Rattle.lexopt_spell.specs.declared.forms.After.TheVariants.{Nothing, Attached, Joined}
use Rattle.lexopt_spell.specs.declared.forms.Form.{Form}
use Rattle.lexopt_spell.specs.declared.words.Word.{Word}
use Rattle.lexopt_spell.specs.declared.words.Word.TheVariants.{Short, Dash, Long, Separator}
use Rattle.lexopt_spell.specs.declared.words.Word.TheVariants.{Positional}
use Rattle.lexopt_spell.specs.declared.added.Added.{Added}
use Rattle.lexopt_spell.specs.declared.spell.Reason.{Reason}
use Rattle.lexopt_spell.specs.declared.spell.Reason.TheVariants.{EqualsInName, UnexpectedValue}
use Rattle.lexopt_spell.specs.declared.spell.Reason.TheVariants.{MissingValue, WantsMany, NotMany}
use Rattle.lexopt_spell.specs.declared.spell.Reason.TheVariants.{EmptyValue, OptionAmongValues}
use Rattle.lexopt_spell.specs.declared.spell.Reason.TheVariants.{EmptyName, PastSeparator}
use Rattle.lexopt_spell.specs.declared.spell.Reason.TheVariants.{DashWithoutFlag}
use Rattle.lexopt_spell.specs.declared.spell.SpellError.{SpellError}
use Rattle.lexopt_spell.specs.declared.spell.SpellError.TheVariants.{AtFault, OutOfMemory}

-- no `Reason` corresponds to `no_name`: a `char` is a character, and a `String` is a text
abbrev pub reason_view : Reason → spec.Reason
reason_view EqualsInName = spec.equals_in_name
reason_view UnexpectedValue = spec.unexpected_value
reason_view MissingValue = spec.missing_value
reason_view WantsMany = spec.wants_many
reason_view NotMany = spec.not_many
reason_view EmptyValue = spec.empty_value
reason_view OptionAmongValues = spec.option_among_values
reason_view EmptyName = spec.empty_name
reason_view PastSeparator = spec.past_separator
reason_view DashWithoutFlag = spec.dash_without_flag

-- the items have the fault that the error names; `OutOfMemory` names none
abbrev pub HasFault : Table → Bool → List Item → SpellError → Type 0
HasFault t short_equals items (AtFault index reason) =
    spec.HasFault t short_equals items (record { index = index; reason = reason_view reason })
HasFault t short_equals items OutOfMemory = Unit {0}

-- the items before the one at fault can be spelled, and together with it they cannot
abbrev pub NamesItemAtFault : Table → Bool → List Item → SpellError → Type 0
NamesItemAtFault t short_equals items (AtFault index reason) =
    spec.IsAtFault t short_equals items index
NamesItemAtFault t short_equals items OutOfMemory = Unit {0}

abbrev pub place_view : Place → spec.Place
place_view Open = spec.open_line
place_view InCluster = spec.in_cluster
place_view AfterValues = spec.after_values
place_view AfterPositional = spec.after_positional
place_view Ended = spec.ended

abbrev pub after_view : After → how.After
after_view Nothing = how.nothing
after_view (Attached value) = how.attached value.now
after_view (Joined value) = how.joined value.now

-- the parts of a form
pub record Parts : Type 0 where
  pub after : how.After
  pub words : List (List ℕ)
  pub place : spec.Place

abbrev pub form_view : Form → Parts
form_view f = record { after = after_view f.after; words = f.words.now; place = place_view f.place }

-- an option of this kind and name, given as this item before the items `later`, has this form
abbrev pub HasParts : Bool → List Item → Kind → Name → Item → Parts → Type 0
HasParts short_equals later kind name item p =
    HasForm short_equals later kind name item p.after p.words p.place

-- the option has this form, or no form for this reason
abbrev pub FormIs : Bool → List Item → Kind → Name → Item → Result Form Reason → Type 0
FormIs short_equals later kind name item (Ok f) =
    HasParts short_equals later kind name item (form_view f)
FormIs short_equals later kind name item (Err reason) =
    HasNoForm short_equals kind name item (reason_view reason)

-- the item is an option or a plain positional
abbrev pub is_plain_item : Item → Bool
is_plain_item (option name value) = true
is_plain_item (many name values) = true
is_plain_item (positional word) = is_plain false word

-- the bytes of a word, or the bytes that continue the word before
abbrev pub word_bytes : Word → List ℕ
word_bytes (Short c after) = dash ∷ encode_utf8 c ++ after_bytes (after_view after)
word_bytes (Dash after) = dash ∷ [] ++ after_bytes (after_view after)
word_bytes (Long name after) = dash ∷ dash ∷ string_bytes name.now ++ after_bytes (after_view after)
word_bytes Separator = dash ∷ dash ∷ []
word_bytes (Positional word) = word.now

-- these bytes continue the word before
abbrev pub continues : Word → Bool
continues (Short c after) = false
continues (Dash after) = true
continues (Long name after) = false
continues Separator = false
continues (Positional word) = false

-- At this place, and before the items `later`, an item adds a word of its own, or continues the
-- word before; and it leads to the place of the next item.
abbrev pub AddsOrGoesOn : Bool → Table → Bool → List Item → spec.Place → Item → List ℕ
    → List (List ℕ) → spec.Place → Type 0
AddsOrGoesOn false t short_equals later place item word words next =
    Adds t short_equals later place item word words next
AddsOrGoesOn true t short_equals later place item word words next =
    GoesOn t short_equals later place item word words next

-- the item adds these words
abbrev pub AddsWords : Table → Bool → List Item → spec.Place → Item → Added → Type 0
AddsWords t short_equals later place item a =
    AddsOrGoesOn (continues a.word) t short_equals later place item (word_bytes a.word) a.words.now
    (place_view a.place)

-- the item adds these words, or cannot be spelled for this reason
abbrev pub AddedIs : Table → Bool → List Item → spec.Place → Item → Result Added Reason → Type 0
AddedIs t short_equals later place item (Ok a) = AddsWords t short_equals later place item a
AddedIs t short_equals later place item (Err reason) =
    CannotBeSpelled t short_equals later place item (reason_view reason)
