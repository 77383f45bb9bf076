-- What a word that is not an option would be, as contracts see it.
use Rattle.std.specs.Prelude.{◌≡◌, ◌<◌, ℕ, List, [], Option, Some, None, String, slice_get}
use Rattle.std.specs.Prelude.{string_bytes}
use Rattle.std.specs.Global.{Global}
use Rattle.lexopt_options_spec.specs.Completion as spec
use Rattle.lexopt_declaration.specs.declared.declaration.Declared.{Declared}
use Rattle.lexopt_options.specs.declared.complete.Joined.{Joined}
use Rattle.lexopt_options.specs.declared.complete.Place.{Place}
use Rattle.lexopt_options.specs.declared.complete.Place.TheVariants as place
use Rattle.lexopt_options.specs.declared.complete.Role.{Role}
use Rattle.lexopt_options.specs.declared.complete.Role.TheVariants as role
use Rattle.lexopt_options.specs.declared.front.Front.{Front}

-- it is the same role, with the option instead of its index
abbrev pub IsRole : {F V M S : Type 0} → List (Declared F V M S) → spec.Role → Role F V M S
    → Type 0
IsRole options (spec.value i) (role.Value option) = slice_get options i ≡ Some option.now
IsRole options (spec.argument words) role.Argument = Unit {0}
IsRole options r other = ⊥

abbrev pub IsRoleAt : {F V M S : Type 0} → List (Declared F V M S) → Option spec.Role
    → Option (Role F V M S) → Type 0
IsRoleAt options None None = Unit {0}
IsRoleAt options (Some r) (Some found) = IsRole options r found
IsRoleAt options r found = ⊥

-- the option at this index, and what comes before its value in a word; or neither
abbrev pub IsJoinedAt : {F V M S : Type 0} → List (Declared F V M S) → Option spec.Joined
    → Option (Joined F V M S) → Type 0
IsJoinedAt options None None = Unit {0}
IsJoinedAt options (Some joined) (Some found) = (slice_get options joined.index ≡ Some found.option.now)
    × (joined.before ≡ string_bytes found.before)
IsJoinedAt options joined found = ⊥

-- ---- by indices

abbrev pub joined_view : (ℕ × String Global) → spec.Joined
joined_view found = record { index = found.0; before = string_bytes found.1 }

-- the role of a word after these positionals
abbrev pub place_view : List (List ℕ) → Place → spec.Role
place_view words (place.Value index) = spec.value index
place_view words place.Argument = spec.argument words

-- the positionals of words that mean this; none if they mean nothing
abbrev pub words_of : Option Front → List (List ℕ)
words_of None = []
words_of (Some front) = front.words.items

-- the indices that are noted of their options; none if they mean nothing
abbrev pub seen_of : Option Front → List ℕ
seen_of None = []
seen_of (Some front) = front.seen.items

-- if it is a value, its index is that of one of `count` options
abbrev pub IsDeclared : ℕ → spec.Role → Type 0
IsDeclared count (spec.value i) = i < count
IsDeclared count (spec.argument words) = Unit {0}
