-- The form of an option completes its item.
use Rattle.std.proofs.Common.{◌≡◌, ◌≢◌, ◌⊎◌, ℕ, Bool, false, List, [], ◌∷◌, ◌++◌, None, refl, sym, ◌∙◌, arith, inl, inr, true≢false}
use Rattle.lexopt_spec.specs.UnreadLine.{dash, equals, BeginsWith, IsNormalIn}
use Rattle.lexopt_line_spec.specs.Table.{Name, short, long, Item, option, Kind, flag}
use Rattle.lexopt_line_spec.specs.Spelling.{After, nothing, no_value, joined_value, next_word, no_optional, attached_optional, joined_optional, joined_several, attached_several, several_words, Completes, IsAfterLast, nothing_more, a_value, marked_value}
use Rattle.lexopt_line_spec.specs.Speller as rows
use Rattle.lexopt_line_spec.specs.Speller.{Place, open_line, in_cluster, after_values, after_bytes, HasForm}
use Rattle.lexopt_line_spec.proofs.SpellerTests.{dashed}
use Rattle.lexopt_line_spec.proofs.SpellerRows.{plain_off}

pub completed : (short_equals : Bool) (later : List Item) (k : Kind) (name : Name) (item : Item) (after : After) (words : List (List ℕ)) (next : Place) (left : List (List ℕ))
    → HasForm short_equals later k name item after words next → (next ≡ after_values → ¬ IsNormalIn false left) → Completes k name after (words ++ left) item left
completed short_equals later k name item after words next left (rows.short_flag c) none = no_value refl refl refl
completed short_equals later k name item after words next left (rows.long_flag n) none = no_value refl refl refl
completed short_equals later k name item after words next left (rows.short_one c v) none = next_word v refl refl refl
completed short_equals later k name item after words next left (rows.long_one n v) none = joined_value v refl refl refl
completed short_equals later k name item after words next left (rows.left_out n) none = no_optional refl refl refl
completed short_equals later k name item after words next left (rows.right_after c v some other) none = attached_optional v refl refl refl
completed short_equals later k name item after words next left (rows.equals_on c v begins on) none = joined_optional v refl refl refl
completed short_equals later k name item after words next left (rows.equals_off c v begins off) none = attached_optional v refl refl refl
completed short_equals later k name item after words next left (rows.empty_on c on) none = joined_optional [] refl refl refl
completed short_equals later k name item after words next left (rows.long_optional n v) none = joined_optional v refl refl refl
completed short_equals later k name item after words next left (rows.lone_joined c v lone) none = joined_several v refl refl refl
completed short_equals later k name item after words next left (rows.short_words c v vs calm all) none =
    several_words (v ∷ vs) refl (record { words_are = refl; plain = all; longest = none refl }) (λ nil. let e : v ∷ vs ≡ [] = nil in cc) refl
completed short_equals later k name item after words next left (rows.first_attached c v vs calm first all) none =
    attached_several v vs refl (record { words_are = refl; plain = all; longest = none refl }) refl
completed short_equals later k name item after words next left (rows.long_lone n v) none = joined_several v refl refl refl
completed short_equals later k name item after words next left (rows.long_words n v w vs all) none =
    several_words (v ∷ w ∷ vs) refl (record { words_are = refl; plain = all; longest = none refl }) (λ nil. let e : v ∷ w ∷ vs ≡ [] = nil in cc) refl

-- ---- the text after a character

begins_some : (b : ℕ) (v : List ℕ) → BeginsWith b v → v ≢ []
begins_some b [] begins = absurd begins
begins_some b (c ∷ cs) begins = λ is. let e : c ∷ cs ≡ [] = is in cc

-- a word that is not plain does not begin with `=`
dashed_after : (v : List ℕ) → BeginsWith dash v → ¬ BeginsWith equals v
dashed_after [] begins mark = begins
dashed_after (b ∷ bs) begins mark = let e : equals ≡ dash = sym mark ∙ begins in absurd (omega arith)

pub after_last : (short_equals : Bool) (later : List Item) (k : Kind) (c : ℕ) (item : Item) (after : After) (words : List (List ℕ)) (next : Place)
    → HasForm short_equals later k (short c) item after words next → IsAfterLast short_equals (after_bytes after) after
after_last short_equals later k c item after words next (rows.short_flag x) = nothing_more refl refl
after_last short_equals later k c item after words next (rows.short_one x v) = nothing_more refl refl
after_last short_equals later k c item after words next (rows.left_out n) = nothing_more refl refl
after_last short_equals later k c item after words next (rows.right_after x v some other) = a_value some (λ mark. other mark.1) refl
after_last short_equals later k c item after words next (rows.equals_on x v begins on) = marked_value v on refl refl
after_last short_equals later k c item after words next (rows.equals_off x v begins off) = a_value (begins_some equals v begins) (λ mark. true≢false (sym mark.0 ∙ off)) refl
after_last short_equals later k c item after words next (rows.empty_on x on) = marked_value [] on refl refl
after_last short_equals later k c item after words next (rows.lone_joined x v lone) = marked_value v lone.1 refl refl
after_last short_equals later k c item after words next (rows.short_words x v vs calm all) = nothing_more refl refl
after_last short_equals later k c item after words next (rows.first_attached x v vs calm first all) =
    let begins = dashed v (plain_off v first) in a_value (begins_some dash v begins) (λ mark. dashed_after v begins mark.1) refl

-- ---- the place after an option

-- a short flag, after which its cluster goes on
pub record IsFlag (k : Kind) (name : Name) (item : Item) (after : After) (words : List (List ℕ)) (next : Place) : Type 0 where
  pub kind_is : k ≡ flag
  pub item_is : item ≡ option name None
  pub after_is : after ≡ nothing
  pub words_are : words ≡ []
  pub place_is : next ≡ in_cluster

pub place_after : (short_equals : Bool) (later : List Item) (k : Kind) (name : Name) (item : Item) (after : After) (words : List (List ℕ)) (next : Place)
    → HasForm short_equals later k name item after words next → ((next ≡ open_line) ⊎ (next ≡ after_values)) ⊎ IsFlag k name item after words next
place_after short_equals later k name item after words next (rows.short_flag c) = inr (record { kind_is = refl; item_is = refl; after_is = refl; words_are = refl; place_is = refl })
place_after short_equals later k name item after words next (rows.short_words c v vs calm all) = inl (inr refl)
place_after short_equals later k name item after words next (rows.first_attached c v vs calm first all) = inl (inr refl)
place_after short_equals later k name item after words next (rows.long_words n v w vs all) = inl (inr refl)
place_after short_equals later k name item after words next form = inl (inl refl)

pub long_place : (short_equals : Bool) (later : List Item) (k : Kind) (name : List ℕ) (item : Item) (after : After) (words : List (List ℕ)) (next : Place)
    → HasForm short_equals later k (long name) item after words next → (next ≡ open_line) ⊎ (next ≡ after_values)
long_place short_equals later k name item after words next (rows.long_words n v w vs all) = inr refl
long_place short_equals later k name item after words next form = inl refl
