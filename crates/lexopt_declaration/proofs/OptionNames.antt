-- An option by its own names and its further ones.
use Rattle.lexopt_declaration.proofs.Common.{◌≡◌, ◌<◌, ◌≤◌, ◌+◌, ℕ, take, Bool, true, false, ◌||◌, List, [], ◌∷◌, ◌++◌, map, length, get_or, refl, sym, ap, subst, ◌∙◌, flat_map, list_any}
use Rattle.lexopt_declaration.proofs.Common.{option_to_list, false≢true, flat_map_more, take_all, take_more, has_name, is_name, is_one_of, AreText, IsText, Declared, AreAllText, long_name, names_list}
use Rattle.lexopt_declaration.proofs.Common.{option_view, short_name, list_any-append, either}
use Rattle.std.proofs.Math.Bool.{or-false}
use Rattle.lexopt_line_spec.specs.Table.{Name, short, long}
use Rattle.lexopt_options_spec.specs.Declaration as spec
use Rattle.lexopt_options_spec.proofs.Tables.{name_is}
use Rattle.lexopt_declaration.specs.declared.declaration.Names.{Names}
use Rattle.lexopt_declaration.specs.declared.declaration.Names.TheVariants.{Short, Long, Both}

own_names : (n : Names) → map short (option_to_list (short_name n)) ++ map long (option_to_list (long_name n)) ≡ names_list n
own_names (Short c) = refl
own_names n = refl

pub all_names_are : {F V M S : Type 0} (o : Declared F V M S) → spec.all_names (option_view o) ≡ names_list o.names ++ flat_map names_list o.aliases.now
all_names_are o = ap (λ l. l ++ flat_map names_list o.aliases.now) (own_names o.names)

either_has : {F V M S : Type 0} (name : Name) (o : Declared F V M S) → has_name name (option_view o) ≡ (is_one_of (names_list o.names) name || is_one_of (flat_map names_list o.aliases.now) name)
either_has name o = ap (λ l. is_one_of l name) (all_names_are o) ∙ list_any-append (is_name name) (names_list o.names) (flat_map names_list o.aliases.now)

any_alias : (name : Name) (aliases : List Names) → list_any (λ a. is_one_of (names_list a) name) aliases ≡ is_one_of (flat_map names_list aliases) name
any_alias name [] = refl
any_alias name (a ∷ more) = ap (λ b. is_one_of (names_list a) name || b) (any_alias name more) ∙ sym (list_any-append (is_name name) (names_list a) (flat_map names_list more))

-- one of these further names, as `share` finds it
shared_alias : (name : Name) (aliases : List Names) → list_any (λ a. is_one_of (names_list a) name || false) aliases ≡ list_any (λ a. is_one_of (names_list a) name) aliases
shared_alias name [] = refl
shared_alias name (a ∷ more) =
    ap (λ b. b || list_any (λ x. is_one_of (names_list x) name || false) more) (or-false (is_one_of (names_list a) name))
    ∙ ap (λ b. is_one_of (names_list a) name || b) (shared_alias name more)

-- an option that does not have a name as its own has it if a further name is this one
pub has_further : {F V M S : Type 0} (name : Name) (o : Declared F V M S) (own : Bool) → own ≡ is_one_of (names_list o.names) name → own ≡ false
    → list_any (λ a. is_one_of (names_list a) name) o.aliases.now ≡ has_name name (option_view o)
has_further name o own is none =
    any_alias name o.aliases.now ∙ ap (λ b. b || is_one_of (flat_map names_list o.aliases.now) name) (sym none ∙ is) ∙ sym (either_has name o)

pub has_other : {F V M S : Type 0} (name : Name) (o : Declared F V M S) (own : Bool) → own ≡ is_one_of (names_list o.names) name → own ≡ false
    → list_any (λ a. is_one_of (names_list a) name || false) o.aliases.now ≡ has_name name (option_view o)
has_other name o own is none = shared_alias name o.aliases.now ∙ has_further name o own is none

-- ---- names that are text

all_more : (xs ys : List Name) → AreAllText xs → AreAllText ys → AreAllText (xs ++ ys)
all_more [] ys first second = second
all_more (x ∷ xs) ys first second = (first.0, all_more xs ys first.1 second)

one_text : (names : List Name) (name : Name) → AreAllText names → is_one_of names name ≡ true → IsText name
one_text [] name text is = absurd (false≢true is)
one_text (n ∷ ns) name text is = either (is_name name n) (is_one_of ns name) (IsText name) is
    (λ here. subst IsText (name_is name n here) text.0) (λ later. one_text ns name text.1 later)

pub texts_more : (aliases : List Names) (i : ℕ) (d : Names) → i < length aliases → AreAllText (flat_map names_list (take i aliases)) → AreAllText (names_list (get_or aliases i d))
    → AreAllText (flat_map names_list (take (i + 1) aliases))
texts_more aliases i d within before last =
    subst AreAllText (flat_map_more names_list [] (take i aliases) (get_or aliases i d) ∙ ap (flat_map names_list) (sym (take_more aliases i d within)))
    (all_more (flat_map names_list (take i aliases)) (names_list (get_or aliases i d)) before last)

pub texts_of : {F V M S : Type 0} (o : Declared F V M S) (i : ℕ) → length o.aliases.now ≤ i → AreAllText (names_list o.names) → AreAllText (flat_map names_list (take i o.aliases.now))
    → AreText (option_view o ∷ [])
texts_of o i all own others = λ name has. one_text (spec.all_names (option_view o)) name
    (subst AreAllText (sym (all_names_are o)) (all_more (names_list o.names) (flat_map names_list o.aliases.now) own (subst (λ l. AreAllText (flat_map names_list l)) (take_all i o.aliases.now all) others)))
    (sym (or-false (has_name name (option_view o))) ∙ has)

pub ruleset all_texts = (texts_more, texts_of)
