-- The names of two options, and what is wrong with those of one.
use Rattle.std.proofs.Common.{◌≡◌, ◌<◌, ◌≤◌, ◌+◌, ℕ, Bool, true, false, ◌||◌, List, [], ◌∷◌, ◌++◌, length, drop, get_or, Option, Some, None, refl, sym, ap, ◌∙◌}
use Rattle.std.specs.List.{flat_map, list_any}
use Rattle.std.proofs.lemmas.List.{drop_all, drop_more}
use Rattle.std.proofs.lemmas.List.Folds.{list_any-append}
use Rattle.lexopt_line_spec.specs.Table.{Name}
use Rattle.lexopt_options_spec.specs.Declaration as spec
use Rattle.lexopt_options_spec.specs.Declaration.{Reason, is_name, is_one_of, name_fault, names_fault, or_else, share}
use Rattle.lexopt_declaration.specs.declared.declaration.Declared.{Declared}
use Rattle.lexopt_declaration.specs.declared.declaration.Names.{Names}
use Rattle.lexopt_declaration.specs.declared.declaration.Names.TheVariants.{Short, Long, Both}
use Rattle.lexopt_declaration.specs.Models.{long_name, names_list, option_view, short_name}
use Rattle.lexopt_declaration.proofs.OptionNames.{all_names_are}

-- ---- names in common

turned : (a b c d : Bool) → ((a || b) || (c || d)) ≡ ((a || c) || (b || d))
turned true b c d = refl
turned false true true d = refl
turned false true false d = refl
turned false false c d = refl

share_more : (names xs ys : List Name) → share names (xs ++ ys) ≡ (share names xs || share names ys)
share_more [] xs ys = refl
share_more (n ∷ names) xs ys =
    ap (λ b. b || share names (xs ++ ys)) (list_any-append (is_name n) xs ys)
    ∙ ap (λ b. (is_one_of xs n || is_one_of ys n) || b) (share_more names xs ys)
    ∙ turned (is_one_of xs n) (is_one_of ys n) (share names xs) (share names ys)

share_none : (names : List Name) → share names [] ≡ false
share_none [] = refl
share_none (n ∷ names) = share_none names

share_others : (names : List Name) (aliases : List Names) → list_any (λ a. share names (names_list a)) aliases ≡ share names (flat_map names_list aliases)
share_others names [] = sym (share_none names)
share_others names (a ∷ more) =
    ap (λ b. share names (names_list a) || b) (share_others names more) ∙ sym (share_more names (names_list a) (flat_map names_list more))

others_share : (p : Name → Bool) (aliases : List Names) → list_any (λ a. list_any p (names_list a)) aliases ≡ list_any p (flat_map names_list aliases)
others_share p [] = refl
others_share p (a ∷ more) =
    ap (λ b. list_any p (names_list a) || b) (others_share p more) ∙ sym (list_any-append p (names_list a) (flat_map names_list more))

pub shares_all : {F V M S : Type 0} (names : List Name) (o : Declared F V M S) (own others : Bool) → own ≡ share names (names_list o.names)
    → others ≡ list_any (λ a. share names (names_list a)) o.aliases.now → (own || others) ≡ share names (spec.all_names (option_view o))
shares_all names o own others is js =
    ap (λ b. b || others) is ∙ ap (λ b. share names (names_list o.names) || b) (js ∙ share_others names o.aliases.now)
    ∙ sym (share_more names (names_list o.names) (flat_map names_list o.aliases.now)) ∙ ap (λ l. share names l) (sym (all_names_are o))

pub all_share : {F V M S : Type 0} (o other : Declared F V M S) (own others : Bool) → own ≡ share (names_list o.names) (spec.all_names (option_view other))
    → others ≡ list_any (λ a. share (names_list a) (spec.all_names (option_view other))) o.aliases.now → (own || others) ≡ spec.shares_name (option_view o) (option_view other)
all_share o other own others is js =
    let p : Name → Bool = is_one_of (spec.all_names (option_view other)) in
    ap (λ b. b || others) is ∙ ap (λ b. list_any p (names_list o.names) || b) (js ∙ others_share p o.aliases.now)
    ∙ sym (list_any-append p (names_list o.names) (flat_map names_list o.aliases.now)) ∙ ap (λ l. list_any p l) (sym (all_names_are o))

-- ---- what is wrong with names

fault_more : (xs ys : List Name) → names_fault name_fault (xs ++ ys) ≡ or_else (names_fault name_fault xs) (names_fault name_fault ys)
fault_more [] ys = refl
fault_more (x ∷ xs) ys = ap (λ f. or_else (name_fault x) f) (fault_more xs ys) ∙ by (name_fault x)
  where
    by : (f : Option Reason) → or_else f (or_else (names_fault name_fault xs) (names_fault name_fault ys)) ≡ or_else (or_else f (names_fault name_fault xs)) (names_fault name_fault ys)
    by None = refl
    by (Some r) = refl

-- the first of these names that has a fault, from the one at this index on
pub others_fault : List Names → ℕ → Option Reason
others_fault aliases i = names_fault name_fault (flat_map names_list (drop i aliases))

pub no_own_fault : {F V M S : Type 0} (o : Declared F V M S) → None ≡ names_fault name_fault (names_list o.names) → names_fault name_fault (spec.all_names (option_view o)) ≡ others_fault o.aliases.now 0
unfolding others_fault
no_own_fault o none =
    ap (λ l. names_fault name_fault l) (all_names_are o) ∙ fault_more (names_list o.names) (flat_map names_list o.aliases.now)
    ∙ ap (λ f. or_else f (names_fault name_fault (flat_map names_list o.aliases.now))) (sym none)

-- an own name at fault decides
pub own_fault : {F V M S : Type 0} (o : Declared F V M S) (r : Reason) → Some r ≡ names_fault name_fault (names_list o.names) → Some r ≡ names_fault name_fault (spec.all_names (option_view o))
own_fault o r is = sym
    (ap (λ l. names_fault name_fault l) (all_names_are o) ∙ fault_more (names_list o.names) (flat_map names_list o.aliases.now)
    ∙ ap (λ f. or_else f (names_fault name_fault (flat_map names_list o.aliases.now))) (sym is))

-- only a long name alone has the character of a flag beside it
pub no_flag : (options : List spec.Declared) (c : ℕ) (names : Names) → ((own : _) → ¬ (names ≡ Long own)) → false ≡ spec.have_flag options (spec.name_beside (spec.a_flag c) (short_name names) (long_name names))
no_flag options c (Short d) other = refl
no_flag options c (Long own) other = absurd (other own refl)
no_flag options c (Both d own) other = refl

pub fault_here : (aliases : List Names) (i : ℕ) (d : Names) (f : Option Reason) → i < length aliases → f ≡ names_fault name_fault (names_list (get_or aliases i d))
    → others_fault aliases i ≡ or_else f (others_fault aliases (i + 1))
unfolding others_fault
fault_here aliases i d f within is =
    ap (λ l. names_fault name_fault (flat_map names_list l)) (drop_more aliases i d within) ∙ fault_more (names_list (get_or aliases i d)) (flat_map names_list (drop (i + 1) aliases))
    ∙ ap (λ x. or_else x (names_fault name_fault (flat_map names_list (drop (i + 1) aliases)))) (sym is)

pub no_more_faults : (aliases : List Names) (i : ℕ) → length aliases ≤ i → others_fault aliases i ≡ None
unfolding others_fault
no_more_faults aliases i all = ap (λ l. names_fault name_fault (flat_map names_list l)) (drop_all i aliases all)
