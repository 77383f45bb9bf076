-- A table with one more option.
use Rattle.std.proofs.Common.{append-nil, append_assoc, string_bytes, String, refl, subst, ◌≤◌, ◌≡◌, ◌<◌, ◌+◌, ◌++◌, ◌∷◌, ◌∙◌, ℕ, List, [], map, take, get_or, length, sym, ap}
use Rattle.std.specs.List.{flat_map}
use Rattle.std.proofs.lemmas.List.{flat_map_more, map-append, take_all, take_more}
use Rattle.std.specs.Global.{Global}
use Rattle.lexopt_line_spec.specs.Table.{Table, one, optional, several}
use Rattle.lexopt_options_spec.specs.Declaration as spec
use Rattle.lexopt_options_spec.specs.Declaration.{all_names, if_kind, longs_in, shorts_in}
use Rattle.lexopt_declaration.specs.declared.declaration.Declared.{Declared}
use Rattle.lexopt_declaration.specs.Models.{names_list, option_view}
use Rattle.lexopt_declaration.specs.declared.declaration.Names.{Names}
use Rattle.lexopt_declaration.proofs.OptionNames.{all_names_are}
use Rattle.lexopt_line_spec.specs.Table.{Name, short, long}
use Rattle.lexopt_option_table.specs.Tables.{AddsNames, AddsOption}

-- ---- the names of an option

shorts_more : (xs ys : List Name) → shorts_in (xs ++ ys) ≡ shorts_in xs ++ shorts_in ys
shorts_more [] ys = refl
shorts_more (short c ∷ xs) ys = ap (λ l. c ∷ l) (shorts_more xs ys)
shorts_more (long n ∷ xs) ys = shorts_more xs ys

longs_more : (xs ys : List Name) → longs_in (xs ++ ys) ≡ longs_in xs ++ longs_in ys
longs_more [] ys = refl
longs_more (short c ∷ xs) ys = longs_more xs ys
longs_more (long n ∷ xs) ys = ap (λ l. n ∷ l) (longs_more xs ys)

-- names that are added after others
then_adds : (xs ys : List Name) (a b c : List ℕ) (k l m : List (String Global)) → AddsNames xs a k b l → AddsNames ys b l c m → AddsNames (xs ++ ys) a k c m
then_adds xs ys a b c k l m first next = record {
  shorts_are = next.shorts_are ∙ ap (λ s. s ++ shorts_in ys) first.shorts_are ∙ append_assoc a (shorts_in xs) (shorts_in ys) ∙ ap (λ s. a ++ s) (sym (shorts_more xs ys));
  longs_are = next.longs_are ∙ ap (λ s. s ++ longs_in ys) first.longs_are ∙ append_assoc (map string_bytes k) (longs_in xs) (longs_in ys) ∙ ap (λ s. map string_bytes k ++ s) (sym (longs_more xs ys));
}

-- the own names of an option, and the aliases before this index
pub so_far : Names → List Names → ℕ → List Name
so_far own aliases i = names_list own ++ flat_map names_list (take i aliases)

pub none_so_far : (own : Names) (aliases : List Names) → so_far own aliases 0 ≡ names_list own
unfolding so_far
none_so_far own aliases = append-nil (names_list own)

pub adds_alias : (own : Names) (aliases : List Names) (i : ℕ) (d : Names) (a b c : List ℕ) (k l m : List (String Global)) → i < length aliases → AddsNames (so_far own aliases i) a k b l
    → AddsNames (names_list (get_or aliases i d)) b l c m → AddsNames (so_far own aliases (i + 1)) a k c m
unfolding so_far
adds_alias own aliases i d a b c k l m within before adds =
    subst (λ x. AddsNames x a k c m)
    (append_assoc (names_list own) (flat_map names_list (take i aliases)) (names_list (get_or aliases i d))
    ∙ ap (λ x. names_list own ++ x) (flat_map_more names_list [] (take i aliases) (get_or aliases i d) ∙ ap (flat_map names_list) (sym (take_more aliases i d within))))
    (then_adds (so_far own aliases i) (names_list (get_or aliases i d)) a b c k l m before adds)

pub all_so_far : {F V M S : Type 0} (o : Declared F V M S) (i : ℕ) → length o.aliases.now ≤ i → so_far o.names o.aliases.now i ≡ spec.all_names (option_view o)
unfolding so_far
all_so_far o i all = ap (λ l. names_list o.names ++ flat_map names_list l) (take_all i o.aliases.now all) ∙ sym (all_names_are o)

-- ---- the table

same_table : (t u : Table) → t.shorts ≡ u.shorts → t.longs ≡ u.longs → t.optional_shorts ≡ u.optional_shorts → t.optional_longs ≡ u.optional_longs → t.several_shorts ≡ u.several_shorts
    → t.several_longs ≡ u.several_longs → t ≡ u
same_table t u a b c d e f =
    at (λ (x : List ℕ). record { shorts = x; longs = t.longs; optional_shorts = t.optional_shorts; optional_longs = t.optional_longs; several_shorts = t.several_shorts; several_longs = t.several_longs }) a
    ∙ at (λ (x : List (List ℕ)). record { shorts = u.shorts; longs = x; optional_shorts = t.optional_shorts; optional_longs = t.optional_longs; several_shorts = t.several_shorts; several_longs = t.several_longs }) b
    ∙ at (λ (x : List ℕ). record { shorts = u.shorts; longs = u.longs; optional_shorts = x; optional_longs = t.optional_longs; several_shorts = t.several_shorts; several_longs = t.several_longs }) c
    ∙ at (λ (x : List (List ℕ)). record { shorts = u.shorts; longs = u.longs; optional_shorts = u.optional_shorts; optional_longs = x; several_shorts = t.several_shorts; several_longs = t.several_longs }) d
    ∙ at (λ (x : List ℕ). record { shorts = u.shorts; longs = u.longs; optional_shorts = u.optional_shorts; optional_longs = u.optional_longs; several_shorts = x; several_longs = t.several_longs }) e
    ∙ at (λ (x : List (List ℕ)). record { shorts = u.shorts; longs = u.longs; optional_shorts = u.optional_shorts; optional_longs = u.optional_longs; several_shorts = u.several_shorts; several_longs = x }) f
  where
    at : {X : Type 0} (make : X → Table) {x y : X} → x ≡ y → make x ≡ make y
    at make is = ap make is

one_more : {X : Type 0} (f : spec.Declared → List X) (options : List spec.Declared) (o : spec.Declared) (had new : List X) → had ≡ flat_map f options → new ≡ had ++ f o → new ≡ flat_map f (options ++ o ∷ [])
one_more f options o had new is adds = adds ∙ ap (λ l. l ++ f o) is ∙ flat_map_more f [] options o

table_more : (options : List spec.Declared) (o : spec.Declared) (t new : Table) → t ≡ spec.table options → AddsOption o t new → new ≡ spec.table (options ++ o ∷ [])
table_more options o t new is adds = same_table new (spec.table (options ++ o ∷ []))
    (one_more (λ p. if_kind one p.kind (shorts_in (all_names p))) options o t.shorts new.shorts (ap (λ x. x.shorts) is) adds.shorts)
    (one_more (λ p. if_kind one p.kind (longs_in (all_names p))) options o t.longs new.longs (ap (λ x. x.longs) is) adds.longs)
    (one_more (λ p. if_kind optional p.kind (shorts_in (all_names p))) options o t.optional_shorts new.optional_shorts (ap (λ x. x.optional_shorts) is) adds.optional_shorts)
    (one_more (λ p. if_kind optional p.kind (longs_in (all_names p))) options o t.optional_longs new.optional_longs (ap (λ x. x.optional_longs) is) adds.optional_longs)
    (one_more (λ p. if_kind several p.kind (shorts_in (all_names p))) options o t.several_shorts new.several_shorts (ap (λ x. x.several_shorts) is) adds.several_shorts)
    (one_more (λ p. if_kind several p.kind (longs_in (all_names p))) options o t.several_longs new.several_longs (ap (λ x. x.several_longs) is) adds.several_longs)

pub table_of_more : {F V M S : Type 0} (options : List (Declared F V M S)) (i : ℕ) (o : Declared F V M S) (t new : Table) → i < length options → o ≡ get_or options i o
    → t ≡ spec.table (map option_view (take i options)) → AddsOption (option_view o) t new → new ≡ spec.table (map option_view (take (i + 1) options))
table_of_more options i o t new within at is adds =
    table_more (map option_view (take i options)) (option_view o) t new is adds
    ∙ ap (λ l. spec.table l) (sym (ap (map option_view) (take_more options i o within ∙ ap (λ x. take i options ++ x ∷ []) (sym at)) ∙ map-append option_view (take i options) (o ∷ [])))
