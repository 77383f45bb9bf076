-- What is offered after some words.
use Rattle.lexopt_options.proofs.Common.{append-nil, zero, suc, ◌≡◌, ◌≤◌, ℕ, Bool, true, false, List, [], ◌∷◌, ◌++◌, map, filter, length, Option, Some, None, Vec, nat_eq, option_map, refl, sym, ap}
use Rattle.lexopt_options.proofs.Common.{subst, ◌∙◌, inl, inr, arith, Result, Ok, Err, IfOk, Contains, flat_map, starts_with, IsUtf8, ◌<◌, ◌==◌, ◌≢◌, encode_utf8, and_parts, eqb-true, false≢true}
use Rattle.lexopt_options.proofs.Common.{filter-append, same_Some, slice_get_within, BeginsWith, dash, MeansFront, parsed_item, last_item, same_last, front_says, says_once, Says, Item, Name, AreText}
use Rattle.lexopt_options.proofs.Common.{HasRole, IsJoined, IsOption, JoinsValue, is_offered, joined_at, list_of, listed_by, offered_values, spelling, texts, values_at, filled}
use Rattle.lexopt_options.proofs.Common.{Front, IsFront, IsFrontOf, state_view}
use Rattle.lexopt_options_spec.specs.Completion.{is_free, spellings_if}
use Rattle.lexopt_options.proofs.Common.{positional_words, words_at, declaration_of, options_of, long_name, option_view, positional_view, short_name, spelling_view, words_view, AllocError, Options}
use Rattle.lexopt_options.proofs.Common.{Names}
use Rattle.std.specs.Global.{Global}
use Rattle.lexopt_options_spec.specs.Declaration.{Declaration, Declared, has_name, index_of, is_sound}
use Rattle.lexopt_options_spec.specs.Legal as legal
use Rattle.lexopt_options_spec.proofs.Sound.{known, option_there}
use Rattle.lexopt_line_spec.specs.Spelling.{no_words, plain_word}
use Rattle.lexopt_line_spec.specs.Table as table
use Rattle.lexopt_options_spec.specs.Completion as spec
use Rattle.lexopt_options_spec.proofs.Roles.{extends}
use Rattle.lexopt_options_spec.proofs.Occurs.{AreNamed, occurs_accepted, occurs_open, occurs_taken}
use Rattle.lexopt_options_spec.specs.Declaration.{Positional, are_listable}
use Rattle.lexopt_options_spec.proofs.Tables.{long_named, short_named}
use Rattle.lexopt_declaration.specs.declared.spellings.Spelling.{Spelling}
use Rattle.lexopt_declaration.specs.declared.declaration.Positional as rust_positional
use Rattle.lexopt_declaration.specs.declared.declaration.Declared as rust
use Rattle.lexopt_declaration.specs.declared.declaration.Names.TheVariants as names
use Rattle.lexopt_options_spec.proofs.Offered.{completes_offered, offered_completes}
use Rattle.lexopt_options.specs.Completions.{AreOffered, CanCome, Opens, joined_values, values_so, word_values, words_so}
use Rattle.lexopt_options.specs.declared.complete.Joined.{Joined}
use Rattle.lexopt_options.specs.declared.complete.Role.{Role}
use Rattle.lexopt_options.specs.declared.complete.Role.TheVariants as role
use Rattle.lexopt_options.specs.Roles.{IsDeclared, IsJoinedAt, IsRoleAt, seen_of}
use Rattle.lexopt_options.proofs.Fronts.{means_read, nowhere_comes}
use Rattle.lexopt_options.proofs.Seen.{apart_free, free_apart}
use Rattle.lexopt_options.proofs.Accepted.{view_there}

-- ---- a value in the word of its option

pub none_joined : (d : Declaration) (words : List (List ℕ)) (typed : List ℕ) → Opens d words false → IsJoined d words typed None
none_joined d words typed none = λ i before joins. absurd (false≢true (none.1 (joins.parsed, joins.is_open)))

-- no value is typed in a word that does not begin with a dash, since it is a positional
pub plain_joined : (d : Declaration) (words : List (List ℕ)) (typed : List ℕ) → ¬ BeginsWith dash typed → IsJoined d words typed None
plain_joined d words typed plain = λ i before joins.
    let says : Says d (typed ∷ []) (legal.positional typed ∷ []) = record { items = table.positional typed ∷ []; spelled = plain_word typed [] [] (inr (inr plain)) no_words; parsed = refl } in
    let same = says_once d (typed ∷ []) (legal.positional typed ∷ []) (joins.others ++ joins.last ∷ []) says (front_says d (typed ∷ []) (joins.others ++ joins.last ∷ []) joins.word_means) in
    subst (IsOption i) (sym (same_last [] joins.others (legal.positional typed) joins.last same).1) joins.is

pub joined_so_far : {X : Type 0} (d : Declaration) (typed : List ℕ) (opens : Bool) (view : X → spec.Joined) (r : Result (Option X) AllocError) → opens ≡ true
    → ((words : List (List ℕ)) → Opens d words true → IfOk r (λ found. IsJoined d words typed (option_map view found)))
    → IfOk r (λ found. (words : List (List ℕ)) → Opens d words opens → IsJoined d words typed (option_map view found))
joined_so_far d typed opens view (Ok found) are is = λ words open_so. is words (subst (Opens d words) are open_so)
joined_so_far d typed opens view (Err e) are is = tt

-- ---- spellings

-- each option has a name
pub all_named : {F V M S : Type 0} (options : List (rust.Declared F V M S)) → AreNamed (map option_view options)
all_named [] = tt
all_named {F} {V} {M} {S} (o ∷ os) = (one o.names refl, all_named os)
  where
    one : (n : Names) → o.names ≡ n → (name : Name) × (has_name name (option_view o) ≡ true)
    one (names.Short c) is = (table.short c, short_named (option_view o) c (ap short_name is))
    one (names.Long name) is = (table.long name.now, long_named (option_view o) name.now (ap long_name is))
    one (names.Both c name) is = (table.short c, short_named (option_view o) c (ap short_name is))

-- the spellings that are offered without their help texts
firsts : (list : List spec.Spelled) → map (λ (p : List ℕ × List ℕ). p.0) (map (λ (s : spec.Spelled). (s.text, s.help)) list) ≡ texts list
firsts [] = refl
firsts (s ∷ list) = ap (λ l. s.text ∷ l) (firsts list)

pub offered : (d : Declaration) (words : List (List ℕ)) (front : Front) (typed : List ℕ) (list : List (List ℕ × List ℕ)) → is_sound d.options ≡ true → are_listable d.positionals ≡ true → AreNamed d.options → IsUtf8 typed → IsFront d words front → CanCome d words true → AreText d.options
    → list ≡ spec.offered typed (spellings_if (is_free d.options front.seen.items) d.options) → AreOffered d words typed list
offered d words front typed list sound good named utf8 is_front opens text is =
    let seen = front.seen.items in
    let words_are : map (λ p. p.0) list ≡ texts (filter (is_offered typed) (spellings_if (is_free d.options seen) d.options)) =
    ap (map (λ (p : List ℕ × List ℕ). p.0)) is ∙ firsts (filter (is_offered typed) (spellings_if (is_free d.options seen) d.options)) in
    let there = opens.0 refl in
    let same = means_read d words is_front.l (state_view front.state) is_front.leaves in
    record {
      sound = λ s has. offered_completes d words there.0 typed s (is_free d.options seen) sound text named there.1 there.2 (filled d.positionals (positional_words there.0) good there.3)
          (λ i free k before. free_apart d.options is_front.l seen is_front.are_seen i free k (ap (legal.occurs k) (sym (same there.0 there.1.front)) ∙ before)) utf8 (subst (λ x. Contains x s) words_are has);
      complete = λ s completes. subst (λ x. Contains x s) (sym words_are)
          (completes_offered d words typed s (is_free d.options seen) completes
          (apart_free d.options is_front.l seen is_front.are_seen completes.possible.index (λ k before. completes.apart k (ap (legal.occurs k) (same completes.possible.before completes.possible.words_say) ∙ before))));
      in_order = inl (seen, is);
    }

-- the same for the spellings that a call returns, by what the words mean
pub offered_all : (d : Declaration) (typed : List ℕ) (r : Result (Vec Spelling Global) AllocError) (options : List Declared) (front : Option Front) (indices bytes : List ℕ) → is_sound d.options ≡ true → are_listable d.positionals ≡ true → AreNamed d.options → IsUtf8 typed
    → ((words : List (List ℕ)) → IsFrontOf d words front → CanCome d words true) → indices ≡ seen_of front
    → options ≡ d.options → bytes ≡ typed → AreText options → IfOk r (λ list. map spelling_view list.items ≡ spec.offered bytes (spellings_if (is_free options indices) options))
    → IfOk r (λ list. (words : List (List ℕ)) → IsFrontOf d words front → AreOffered d words typed (map spelling_view list.items))
offered_all d typed (Ok list) options None indices bytes sound good named utf8 can of are also text is = λ words so. absurd (false≢true ((nowhere_comes d words so).1 ((can words so).0 refl)))
offered_all d typed (Ok list) options (Some front) indices bytes sound good named utf8 can of are also text is = λ words so.
    offered d words front typed (map spelling_view list.items) sound good named utf8 so (can words so) (subst AreText are text)
    (is ∙ ap (λ b. spec.offered b (spellings_if (is_free options indices) options)) also ∙ ap (λ os. spec.offered typed (spellings_if (is_free os indices) os)) are
    ∙ ap (λ ks. spec.offered typed (spellings_if (is_free d.options ks) d.options)) of)
offered_all d typed (Err e) options front indices bytes sound good named utf8 can of are also text is = tt

-- no spelling is offered where no option can come
pub none_stands : (d : Declaration) (words : List (List ℕ)) (typed : List ℕ) → CanCome d words false → AreOffered d words typed []
none_stands d words typed closed = record {
  sound = λ s has. absurd (let below = has.1 in omega (arith, below));
  complete = λ s completes. absurd (false≢true (closed.1 (completes.possible.before, occurs_open d words s completes.possible, occurs_accepted d words s completes.possible, occurs_taken d words s completes.possible)));
  in_order = inr refl;
}

-- nor where another byte than a dash was typed first
begun_by_dash : (typed rest : List ℕ) → typed ≢ [] → starts_with nat_eq (dash ∷ rest) typed ≡ true → BeginsWith dash typed
begun_by_dash [] rest some is = absurd (some refl)
begun_by_dash (b ∷ bs) rest some is = eqb-true b dash (and_parts (b == dash) _ is).0

dashed : (name : Name) → (rest : List ℕ) × (spelling name ≡ dash ∷ rest)
dashed (table.short c) = (encode_utf8 c, refl)
dashed (table.long name) = (dash ∷ name, refl)

pub none_begins : (d : Declaration) (words : List (List ℕ)) (typed : List ℕ) → typed ≢ [] → ¬ BeginsWith dash typed → AreOffered d words typed []
none_begins d words typed some other = record {
  sound = λ s has. absurd (let below = has.1 in omega (arith, below));
  complete = λ s completes.
      let p = completes.possible in
      let rest = dashed p.name in
      absurd (other (begun_by_dash typed rest.0 some (subst (λ (x : List ℕ). starts_with nat_eq x typed ≡ true) (p.spelled ∙ rest.1) completes.begins)));
  in_order = inr refl;
}

-- ---- the option that a word belongs to is declared

-- the last thing that words mean
last_declared : (d : Declaration) (words : List (List ℕ)) (before : List legal.Parsed) (s : legal.Parsed) → MeansFront d words (before ++ s ∷ []) → IsDeclared (length d.options) (spec.role_of before s)
last_declared d words before s means = let own = last_item (parsed_item d.options) means.items before s means.parsed in one own.1 own.3
  where
    within : (name : Name) (i : ℕ) → index_of d.options name ≡ Some i → i < length d.options
    within name i found = let there = option_there d.options name i found in slice_get_within d.options i there.0 there.1

    one : (item : Item) → parsed_item d.options item ≡ Some s → IsDeclared (length d.options) (spec.role_of before s)
    one (table.option name value) so =
        let index = known (λ i. legal.option i value) (index_of d.options name) s so in
        subst (λ x. IsDeclared (length d.options) (spec.role_of before x)) index.2 (within name index.0 index.1)
    one (table.many name values) so =
        let index = known (λ i. legal.several i values) (index_of d.options name) s so in
        subst (λ x. IsDeclared (length d.options) (spec.role_of before x)) index.2 (within name index.0 index.1)
    one (table.positional word) so = subst (λ x. IsDeclared (length d.options) (spec.role_of before x)) (same_Some (legal.positional word) s so) tt

pub role_declared : (d : Declaration) (words : List (List ℕ)) (typed : List ℕ) (role : spec.Role) → HasRole d words typed (Some role) → IsDeclared (length d.options) role
role_declared d words typed role is =
    let there = is (typed ++ 0x61 ∷ []) (extends typed 0x61 (λ same. omega (arith, same))) in
    subst (IsDeclared (length d.options)) there.3 (last_declared d _ there.0 there.1 there.2.means)

pub joined_declared : (d : Declaration) (words : List (List ℕ)) (typed : List ℕ) (i : ℕ) (before : List ℕ) → JoinsValue d words typed i before → i < length d.options
joined_declared d words typed i before joins = of joins.last joins.is (last_declared d (typed ∷ []) joins.others joins.last joins.word_means)
  where
    of : (s : legal.Parsed) → IsOption i s → IsDeclared (length d.options) (spec.role_of joins.others s) → i < length d.options
    of (legal.positional word) same within = absurd same
    of s same within = subst (λ n. n < length d.options) same within

-- ---- values in lists

word_so : {F V M S : Type 0} (options : List (rust.Declared F V M S)) (r : Option spec.Role) (word : Option (Role F V M S)) → IsRoleAt options r word → word_values word ≡ values_at (map option_view options) r
word_so options None None is = refl
word_so options (Some (spec.value i)) (Some (role.Value o)) is = ap listed_by (sym (view_there options i o.now is))
word_so options (Some (spec.argument n)) (Some role.Argument) is = refl
word_so options r word is = absurd is

joined_so : {F V M S : Type 0} (options : List (rust.Declared F V M S)) (joined : Option spec.Joined) (found : Option (Joined F V M S)) → IsJoinedAt options joined found → joined_values found ≡ joined_at (map option_view options) joined
joined_so options None None is = refl
joined_so options (Some j) (Some f) is =
    ap (λ (b : List ℕ). map (λ v. b ++ v) (list_of (words_view f.option.now.words))) (sym is.1) ∙ ap (λ o. map (λ v. j.before ++ v) (listed_by o)) (sym (view_there options j.index f.option.now is.0))
joined_so options joined found is = absurd is

-- the words of the positionals that begin with what was typed, of each positional in turn
words_are_so : (ps : List Positional) (typed : List ℕ) (owners : List ℕ) → flat_map (words_so ps typed) owners ≡ filter (λ v. starts_with nat_eq v typed) (flat_map (words_at ps) owners)
words_are_so ps typed [] = refl
words_are_so ps typed (i ∷ owners) =
    ap (λ l. words_so ps typed i ++ l) (words_are_so ps typed owners) ∙ sym (filter-append (λ v. starts_with nat_eq v typed) (words_at ps i) (flat_map (words_at ps) owners))

-- the values of the options that are found are those of the options at their indices
pub values_are : {F V P M S : Type 0} (o : Options F V P M S) (typed : List ℕ) (r : Option spec.Role) (owners : List ℕ) (i : Option spec.Joined) (word : Option (Role F V M S)) (joined : Option (Joined F V M S))
    → IsRoleAt (options_of o) r word → IsJoinedAt (options_of o) i joined → values_so (declaration_of o).positionals typed word owners joined ≡ offered_values (declaration_of o) typed r owners i
values_are o typed r owners i word joined is at =
    ap (λ l. filter (λ v. starts_with nat_eq v typed) l ++ flat_map (words_so (declaration_of o).positionals typed) owners ++ filter (λ v. starts_with nat_eq v typed) (joined_values joined)) (word_so (options_of o) r word is)
    ∙ ap (λ l. filter (λ v. starts_with nat_eq v typed) (values_at (declaration_of o).options r) ++ l ++ filter (λ v. starts_with nat_eq v typed) (joined_values joined)) (words_are_so (declaration_of o).positionals typed owners)
    ∙ ap (λ l. filter (λ v. starts_with nat_eq v typed) (values_at (declaration_of o).options r) ++ filter (λ v. starts_with nat_eq v typed) (flat_map (words_at (declaration_of o).positionals) owners) ++ filter (λ v. starts_with nat_eq v typed) l)
    (joined_so (options_of o) i joined at)

-- there is no positional at this index
pub no_words_past : {P : Type 0} (ps : List (rust_positional.Positional P)) (typed : List ℕ) (i : ℕ) (l : List (List ℕ)) → length ps ≤ i → l ≡ l ++ words_so (map positional_view ps) typed i
no_words_past ps typed i l past = sym (append-nil l) ∙ ap (λ m. l ++ m) (sym (none ps i past))
  where
    none : {P : Type 0} (ps : List (rust_positional.Positional P)) (i : ℕ) → length ps ≤ i → words_so (map positional_view ps) typed i ≡ []
    none [] i past = refl
    none (p ∷ ps) zero past = absurd (omega (arith, past))
    none (p ∷ ps) (suc i) past = none ps i (omega (arith, past))
