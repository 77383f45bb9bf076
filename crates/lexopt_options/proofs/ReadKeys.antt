-- One step of reading a line by keys.
use Rattle.lexopt_options.proofs.Common.{UnreadLine, IsLine, LastOption, no_option, short_option, long_option, Reply, Next, NextStep, unexpected, found_as, RepliesWith, Found, asked_by, first_asked}
use Rattle.lexopt_options.proofs.Common.{parsed_before, enough, accepted_append, IsWithin, are_accepted, counts, most, occurs, parsed_item, positional_count, refused_value, IsOfOption, Stops}
use Rattle.lexopt_options.proofs.Common.{Declared, option_reply, start, Kind, Name, Values, at_most_one, all, ReadsValues, Declaration, has, index_of, table, Options, RestStart, Separated, Surplus}
use Rattle.lexopt_options.proofs.Common.{is_separated, declaration_of, options_of, positionals_of, kind_at, AllFirst, AreParsedAs, HasKey, IsParsedAs, IsByKey, positional_keys, IsMistake, Positional}
use Rattle.lexopt_options.proofs.Common.{IsOption, eq-eqb, eqb-true, false≢true}
use Rattle.std.proofs.Common.{◌≡◌, ◌↔◌, IsTrue, ◌≤◌, ◌+◌, ◌==◌, ◌||◌, ◌&&◌, ℕ, suc, Bool, Ok, Option, is_none, true, false, add-zero, List, [], ◌∷◌, ◌++◌, None, Some, length, refl, sym, ap, subst, ◌∙◌, arith}
use Rattle.lexopt_spec.specs.Steps as steps
use Rattle.lexopt_base.specs.declared.parser.Found.TheVariants as found
use Rattle.lexopt_options_spec.specs.Legal as legal
use Rattle.lexopt_line_spec.proofs.Exact.{next_same}
use Rattle.lexopt_options_spec.proofs.Fronts.{nothing_read}
use Rattle.lexopt_options_spec.proofs.PastSeparator.{option_open}
use Rattle.lexopt_options.specs.declared.parsed.Parsed.{Parsed}
use Rattle.lexopt_options.specs.declared.parsed.ByKey.{ByKey}
use Rattle.lexopt_options_spec.specs.Stops as stops
use Rattle.lexopt_options.specs.declared.mistake.Mistake.{Mistake}
use Rattle.lexopt_options.specs.Reading.{HasRead, HasStopped, StopsAtOption, AreSeen, IsReadByKey, ReadsParsed, is_noted_at, noted, parsed_with}
use Rattle.lexopt_options.specs.declared.parsed.Parsed.TheVariants as variant
use Rattle.lexopt_options_spec.specs.Declaration as spec
use Rattle.std.proofs.Math.Bool.{or-false}
use Rattle.lexopt_options.proofs.Keys.{asked_more, parsed_length, parsed_more}
use Rattle.lexopt_options.proofs.ReadNext.{count_more, count_small, more_within, no_count, one_more, option_parsed}
use Rattle.std.proofs.lemmas.List.Folds.{list_any-append}

pub at_start : {F V P M S : Type 0} (o : Options F V P M S) (begins : RestStart) (u : UnreadLine) {parsed : List (Parsed F V P M S)} {seen : List ℕ} → IsLine u → u.ended ≡ false → parsed ≡ [] → seen ≡ [] → HasRead o begins u u 0 seen parsed
at_start {F} {V} {P} {M} {S} o begins u {parsed} {seen} line not none_parsed none_seen = subst (λ (xs : List (Parsed F V P M S)). HasRead o begins u u 0 seen xs) (sym none_parsed) (subst (λ (l : List ℕ). HasRead o begins u u 0 l []) (sym none_seen) (record {
  l = [];
  read = nothing_read (declaration_of o) u line;
  before = λ is. not;
  none = refl;
  are = tt;
  counted = refl;
  are_seen = λ i needed. refl;
  firsts = tt;
  accepted = refl;
}))

-- ---- which options were seen

is_option_so : (i index : ℕ) (s : legal.Parsed) → IsOption index s → legal.is_option i s ≡ (index == i)
is_option_so i index (legal.positional word) is = absurd is
is_option_so i index s is = ap (λ n. n == i) is

occurs_last : (i : ℕ) (l : List legal.Parsed) (s : legal.Parsed) → occurs i (l ++ s ∷ []) ≡ (occurs i l || legal.is_option i s)
occurs_last i l s = list_any-append (legal.is_option i) l (s ∷ []) ∙ ap (λ b. occurs i l || b) (or-false (legal.is_option i s))

has_last : (i : ℕ) (l : List ℕ) (x : ℕ) → has i (l ++ x ∷ []) ≡ (has i l || (x == i))
has_last i l x = list_any-append (λ b. b == i) l (x ∷ []) ∙ ap (λ b. has i l || b) (or-false (x == i))

pub seen_more : (options : List spec.Declared) (l : List legal.Parsed) (seen : List ℕ) (index : ℕ) (s : legal.Parsed) → IsOption index s → AreSeen options l seen
    → AreSeen options (l ++ s ∷ []) (noted (is_noted_at options index) index seen)
seen_more options l seen index s is are = λ i needed. at (is_noted_at options index) refl i needed
  where
    at : (b : Bool) → is_noted_at options index ≡ b → (i : ℕ) → is_noted_at options i ≡ true → has i (noted b index seen) ≡ occurs i (l ++ s ∷ [])
    at true so i needed = has_last i seen index ∙ ap (λ b. b || (index == i)) (are i needed) ∙ sym (occurs_last i l s ∙ ap (λ b. occurs i l || b) (is_option_so i index s is))
    at false so i needed = are i needed ∙ sym (or-false (occurs i l)) ∙ ap (λ b. occurs i l || b) (sym other) ∙ sym (occurs_last i l s ∙ ap (λ b. occurs i l || b) (is_option_so i index s is))
      where
        differ : (b : Bool) → (index == i) ≡ b → b ≡ false
        differ true same = absurd (false≢true (sym so ∙ ap (is_noted_at options) (eqb-true index i same) ∙ needed))
        differ false same = refl

        other : (index == i) ≡ false
        other = differ (index == i) refl

pub seen_same : (options : List spec.Declared) (l : List legal.Parsed) (seen : List ℕ) (word : List ℕ) → AreSeen options l seen → AreSeen options (l ++ legal.positional word ∷ []) seen
seen_same options l seen word are = λ i needed. are i needed ∙ sym (or-false (occurs i l)) ∙ sym (occurs_last i l (legal.positional word))

-- ---- the keys of positionals

pub keys_append : {F V P M S : Type 0} (xs ys : List (Parsed F V P M S)) → positional_keys (xs ++ ys) ≡ positional_keys xs ++ positional_keys ys
keys_append [] ys = refl
keys_append (variant.Positional key word ∷ xs) ys = ap (λ l. key ∷ l) (keys_append xs ys)
keys_append (x ∷ xs) ys = keys_append xs ys

firsts_append : {P : Type 0} (positionals : List (Positional P)) (ks ls : List P) → AllFirst positionals ks → AllFirst positionals ls → AllFirst positionals (ks ++ ls)
firsts_append positionals [] ls first others = others
firsts_append positionals (k ∷ ks) ls first others = (first.0, firsts_append positionals ks ls first.1 others)

no_key : {F V P M S : Type 0} (options : List (Declared F V M S)) (index : ℕ) (s : legal.Parsed) (own : Parsed F V P M S) → IsParsedAs options s own → IsOption index s → positional_keys (own ∷ []) ≡ []
no_key options index s (variant.Positional key word) is option = absurd (subst (IsOption index) is option)
no_key options index s own is option = refl

pub keys_count : {F V P M S : Type 0} (options : List (Declared F V M S)) (l : List legal.Parsed) (xs : List (Parsed F V P M S)) → AreParsedAs options l xs → length (positional_keys xs) ≡ positional_count l
keys_count options [] [] are = refl
keys_count options (s ∷ l) (x ∷ xs) are = one x are.0 (keys_count options l xs are.1)
  where
    one : (x : Parsed _ _ _ _ _) → IsParsedAs options s x → length (positional_keys xs) ≡ positional_count l → length (positional_keys (x ∷ xs)) ≡ counts s + positional_count l
    one (variant.Flag key) is others = others ∙ sym (ap (λ (y : legal.Parsed). counts y + positional_count l) is.1 ∙ omega arith)
    one (variant.Positional key word) is others = ap suc others ∙ sym (ap (λ (y : legal.Parsed). counts y + positional_count l) is ∙ omega arith)
    one x is others = others ∙ sym (ap (λ (y : legal.Parsed). counts y + positional_count l) is.2 ∙ omega arith)
keys_count options l xs are = absurd are

-- ---- one more

pub one_unrefused : (options : List spec.Declared) (s : legal.Parsed) → refused_value options s ≡ None → are_accepted options (s ∷ []) ≡ true
one_unrefused options s none = ap (λ (x : Option (List ℕ)). is_none x && true) none

-- an option is read before the separator
pub before_separator : (d : Declaration) (count : ℕ) (v w : UnreadLine) (s : legal.Parsed) → IsLine v → ReadsParsed d count v s w → counts s ≡ 0 → w.ended ≡ false
before_separator d count v w s line reads none = option_open (table d.options) v w reads.item line reads.reads (λ word is. never word (sym (ap (parsed_item d.options) is) ∙ reads.parsed))
  where
    never : (word : List ℕ) → Some (legal.positional word) ≡ Some s → ⊥
    never word is = let e : legal.positional word ≡ s = cc in let f = ap counts e in omega (arith, f, none)

pub has_option : {F V P M S : Type 0} (o : Options F V P M S) (begins : RestStart) (u v w : UnreadLine) (count index : ℕ) (seen seen_now : List ℕ) (parsed more : List (Parsed F V P M S)) (s : legal.Parsed) (own : Parsed F V P M S)
    → HasRead o begins u v count seen parsed → ReadsParsed (declaration_of o) count v s w → asked_by (declaration_of o).options s ≡ None → IsParsedAs (options_of o) s own → counts s ≡ 0 → IsOption index s → refused_value (declaration_of o).options s ≡ None
    → seen_now ≡ noted (is_noted_at (declaration_of o).options index) index seen → more ≡ parsed ++ own ∷ [] → HasRead o begins u w count seen_now more
has_option o begins u v w count index seen seen_now parsed more s own had reads none is counts_is option unrefused seen_is more_is = record {
  l = had.l ++ s ∷ [];
  read = one_more (declaration_of o) u v w had.l count s had.read had.counted reads;
  before = λ is. before_separator (declaration_of o) count v w s had.read.line reads counts_is;
  none = asked_more (declaration_of o).options had.l s had.none none;
  are = subst (AreParsedAs (options_of o) (had.l ++ s ∷ [])) (sym more_is) (parsed_more (options_of o) had.l parsed s own had.are is);
  counted = sym (add-zero count) ∙ count_more had.l count 0 s had.counted counts_is;
  are_seen = subst (AreSeen (declaration_of o).options (had.l ++ s ∷ [])) (sym seen_is) (seen_more (declaration_of o).options had.l seen index s option had.are_seen);
  firsts = subst (AllFirst (positionals_of o)) (sym (ap positional_keys more_is ∙ keys_append parsed (own ∷ [])))
      (firsts_append (positionals_of o) (positional_keys parsed) (positional_keys (own ∷ [])) had.firsts (subst (AllFirst (positionals_of o)) (sym (no_key (options_of o) index s own is option)) tt));
  accepted = accepted_append (declaration_of o).options had.l (s ∷ []) had.accepted (one_unrefused (declaration_of o).options s unrefused);
}

-- there may be one more positional
pub room_for_one : (d : Declaration) (l : List legal.Parsed) (count : ℕ) (limit : Option ℕ) (full : Bool) → count ≡ positional_count l → limit ≡ most d.positionals → (IsTrue full ↔ (limit ≡ Some count)) → full ≡ false → IsWithin (positional_count l) (most d.positionals)
    → IsWithin (count + 1) (most d.positionals)
room_for_one d l count limit full counted limit_is tells is within =
    more_within count (most d.positionals) (λ same. false≢true (sym is ∙ tells.1 (limit_is ∙ same))) (subst (λ n. IsWithin n (most d.positionals)) (sym counted) within)

pub not_separated : (begins : RestStart) (ended : Bool) → is_separated begins ended ≡ false → begins ≡ Separated → ended ≡ false
not_separated Surplus ended none is = cc
not_separated Separated ended none is = none

pub has_positional : {F V P M S : Type 0} (o : Options F V P M S) (begins : RestStart) (u v w : UnreadLine) (count : ℕ) (seen : List ℕ) (parsed more : List (Parsed F V P M S)) (word : List ℕ) (key : P)
    → HasRead o begins u v count seen parsed → (begins ≡ Separated → w.ended ≡ false) → ReadsParsed (declaration_of o) count v (legal.positional word) w → HasKey (positionals_of o) 0 key → more ≡ parsed ++ variant.Positional key word ∷ []
    → HasRead o begins u w (count + 1) seen more
has_positional o begins u v w count seen parsed more word key had before reads first more_is = record {
  l = had.l ++ legal.positional word ∷ [];
  read = one_more (declaration_of o) u v w had.l count (legal.positional word) had.read had.counted reads;
  before = before;
  none = asked_more (declaration_of o).options had.l (legal.positional word) had.none refl;
  are = subst (AreParsedAs (options_of o) (had.l ++ legal.positional word ∷ [])) (sym more_is) (parsed_more (options_of o) had.l parsed (legal.positional word) (variant.Positional key word) had.are refl);
  counted = count_more had.l count 1 (legal.positional word) had.counted refl;
  are_seen = seen_same (declaration_of o).options had.l seen word had.are_seen;
  firsts = subst (AllFirst (positionals_of o)) (sym (ap positional_keys more_is ∙ keys_append parsed (variant.Positional key word ∷ [])))
      (firsts_append (positionals_of o) (positional_keys parsed) (key ∷ []) had.firsts (first, tt));
  accepted = accepted_append (declaration_of o).options had.l (legal.positional word ∷ []) had.accepted refl;
}

pub option_with : (index : ℕ) (values : Values) → IsOption index (parsed_with index values)
option_with index (at_most_one value) = refl
option_with index (all values) = refl

option_is : (index : ℕ) (values : Values) → legal.is_option index (parsed_with index values) ≡ true
option_is index (at_most_one value) = eq-eqb index index refl
option_is index (all values) = eq-eqb index index refl

-- an option with its values, and what it means
pub read_so : {F V P M S : Type 0} (o : Options F V P M S) (count : ℕ) (u v w : UnreadLine) (name : Name) (k : Kind) (index : ℕ) (values : Values) (t : ByKey F V P M S)
    → k ≡ kind_at (declaration_of o).options index → Next u (option_reply name) v → index_of (declaration_of o).options name ≡ Some index → ReadsValues k v values w
    → IsByKey (options_of o) (parsed_with index values) t → refused_value (declaration_of o).options (parsed_with index values) ≡ None → IsReadByKey (declaration_of o) (options_of o) index count u (Ok t) w
read_so o count u v w name k index values t k_is step found reads tells unrefused =
    (parsed_with index values, option_parsed (declaration_of o) count u v w name k index values o.sound k_is step found reads, tells, no_count index values, option_with index values, unrefused)

-- an option with a value that it does not accept
pub refused_so : {F V P M S : Type 0} (o : Options F V P M S) (count : ℕ) (u v w : UnreadLine) (name : Name) (k : Kind) (index : ℕ) (values : Values) (m : Mistake) (value : List ℕ)
    → k ≡ kind_at (declaration_of o).options index → Next u (option_reply name) v → index_of (declaration_of o).options name ≡ Some index → ReadsValues k v values w
    → (refused_value (declaration_of o).options (parsed_with index values) ≡ Some value) × IsMistake (declaration_of o) m (stops.invalid_value index value)
    → StopsAtOption (declaration_of o) u m
refused_so o count u v w name k index values m value k_is step found reads refused = record {
  why = stops.invalid_value index value;
  told = refused.1;
  of_option = tt;
  kept = λ l. refl;
  stops = λ l line. stops.not_accepted (parsed_with index values) index value w
      (one_more (declaration_of o) u u w [] 0 (parsed_with index values) (nothing_read (declaration_of o) u line) refl (option_parsed (declaration_of o) 0 u v w name k index values o.sound k_is step found reads))
      (option_is index values) refused.0;
}

-- there are at most as many positionals as things that are read
pub count_within : {F V P M S : Type 0} (o : Options F V P M S) (begins : RestStart) (u v : UnreadLine) (count : ℕ) (seen : List ℕ) (parsed : List (Parsed F V P M S)) → HasRead o begins u v count seen parsed → count ≤ length parsed
count_within o begins u v count seen parsed had = omega (arith, had.counted, count_small had.l, parsed_length (options_of o) had.l parsed had.are)

pub starts : {F V P M S : Type 0} {o : Options F V P M S} {begins : RestStart} {u v w : UnreadLine} {count : ℕ} {seen : List ℕ} {parsed : List (Parsed F V P M S)} → u ≡ w → HasRead o begins u v count seen parsed → HasRead o begins w v count seen parsed
starts {F} {V} {P} {M} {S} {o} {begins} {u} {v} {w} {count} {seen} {parsed} is had = subst (λ (x : UnreadLine). HasRead o begins x v count seen parsed) is had

-- all of what was read is before a mistake
pub stopped_with : {F V P M S : Type 0} (o : Options F V P M S) (begins : RestStart) (words : List (List ℕ)) (v : UnreadLine) (count : ℕ) (seen : List ℕ) (parsed : List (Parsed F V P M S)) (m : Mistake)
    → (had : HasRead o begins (start (declaration_of o).short_equals words) v count seen parsed) → (why : stops.Mistake) → IsMistake (declaration_of o) m why → ((l : List legal.Parsed) → parsed_before why l ≡ l)
    → Stops (declaration_of o) had.l v why → HasStopped o words parsed m
stopped_with o begins words v count seen parsed m had why told kept stops = record {
  why = why;
  told = told;
  read = had.l;
  stops = record { there = v; read = had.read; stops = stops; accepted = had.accepted };
  own = subst (λ (l : List legal.Parsed). first_asked (declaration_of o).options l ≡ None) (sym (kept had.l)) had.none;
  before = subst (λ (l : List legal.Parsed). AreParsedAs (options_of o) l parsed) (sym (kept had.l)) had.are;
  firsts = had.firsts;
}

pub stopped_there : {F V P M S : Type 0} (o : Options F V P M S) (begins : RestStart) (words : List (List ℕ)) (v : UnreadLine) (count : ℕ) (seen : List ℕ) (parsed : List (Parsed F V P M S)) (m : Mistake)
    → HasRead o begins (start (declaration_of o).short_equals words) v count seen parsed → StopsAtOption (declaration_of o) v m
    → (stopped : HasStopped o words parsed m) × IsOfOption stopped.why
unfolding stopped_with
stopped_there o begins words v count seen parsed m had by =
    (stopped_with o begins words v count seen parsed m had by.why by.told by.kept (by.stops had.l had.read.line), by.of_option)

-- ---- where an option has an unexpected value, nothing else is read

found_alone : (u v w : UnreadLine) (r : Reply) (o x : List ℕ) → Next u r w → (r ≡ steps.no_memory → ⊥) → ((p y : List ℕ) → r ≡ unexpected p y → ⊥) → Next u (unexpected o x) v → ⊥
found_alone u v w r o x found some other stops = other o x (next_same u r (unexpected o x) w v (enough NextStep u r w found some) (enough NextStep u (unexpected o x) v stops (λ is. cc))).0

-- where `next` finds something, it does not find an unexpected value
pub asks_alone : (u w : UnreadLine) (f : Found) → RepliesWith Next u (found_as w.last f) w → (o x : List ℕ) (v : UnreadLine) → Next u (unexpected o x) v → ⊥
asks_alone u w (found.Short c) replies o x v step = found_alone u v w (steps.short c) o x replies (λ is. cc) (λ p y is. cc) step
asks_alone u w (found.Value word) replies o x v step = found_alone u v w (steps.positional word) o x replies (λ is. cc) (λ p y is. cc) step
asks_alone u w found.End replies o x v step = found_alone u v w steps.end o x replies (λ is. cc) (λ p y is. cc) step
asks_alone u w found.Long replies o x v step = by_last w.last replies
  where
    by_last : (last : LastOption) → RepliesWith Next u (found_as last found.Long) w → ⊥
    by_last (long_option n) replies = found_alone u v w (steps.long n) o x replies (λ is. cc) (λ p y is. cc) step
    by_last last replies = replies
