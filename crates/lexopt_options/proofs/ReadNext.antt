-- One step of reading a line.
use Rattle.lexopt_options.proofs.Common.{◌≡◌, ◌≢◌, ◌≤◌, ℕ, ◌+◌, List, [], ◌∷◌, ◌++◌, length, Option, Some, None, refl, sym, ap, subst, ◌∙◌, arith, option_map, UnreadLine, IsLine, Next, NextStep}
use Rattle.lexopt_options.proofs.Common.{OptionalStep, optional_pending, optional_none, ReadsPositional, no_word_left, word_left, ReadsWord, no_word, reads_separator, reads_long, reads_cluster}
use Rattle.lexopt_options.proofs.Common.{reads_positional, joined_value, equals_value, next_in_cluster, after_separator, next_word, Kind, Name, kind, Values, at_most_one, all, ReadsValues, item_with}
use Rattle.lexopt_options.proofs.Common.{ReadsFirst, first_positional, first_flag, first_one, first_optional, first_several, option_reply, encode_utf8, get_or, false, true, MatchOption, unwrap_or}
use Rattle.lexopt_options.proofs.Common.{slice_get-get_or, Contains-get_or, Err, IfOk, Ok, Result, LastOption, no_option, short_option, long_option, Tail, rest, pending, pending_in, rest_of}
use Rattle.lexopt_options.proofs.Common.{refusal_reply, inl, inr, String, Global, string_bytes, IsWithin, counts, most, positional_count, parsed_item, count_append, joined, same_within, ReadsUpTo}
use Rattle.lexopt_options.proofs.Common.{Stops, not_declared, unknown_option, step_line, position-Some, kind_at, Found, Refusal, RepliesWith, IsMistake, ReadsParsed, StopsAtOption, UndeclaredNext}
use Rattle.lexopt_options.proofs.Common.{parsed_with}
use Rattle.lexopt_spec.specs.Steps as steps
use Rattle.lexopt_spec.specs.Runs as calls
use Rattle.lexopt_line_spec.specs.Table as spec
use Rattle.lexopt_line_spec.proofs.Bounds.{positional_falls, values_fall}
use Rattle.lexopt_line_spec.proofs.ItemsRead.{one_more_item, option_given}
use Rattle.lexopt_options_spec.specs.Nearest.{IsHint, IsHinted, ending, long_names}
use Rattle.lexopt_options_spec.proofs.Tables.{kind_of_name}
use Rattle.lexopt_base.specs.Found.{found_as, advance_reply}
use Rattle.lexopt_base.specs.declared.parser.Found.TheVariants as found
use Rattle.lexopt_base.specs.declared.refusal.Refusal.TheVariants as refused
use Rattle.lexopt_line_spec.proofs.ReplyKinds.{next_reply}
use Rattle.lexopt_options_spec.specs.Declaration.{Declaration, Declared, Positional, has_name, index_of, is_sound, table}
use Rattle.lexopt_options_spec.specs.Legal as legal
use Rattle.lexopt_options.specs.declared.mistake.Mistake.{Mistake}

pub option_item : (d : Declaration) (name : Name) (index : ℕ) (values : Values) → index_of d.options name ≡ Some index → parsed_item d.options (item_with name values) ≡ Some (parsed_with index values)
option_item d name index (at_most_one value) found = ap (option_map (λ i. legal.option i value)) found
option_item d name index (all values) found = ap (option_map (λ i. legal.several i values)) found

pub no_count : (index : ℕ) (values : Values) → counts (parsed_with index values) ≡ 0
no_count index (at_most_one value) = refl
no_count index (all values) = refl

values_line : (k : Kind) (v w : UnreadLine) (values : Values) → ReadsValues k v values w → IsLine v → IsLine w
values_line spec.flag v w (at_most_one None) reads line = subst IsLine (sym reads) line
values_line spec.one v w (at_most_one (Some word)) reads line = step_line calls.value v (steps.taken word) w line reads
values_line spec.optional v w (at_most_one value) reads line = step_line calls.optional v (steps.maybe value) w line reads
values_line spec.several v w (all values) reads line = step_line (calls.values reads.0) v (steps.items values) w line reads.2
values_line k v w values reads line = absurd reads

-- in the table of the options, an option has the kind of the option at its index
pub kind_of_index : (options : List Declared) (name : Name) (index : ℕ) → is_sound options ≡ true → index_of options name ≡ Some index → kind_at options index ≡ kind (table options) name
kind_of_index [] name index sound found = absurd (let e : None ≡ Some index = found in cc)
kind_of_index (o ∷ os) name index sound found =
    let at = position-Some (has_name name) (o ∷ os) index o found in
    ap (λ (x : Option Declared). unwrap_or (option_map (λ p. p.kind) x) spec.flag) (slice_get-get_or (o ∷ os) index o at.0)
    ∙ sym (kind_of_name (o ∷ os) (get_or (o ∷ os) index o) sound (Contains-get_or (o ∷ os) index o at.0) name at.1)

-- an option, and its values
option_first : (t : spec.Table) (u v w : UnreadLine) (name : Name) (k : Kind) (values : Values) → k ≡ kind t name → Next u (option_reply name) v → ReadsValues k v values w
    → ReadsFirst t u (item_with name values) w
option_first t u v w name spec.flag (at_most_one None) is step reads = subst (ReadsFirst t u (spec.option name None)) (sym reads) (first_flag name v (sym is) step)
option_first t u v w name spec.one (at_most_one (Some word)) is step reads = first_one name word v w (sym is) step reads
option_first t u v w name spec.optional (at_most_one value) is step reads = first_optional name value v w (sym is) step reads
option_first t u v w name spec.several (all values) is step reads = first_several name reads.0 values v w (sym is) step reads.1 reads.2
option_first t u v w name k values is step reads = absurd reads

-- an option that is declared, with its values
pub option_parsed : (d : Declaration) (count : ℕ) (u v w : UnreadLine) (name : Name) (k : Kind) (index : ℕ) (values : Values) → is_sound d.options ≡ true → k ≡ kind_at d.options index
    → Next u (option_reply name) v → index_of d.options name ≡ Some index → ReadsValues k v values w → ReadsParsed d count u (parsed_with index values) w
option_parsed d count u v w name k index values sound k_is step found reads = record {
  item = item_with name values;
  reads = option_first (table d.options) u v w name k values (k_is ∙ kind_of_index d.options name index sound found) step reads;
  shorter = values_fall u v w name k values step reads;
  parsed = option_item d name index values found;
  line = λ line. values_line k v w values reads (step_line calls.next u (option_reply name) v line step);
  within = λ within. same_within count (counts (parsed_with index values)) (most d.positionals) (no_count index values) within;
}

-- what a call returned
pub answered : (u w : UnreadLine) (r x : Result Found Refusal) → RepliesWith Next u (advance_reply w.last r) w → r ≡ x → RepliesWith Next u (advance_reply w.last x) w
answered u w r x h is = subst (λ (q : Result Found Refusal). RepliesWith Next u (advance_reply w.last q) w) is h

-- after a short option, some bytes are the rest of its cluster
pub short_rest : (u v : UnreadLine) (c : ℕ) → Next u (steps.short c) v → (bytes : List ℕ) × (v.tail ≡ rest_of bytes)
short_rest u v c step = in_step u v (steps.short c) refl (option_given u v (spec.short c) step)
  where
    in_positional : (u v : UnreadLine) (r : steps.Reply) → steps.short c ≡ r → ReadsPositional u r v → ⊥
    in_positional u v r is (no_word_left none r_is after) = let e : steps.short c ≡ steps.end = is ∙ r_is in cc
    in_positional u v r is (word_left word words some r_is after) = let e : steps.short c ≡ steps.positional word = is ∙ r_is in cc

    in_word : (u v : UnreadLine) (r : steps.Reply) → steps.short c ≡ r → ReadsWord u r v → (bytes : List ℕ) × (v.tail ≡ rest_of bytes)
    in_word u v r is (no_word none r_is after) = let e : steps.short c ≡ steps.end = is ∙ r_is in absurd (cc)
    in_word u v r is (reads_separator words some reads) = absurd (in_positional _ v r is reads)
    in_word u v r is (reads_long text name tail words some not line r_is after) = let e : steps.short c ≡ steps.long _ = is ∙ r_is in absurd (cc)
    in_word u v r is (reads_cluster bytes words some not reads) = (_, ap (λ (w : UnreadLine). w.tail) reads.after_is)
    in_word u v r is (reads_positional word words some plain r_is after) = let e : steps.short c ≡ steps.positional word = is ∙ r_is in absurd (cc)

    in_step : (u v : UnreadLine) (r : steps.Reply) → steps.short c ≡ r → NextStep u r v → (bytes : List ℕ) × (v.tail ≡ rest_of bytes)
    in_step u v r is (joined_value value option tail spelled r_is after) = let e : steps.short c ≡ steps.unexpected option value = is ∙ r_is in absurd (cc)
    in_step u v r is (equals_value value option tail on spelled r_is after) = let e : steps.short c ≡ steps.unexpected option value = is ∙ r_is in absurd (cc)
    in_step u v r is (next_in_cluster bytes tail not reads) = (_, ap (λ (w : UnreadLine). w.tail) reads.after_is)
    in_step u v r is (after_separator tail ended reads) = absurd (in_positional u v r is reads)
    in_step u v r is (next_word tail ended reads) = in_word u v r is reads

given_is : (given other : Option (List ℕ)) → steps.maybe given ≡ steps.maybe other → given ≡ other
given_is given other is = cc

-- what is taken, where `=` is a character of the cluster
taken_bytes : (u w : UnreadLine) (given : Option (List ℕ)) → OptionalStep u (steps.maybe given) w → option_map (λ found. found.0) (pending u) ≡ given
taken_bytes u w given (optional_pending value by_equals is reply after) = ap (option_map (λ found. found.0)) is ∙ sym (given_is given (Some value) reply)
taken_bytes u w given (optional_none is reply after) = ap (option_map (λ found. found.0)) is ∙ sym (given_is given None reply)

rest_hint : (options : List Declared) (c : ℕ) (tail : Tail) (bytes : List ℕ) (given : Option (List ℕ)) (hints : List (List ℕ)) → tail ≡ rest_of bytes → option_map (λ found. found.0) (pending_in false tail) ≡ given
    → MatchOption given (hints ≡ []) (λ left. IsHint options (spec.short c) (rest left) hints) → IsHint options (spec.short c) tail hints
rest_hint options c tail [] given hints is taken told =
    let none : given ≡ None = sym taken ∙ ap (λ t. option_map (λ found. found.0) (pending_in false t)) is in
    subst (λ t. IsHint options (spec.short c) t hints) (sym is)
    (subst (λ (x : Option (List ℕ)). MatchOption x (hints ≡ []) (λ left. IsHint options (spec.short c) (rest left) hints)) none told)
rest_hint options c tail (b ∷ bs) given hints is taken told =
    let some : given ≡ Some (b ∷ bs) = sym taken ∙ ap (λ t. option_map (λ found. found.0) (pending_in false t)) is in
    subst (λ t. IsHint options (spec.short c) t hints) (sym is)
    (subst (λ (x : Option (List ℕ)). MatchOption x (hints ≡ []) (λ left. IsHint options (spec.short c) (rest left) hints)) some told)

-- the hint by the taken rest of the cluster is that by the rest of the word
pub short_hinted : (options : List Declared) (u v off w : UnreadLine) (c : ℕ) (given : Option (List ℕ)) (hints : List (List ℕ)) → Next u (steps.short c) v → off ≡ record v { short_equals = false }
    → OptionalStep off (steps.maybe given) w → MatchOption given (hints ≡ []) (λ left. IsHint options (spec.short c) (rest left) hints) → IsHint options (spec.short c) v.tail hints
short_hinted options u v off w c given hints step is takes told =
    let left = short_rest u v c step in
    rest_hint options c v.tail left.0 given hints left.1 (taken_bytes (record v { short_equals = false }) w given (subst (λ x. OptionalStep x (steps.maybe given) w) is takes)) told

pub some_hint : (options os : List Declared) (c : ℕ) (bytes back : List ℕ) (given : Option (List ℕ)) (hints found : List (List ℕ)) → given ≡ Some bytes → back ≡ bytes → os ≡ options → hints ≡ found
    → IsHint os (spec.short c) (rest back) found → MatchOption given (hints ≡ []) (λ left. IsHint options (spec.short c) (rest left) hints)
some_hint options os c bytes back given hints found some back_is os_is hints_are told =
    subst (λ (x : Option (List ℕ)). MatchOption x (hints ≡ []) (λ left. IsHint options (spec.short c) (rest left) hints)) (sym some)
    (hints_are ∙ told ∙ ap (λ o. ending (long_names o) (encode_utf8 c ++ back)) os_is ∙ ap (λ b. ending (long_names options) (encode_utf8 c ++ b)) back_is)

pub no_hint : (options : List Declared) (c : ℕ) (given : Option (List ℕ)) (hints : List (List ℕ)) → given ≡ None → hints ≡ []
    → MatchOption given (hints ≡ []) (λ left. IsHint options (spec.short c) (rest left) hints)
no_hint options c given hints none is =
    subst (λ (x : Option (List ℕ)). MatchOption x (hints ≡ []) (λ left. IsHint options (spec.short c) (rest left) hints)) (sym none) is

-- a copy of a name
pub long_hinted : (options : List Declared) (names : List (List ℕ)) (name text : List ℕ) (left : Tail) (hints : List (List ℕ)) → names ≡ long_names options → name ≡ text → IsHinted names text hints
    → IsHint options (spec.long name) left hints
long_hinted options names name text left hints are is told =
    subst (λ (l : List (List ℕ)). IsHinted l name hints) are (subst (λ (n : List ℕ). IsHinted names n hints) (sym is) told)

-- a long option that is not declared
pub undeclared_long : (d : Declaration) (u v : UnreadLine) (text : List ℕ) → RepliesWith Next u (found_as v.last found.Long) v → ((n : List ℕ) → v.last ≡ long_option n → text ≡ n) → index_of d.options (spec.long text) ≡ None → UndeclaredNext d u None v
undeclared_long d u v text step is none = name_in v.last refl step
  where
    name_in : (last : LastOption) → v.last ≡ last → RepliesWith Next u (found_as last found.Long) v → UndeclaredNext d u None v
    name_in (long_option n) last step = (n, last, step, subst (λ (m : List ℕ). index_of d.options (spec.long m) ≡ None) (is n last) none)
    name_in other last step = absurd step

-- the reading stops at it
pub undeclared_stops : (d : Declaration) (u v : UnreadLine) (short : Option ℕ) → UndeclaredNext d u short v → (name : Name) × ((l : List legal.Parsed) → Stops d l u (unknown_option name v.tail))
undeclared_stops d u v (Some c) next = (spec.short c, λ l. not_declared (spec.short c) v next.0 next.1)
undeclared_stops d u v None next = (spec.long next.0, λ l. not_declared (spec.long next.0) v next.2 next.3)

-- the mistake of it
stops_there : (d : Declaration) (u v : UnreadLine) (short : Option ℕ) (mistake : Mistake) (next : UndeclaredNext d u short v) → IsMistake d mistake (unknown_option (undeclared_stops d u v short next).0 v.tail) → StopsAtOption d u mistake
stops_there d u v short mistake next told =
    let stops = undeclared_stops d u v short next in
    record { why = unknown_option stops.0 v.tail; told = told; of_option = tt; kept = λ l. refl; stops = λ l line. stops.1 l }

pub stops_at_short : {E : Type 0} (d : Declaration) (v : UnreadLine) (c : ℕ) (r : Result Mistake E) → ((u : UnreadLine) → Next u (steps.short c) v → IfOk r (λ m. IsMistake d m (unknown_option (spec.short c) v.tail)))
    → IfOk r (λ m. (u : UnreadLine) → UndeclaredNext d u (Some c) v → StopsAtOption d u m)
unfolding undeclared_stops
stops_at_short d v c (Ok m) told = λ u next. stops_there d u v (Some c) m next (told u next.0)
stops_at_short d v c (Err e) told = tt

pub stops_at_long : {E : Type 0} (d : Declaration) (v : UnreadLine) (text : List ℕ) (r : Result Mistake E) → ((n : List ℕ) → v.last ≡ long_option n → text ≡ n)
    → IfOk r (λ m. (left : Tail) → IsMistake d m (unknown_option (spec.long text) left)) → IfOk r (λ m. (u : UnreadLine) → UndeclaredNext d u None v → StopsAtOption d u m)
unfolding undeclared_stops
stops_at_long d v text (Ok m) is told = λ u next. stops_there d u v None m next (subst (λ (n : List ℕ). IsMistake d m (unknown_option (spec.long n) v.tail)) (is next.0 next.1) (told v.tail))
stops_at_long d v text (Err e) is told = tt

-- `next` never returns that a value is missing
pub never_missing : (u v : UnreadLine) (o : Option (String Global)) → Next u (refusal_reply (refused.MissingValue o)) v → ⊥
never_missing u v o (inl step) = next_reply u v (steps.missing (option_map string_bytes o)) step
never_missing u v o (inr none) = let e : steps.missing (option_map string_bytes o) ≡ steps.no_memory = none.reply_is in cc

pub more_within : (n : ℕ) (limit : Option ℕ) → limit ≢ Some n → IsWithin n limit → IsWithin (n + 1) limit
more_within n None room within = tt
more_within n (Some m) room within = let other : m ≢ n = λ same. room (ap (λ x. Some x) same) in omega arith

-- a positional, if one more is allowed
pub positional_parsed : (d : Declaration) (count : ℕ) (u v : UnreadLine) (word : List ℕ) → IsWithin (count + 1) (most d.positionals) → Next u (steps.positional word) v
    → ReadsParsed d count u (legal.positional word) v
positional_parsed d count u v word room step = record {
  item = spec.positional word;
  reads = first_positional word v step;
  shorter = positional_falls u v word step;
  parsed = refl;
  line = λ line. step_line calls.next u (steps.positional word) v line step;
  within = λ within. room;
}

-- ---- what was read before

-- and one more thing
pub one_more : (d : Declaration) (u v w : UnreadLine) (l : List legal.Parsed) (count : ℕ) (s : legal.Parsed) → ReadsUpTo d u l v → count ≡ positional_count l → ReadsParsed d count v s w
    → ReadsUpTo d u (l ++ s ∷ []) w
one_more d u v w l count s read counted reads = record {
  items = read.items ++ reads.item ∷ [];
  read = one_more_item (table d.options) u v w read.items reads.item read.read reads.reads;
  line = reads.line read.line;
  parsed = joined (parsed_item d.options) read.items l reads.item s read.parsed reads.parsed;
  within = subst (λ n. IsWithin n (most d.positionals)) (ap (λ n. n + counts s) counted ∙ sym (count_append l (s ∷ []) ∙ ap (λ n. positional_count l + n) (omega arith)))
      (reads.within (subst (λ n. IsWithin n (most d.positionals)) (sym counted) read.within));
}

pub count_more : (l : List legal.Parsed) (count n : ℕ) (s : legal.Parsed) → count ≡ positional_count l → counts s ≡ n → count + n ≡ positional_count (l ++ s ∷ [])
count_more l count n s counted is = let e = count_append l (s ∷ []) in omega arith

pub count_small : (l : List legal.Parsed) → positional_count l ≤ length l
count_small [] = omega arith
count_small (legal.positional w ∷ l) = let rest = count_small l in omega arith
count_small (s ∷ l) = let rest = count_small l in omega arith

-- if one more positional is allowed, one is declared
pub has_room : (ps : List Positional) (count : ℕ) → IsWithin (count + 1) (most ps) → 1 ≤ length ps
has_room [] count room = absurd (omega (arith, room))
has_room (p ∷ ps) count room = omega arith
