-- A line is read to its end under a declaration, or its reading stops at a mistake.
use Rattle.std.proofs.Common.{append-nil, ◌≡◌, ◌≢◌, ◌<◌, ◌≤◌, ◌⊎◌, ℕ, zero, suc, ◌+◌, ◌==◌, Bool, true, false, List, [], ◌∷◌, ◌++◌, Option, Some, None, is_none, refl, sym, ap, subst, ◌∙◌, inl, inr, ⊎_elim, arith}
use Rattle.std.proofs.lemmas.Bool.{and_from, false≢true, eqb-true, eq-eqb}
use Rattle.std.specs.Option.{option_map}
use Rattle.lexopt_spec.specs.UnreadLine.{UnreadLine, IsLine}
use Rattle.lexopt_spec.specs.Steps as steps
use Rattle.lexopt_spec.specs.Steps.{Reply, Next, NextStep, ValueStep, pending_value, takes_word, nothing_to_take, OptionalStep, optional_pending, optional_none}
use Rattle.lexopt_spec.specs.Views.{ValuesStep, no_values, some_values}
use Rattle.lexopt_spec.specs.Runs as calls
use Rattle.lexopt_spec.specs.Runs.{Call, next, value, Step}
use Rattle.lexopt_line_spec.specs.Bound.{bound}
use Rattle.lexopt_line_spec.specs.Table as spec
use Rattle.lexopt_line_spec.specs.Table.{Item, Name, short, long, Kind, flag, one, optional, several, kind, Table}
use Rattle.lexopt_line_spec.specs.Readings.{IsDue, IsFull, IsReading, ReadsFirst, first_positional, first_flag, first_one, first_optional, first_several, option_reply, start}
use Rattle.lexopt_line_spec.proofs.Bounds.{step_bound, given_falls}
use Rattle.lexopt_line_spec.proofs.Calls.{call_answer}
use Rattle.lexopt_line_spec.proofs.FullValues.{full_answer, full_step}
use Rattle.lexopt_line_spec.proofs.ItemsRead.{one_more_item, says_items}
use Rattle.lexopt_line_spec.proofs.OneReading.{with_memory}
use Rattle.lexopt_line_spec.proofs.LastOption.{missing_names}
use Rattle.lexopt_line_spec.proofs.ReadingSteps.{reads_last}
use Rattle.lexopt_line_spec.proofs.ReplyKinds.{IsNextReply, next_reply, IsValueReply, value_reply, optional_reply, values_reply}
use Rattle.lexopt_line_spec.proofs.RunAccounts.{step_line}
use Rattle.lexopt_line_spec.proofs.Total.{next_answer}
use Rattle.lexopt_options_spec.specs.Declaration.{Declaration, index_of, is_sound, table}
use Rattle.lexopt_options_spec.specs.Legal.{AreApart, Parsed, option, several, positional, parsed_item, counts, positional_count, positional_words, most, IsWithin, is_required, occurs, Means, MeansFront, are_accepted, is_option, refused_value}
use Rattle.lexopt_options_spec.specs.Places.{AreTaken, IsNotTaken, least}
use Rattle.lexopt_options_spec.specs.Stops.{Mistake, unknown_option, unexpected_value, missing_value, invalid_value, unexpected_argument, invalid_argument, missing_argument, missing_option, exclusive_options, IsFirstClash, IsFirstMissing, Stops, not_declared, value_of_flag, no_value, not_accepted, one_too_many, too_few, not_taken, not_complete, not_apart, ReadsUpTo, StopsAt}
use Rattle.lexopt_options_spec.proofs.Fronts.{nothing_read, whole_front}
use Rattle.lexopt_options_spec.proofs.Listed.{accepted_append}
use Rattle.lexopt_options_spec.proofs.Lists.{count_append, joined}
use Rattle.lexopt_options_spec.proofs.Taken.{same_within, taken_or_not, words_count, zero_within}
use Rattle.lexopt_laws.proofs.Clashes.{apart_or_clash}
use Rattle.lexopt_laws.proofs.Missing.{complete_or_missing}

-- ---- what is read for one item

-- the reply of the call after an option of this kind
abbrev IsKindReply : Kind → Reply → Type 0
IsKindReply flag r = IsNextReply r
IsKindReply one (steps.taken word) = Unit {0}
IsKindReply one (steps.missing o) = Unit {0}
IsKindReply optional (steps.maybe word) = Unit {0}
IsKindReply several (steps.items words) = Unit {0}
IsKindReply several (steps.missing o) = Unit {0}
IsKindReply k r = ⊥

one_reply : (v w : UnreadLine) (r : Reply) → ValueStep v r w → IsKindReply one r
one_reply v w r (pending_value x by a is b) = subst (IsKindReply one) (sym is) tt
one_reply v w r (takes_word x xs a b is c) = subst (IsKindReply one) (sym is) tt
one_reply v w r (nothing_to_take a b is c) = subst (IsKindReply one) (sym is) tt

maybe_reply : (v w : UnreadLine) (r : Reply) → OptionalStep v r w → IsKindReply optional r
maybe_reply v w r (optional_pending x by a is b) = subst (IsKindReply optional) (sym is) tt
maybe_reply v w r (optional_none a is b) = subst (IsKindReply optional) (sym is) tt

several_reply : (n : ℕ) (v w : UnreadLine) (r : Reply) → ValuesStep n v r w → IsKindReply several r
several_reply n v w r (no_values a is b) = subst (IsKindReply several) (sym is) tt
several_reply n v w r (some_values a is b) = subst (IsKindReply several) (sym is) tt

kind_reply : (k : Kind) (call : Call) (v w : UnreadLine) (r : Reply) → IsDue k call → r ≢ steps.no_memory → Step call v r w → IsKindReply k r
kind_reply flag call v w r due some step = next_reply v w r (with_memory next v w r some (subst (λ c. Step c v r w) due step))
kind_reply one call v w r due some step = one_reply v w r (with_memory value v w r some (subst (λ c. Step c v r w) due step))
kind_reply optional call v w r due some step = maybe_reply v w r (with_memory calls.optional v w r some (subst (λ c. Step c v r w) due step))
kind_reply several call v w r due some step = several_reply due.0 v w r (with_memory (calls.values due.0) v w r some (subst (λ c. Step c v r w) due.1 step))

-- an option, and the reply of the call for its values
first_taken : (t : Table) (u v w : UnreadLine) (name : Name) (k : Kind) (call : Call) (word : List ℕ) → kind t name ≡ k → IsDue k call → Next u (option_reply name) v
    → Step call v (steps.taken word) w → ReadsFirst t u (spec.option name (Some word)) w
first_taken t u v w name one call word is due step takes = first_one name word v w is step (subst (λ c. Step c v (steps.taken word) w) due takes)
first_taken t u v w name flag call word is due step takes = absurd (kind_reply flag call v w (steps.taken word) due (λ same. cc) takes)
first_taken t u v w name optional call word is due step takes = absurd (kind_reply optional call v w (steps.taken word) due (λ same. cc) takes)
first_taken t u v w name several call word is due step takes = absurd (kind_reply several call v w (steps.taken word) due (λ same. cc) takes)

first_maybe : (t : Table) (u v w : UnreadLine) (name : Name) (k : Kind) (call : Call) (word : Option (List ℕ)) → kind t name ≡ k → IsDue k call → Next u (option_reply name) v
    → Step call v (steps.maybe word) w → ReadsFirst t u (spec.option name word) w
first_maybe t u v w name optional call word is due step takes = first_optional name word v w is step (subst (λ c. Step c v (steps.maybe word) w) due takes)
first_maybe t u v w name flag call word is due step takes = absurd (kind_reply flag call v w (steps.maybe word) due (λ same. cc) takes)
first_maybe t u v w name one call word is due step takes = absurd (kind_reply one call v w (steps.maybe word) due (λ same. cc) takes)
first_maybe t u v w name several call word is due step takes = absurd (kind_reply several call v w (steps.maybe word) due (λ same. cc) takes)

first_items : (t : Table) (u v w : UnreadLine) (name : Name) (k : Kind) (call : Call) (words : List (List ℕ)) → kind t name ≡ k → IsDue k call → IsFull call (steps.items words)
    → Next u (option_reply name) v → Step call v (steps.items words) w → ReadsFirst t u (spec.many name words) w
first_items t u v w name several call words is due full step takes =
    first_several name due.0 words v w is step (subst (λ c. IsFull c (steps.items words)) due.1 full) (subst (λ c. Step c v (steps.items words) w) due.1 takes)
first_items t u v w name flag call words is due full step takes = absurd (kind_reply flag call v w (steps.items words) due (λ same. cc) takes)
first_items t u v w name one call words is due full step takes = absurd (kind_reply one call v w (steps.items words) due (λ same. cc) takes)
first_items t u v w name optional call words is due full step takes = absurd (kind_reply optional call v w (steps.items words) due (λ same. cc) takes)

-- ---- what was read, and one more item

pub one_more : (d : Declaration) (u v w : UnreadLine) (l : List Parsed) (item : Item) (s : Parsed) → ReadsUpTo d u l v → ReadsFirst (table d.options) v item w → IsLine w
    → parsed_item d.options item ≡ Some s → IsWithin (positional_count l + counts s) (most d.positionals) → ReadsUpTo d u (l ++ s ∷ []) w
one_more d u v w l item s read first line parsed within = record {
  items = read.items ++ item ∷ [];
  read = one_more_item (table d.options) u v w read.items item read.read first;
  line = line;
  parsed = joined (parsed_item d.options) read.items l item s read.parsed parsed;
  within = subst (λ n. IsWithin n (most d.positionals)) (sym (count_append l (s ∷ []) ∙ ap (λ n. positional_count l + n) (omega arith))) within;
}

-- a single item
pub one_read : (d : Declaration) (u v : UnreadLine) (item : Item) (s : Parsed) → IsLine u → ReadsFirst (table d.options) u item v → IsLine v
    → parsed_item d.options item ≡ Some s → IsWithin (0 + counts s) (most d.positionals) → ReadsUpTo d u (s ∷ []) v
one_read d u v item s line first after parsed within = one_more d u u v [] item s (nothing_read d u line) first after parsed within

-- ---- there is a result

-- the line is read to its end, or its reading stops
data Found (d : Declaration) (u : UnreadLine) : Type 0 where
  to_the_end : (l : List Parsed) (v w : UnreadLine) → ReadsUpTo d u l v → Next v steps.end w → least d.positionals ≤ positional_count l → AreTaken d.positionals (positional_words l)
      → ((i : ℕ) → is_required d.options i ≡ true → occurs i l ≡ true) → AreApart d.options (λ i. occurs i l) → are_accepted d.options l ≡ true → Found d u
  stopped : (l : List Parsed) (m : Mistake) (v : UnreadLine) → ReadsUpTo d u l v → Stops d l v m → are_accepted d.options l ≡ true → Found d u

-- what is found once the line was read up to one with a smaller bound
abbrev Later : Declaration → UnreadLine → ℕ → Type 0
Later d u n = (l : List Parsed) (v : UnreadLine) → ReadsUpTo d u l v → are_accepted d.options l ≡ true → bound v < n → Found d u

-- an option that was read: the line is read on, unless the option does not accept its value
item_found : (d : Declaration) (u v x : UnreadLine) (l : List Parsed) (n : ℕ) (item : Item) (s : Parsed) (index : ℕ) → ReadsUpTo d u l v → are_accepted d.options l ≡ true
    → ReadsFirst (table d.options) v item x → IsLine x → parsed_item d.options item ≡ Some s → is_option index s ≡ true → counts s ≡ 0 → bound x < n → Later d u n → Found d u
item_found d u v x l n item s index read accepted first line parsed of none less later = go (refused_value d.options s) refl
  where
    go : (refused : Option (List ℕ)) → refused_value d.options s ≡ refused → Found d u
    go None is = later (l ++ s ∷ []) x (one_more d u v x l item s read first line parsed (same_within (positional_count l) (counts s) (most d.positionals) none read.within))
        (accepted_append d.options l (s ∷ []) accepted (and_from _ _ (ap is_none is) refl)) less
    go (Some word) is = stopped l (invalid_value index word) v read
        (not_accepted s index word x (one_read d v x item s read.line first line parsed (same_within 0 (counts s) (most d.positionals) none (zero_within (most d.positionals)))) of is) accepted

-- a declared option, and the reply of the call for its values
due_found : (d : Declaration) (u v w x : UnreadLine) (l : List Parsed) (n : ℕ) (name : Name) (index : ℕ) (k : Kind) (call : Call) (r : Reply) → ReadsUpTo d u l v → are_accepted d.options l ≡ true
    → Next v (option_reply name) w → index_of d.options name ≡ Some index → kind (table d.options) name ≡ k → IsDue k call → IsFull call r → IsValueReply r → Step call w r x → bound x < n → Later d u n → Found d u
due_found d u v w x l n name index k call (steps.taken word) read accepted step found k_is due full is takes less later =
    item_found d u v x l n (spec.option name (Some word)) (option index (Some word)) index read accepted
    (first_taken (table d.options) v w x name k call word k_is due step takes)
    (step_line call w (steps.taken word) x (step_line next v (option_reply name) w read.line step) takes) (ap (option_map (λ i. option i (Some word))) found)
    (eq-eqb index index refl) refl less later
due_found d u v w x l n name index k call (steps.maybe word) read accepted step found k_is due full is takes less later =
    item_found d u v x l n (spec.option name word) (option index word) index read accepted
    (first_maybe (table d.options) v w x name k call word k_is due step takes)
    (step_line call w (steps.maybe word) x (step_line next v (option_reply name) w read.line step) takes) (ap (option_map (λ i. option i word)) found)
    (eq-eqb index index refl) refl less later
due_found d u v w x l n name index k call (steps.items words) read accepted step found k_is due full is takes less later =
    item_found d u v x l n (spec.many name words) (several index words) index read accepted
    (first_items (table d.options) v w x name k call words k_is due full step takes)
    (step_line call w (steps.items words) x (step_line next v (option_reply name) w read.line step) takes) (ap (option_map (λ i. several i words)) found)
    (eq-eqb index index refl) refl less later
due_found d u v w x l n name index k call (steps.missing o) read accepted step found k_is due full is takes less later =
    let named = missing_names k call v w x name o step due takes in
    stopped l (missing_value index named.0) v read
    (no_value name index named.0 call w x step found (subst (λ z. IsDue z call) (sym k_is) due) (subst (λ z. Step call w (steps.missing z) x) named.1 takes)) accepted
due_found d u v w x l n name index k call r read accepted step found k_is due full is takes less later = absurd is

declared_found : (d : Declaration) (u v w : UnreadLine) (l : List Parsed) (n : ℕ) (name : Name) (index : ℕ) (k : Kind) → ReadsUpTo d u l v → are_accepted d.options l ≡ true
    → Next v (option_reply name) w → index_of d.options name ≡ Some index → kind (table d.options) name ≡ k → bound w < n → Later d u n → Found d u
declared_found d u v w l n name index flag read accepted step found k_is less later =
    item_found d u v w l n (spec.option name None) (option index None) index read accepted (first_flag name w k_is step)
    (step_line next v (option_reply name) w read.line step) (ap (option_map (λ i. option i None)) found) (eq-eqb index index refl) refl less later
declared_found d u v w l n name index one read accepted step found k_is less later =
    let a = call_answer value w (step_line next v (option_reply name) w read.line step) in
    let falls = step_bound value w a.0 a.1 (inl a.2) in
    due_found d u v w a.1 l n name index one value a.0 read accepted step found k_is refl tt (value_reply w a.1 a.0 a.2) (inl a.2) (omega arith) later
declared_found d u v w l n name index optional read accepted step found k_is less later =
    let a = call_answer calls.optional w (step_line next v (option_reply name) w read.line step) in
    let falls = step_bound calls.optional w a.0 a.1 (inl a.2) in
    due_found d u v w a.1 l n name index optional calls.optional a.0 read accepted step found k_is refl tt (optional_reply w a.1 a.0 a.2) (inl a.2) (omega arith) later
declared_found d u v w l n name index several read accepted step found k_is less later =
    let a = full_answer w in
    let falls = step_bound (calls.values a.asked) w a.reply a.after (inl a.step) in
    due_found d u v w a.after l n name index several (calls.values a.asked) a.reply read accepted step found k_is (a.asked, refl) a.full
    (values_reply w a.after a.reply (full_step a.asked w a.after a.reply a.full a.step)) (inl a.step) (omega arith) later

option_found : (d : Declaration) (u v w : UnreadLine) (l : List Parsed) (n : ℕ) (name : Name) (index : Option ℕ) → ReadsUpTo d u l v → are_accepted d.options l ≡ true → Next v (option_reply name) w
    → index_of d.options name ≡ index → bound w < n → Later d u n → Found d u
option_found d u v w l n name None read accepted step found less later = stopped l (unknown_option name w.tail) v read (not_declared name w step found) accepted
option_found d u v w l n name (Some index) read accepted step found less later = declared_found d u v w l n name index (kind (table d.options) name) read accepted step found refl less later

-- one more positional is allowed or not
room : (n m : ℕ) (same : Bool) → (m == n) ≡ same → n ≤ m → (m ≡ n) ⊎ (n + 1 ≤ m)
room n m true is le = inl (eqb-true m n is)
room n m false is le = inr (let other : m ≢ n = λ e. false≢true (sym is ∙ eq-eqb m n e) in omega arith)

positional_found : (d : Declaration) (u v w : UnreadLine) (l : List Parsed) (n : ℕ) (word : List ℕ) (limit : Option ℕ) → most d.positionals ≡ limit → IsWithin (positional_count l) limit
    → ReadsUpTo d u l v → are_accepted d.options l ≡ true → Next v (steps.positional word) w → bound w < n → Later d u n → Found d u
positional_found d u v w l n word None limit_is within read accepted step less later =
    later (l ++ positional word ∷ []) w
    (one_more d u v w l (spec.positional word) (positional word) read (first_positional word w step) (step_line next v (steps.positional word) w read.line step) refl
    (subst (IsWithin (positional_count l + 1)) (sym limit_is) tt))
    (accepted_append d.options l (positional word ∷ []) accepted refl) less
positional_found d u v w l n word (Some most_of) limit_is within read accepted step less later = ⊎_elim
    (λ (full : most_of ≡ positional_count l). stopped l (unexpected_argument word) v read (one_too_many word w step (limit_is ∙ ap (λ m. Some m) full)) accepted)
    (λ (enough : positional_count l + 1 ≤ most_of). later (l ++ positional word ∷ []) w
    (one_more d u v w l (spec.positional word) (positional word) read (first_positional word w step) (step_line next v (steps.positional word) w read.line step) refl
    (subst (IsWithin (positional_count l + 1)) (sym limit_is) enough))
    (accepted_append d.options l (positional word ∷ []) accepted refl) less)
    (room (positional_count l) most_of (most_of == positional_count l) refl within)

-- the end of the line
few_or_enough : (n m : ℕ) → (n < m) ⊎ (m ≤ n)
few_or_enough n zero = inr (omega arith)
few_or_enough zero (suc m) = inl (omega arith)
few_or_enough (suc n) (suc m) = ⊎_elim (λ (less : n < m). inl (omega arith)) (λ (more : m ≤ n). inr (omega arith)) (few_or_enough n m)

end_found : (d : Declaration) (u v w : UnreadLine) (l : List Parsed) → ReadsUpTo d u l v → are_accepted d.options l ≡ true → Next v steps.end w → Found d u
end_found d u v w l read accepted step = ⊎_elim
    (λ (less : positional_count l < least d.positionals). stopped l (missing_argument (positional_count l)) v read (too_few w step less) accepted)
    (λ (enough : least d.positionals ≤ positional_count l). ⊎_elim
    (λ (taken : AreTaken d.positionals (positional_words l)). ⊎_elim
    (λ (complete : (i : ℕ) → is_required d.options i ≡ true → occurs i l ≡ true). ⊎_elim
    (λ (apart : AreApart d.options (λ i. occurs i l)). to_the_end l v w read step enough taken complete apart accepted)
    (λ (clashes : (i : ℕ) × (j : ℕ) × IsFirstClash d.options (λ k. occurs k l) i j).
    stopped l (exclusive_options clashes.0 clashes.1) v read (not_apart clashes.0 clashes.1 w step enough taken complete clashes.2) accepted)
    (apart_or_clash d.options (λ i. occurs i l)))
    (λ (lacks : (index : ℕ) × IsFirstMissing d.options l index). stopped l (missing_option lacks.0) v read (not_complete lacks.0 w step enough taken lacks.1) accepted)
    (complete_or_missing d.options l))
    (λ (refused : (index : ℕ) × (word : List ℕ) × IsNotTaken d.positionals (positional_words l) index word).
    stopped l (invalid_argument refused.0 refused.1) v read (not_taken refused.0 refused.1 w step enough refused.2) accepted)
    (taken_or_not d.positionals (positional_words l) (subst (λ n. IsWithin n (most d.positionals)) (sym (words_count l)) read.within)))
    (few_or_enough (positional_count l) (least d.positionals))

reply_found : (d : Declaration) (u v w : UnreadLine) (l : List Parsed) (n : ℕ) (r : Reply) → ReadsUpTo d u l v → are_accepted d.options l ≡ true → NextStep v r w → IsNextReply r → bound v < suc n → Later d u n → Found d u
reply_found d u v w l n (steps.short c) read accepted step is less later =
    let falls = given_falls v w (steps.short c) (λ same. let e : steps.short c ≡ steps.end = same in cc) (λ same. let e : steps.short c ≡ steps.no_memory = same in cc) (inl step) in
    option_found d u v w l n (short c) (index_of d.options (short c)) read accepted (inl step) refl (omega arith) later
reply_found d u v w l n (steps.long name) read accepted step is less later =
    let falls = given_falls v w (steps.long name) (λ same. let e : steps.long name ≡ steps.end = same in cc) (λ same. let e : steps.long name ≡ steps.no_memory = same in cc) (inl step) in
    option_found d u v w l n (long name) (index_of d.options (long name)) read accepted (inl step) refl (omega arith) later
reply_found d u v w l n (steps.positional word) read accepted step is less later =
    let falls = given_falls v w (steps.positional word) (λ same. let e : steps.positional word ≡ steps.end = same in cc) (λ same. let e : steps.positional word ≡ steps.no_memory = same in cc) (inl step) in
    positional_found d u v w l n word (most d.positionals) refl read.within read accepted (inl step) (omega arith) later
reply_found d u v w l n steps.end read accepted step is less later = end_found d u v w l read accepted (inl step)
reply_found d u v w l n (steps.unexpected o word) read accepted step is less later = stopped l (unexpected_value o word) v read (value_of_flag o word w (inl step)) accepted
reply_found d u v w l n r read accepted step is less later = absurd is

found_within : (d : Declaration) (u : UnreadLine) (n : ℕ) → Later d u n
found_within d u zero l v read accepted less = absurd (let none : bound v < 0 = less in omega arith)
found_within d u (suc n) l v read accepted less =
    let a = next_answer v read.line in
    reply_found d u v a.1 l n a.0 read accepted a.2 (next_reply v a.1 a.0 a.2) less (found_within d u n)

answer_of : (d : Declaration) (words : List (List ℕ)) → is_sound d.options ≡ true → Found d (start d.short_equals words)
    → ((l : List Parsed) × Means d words l) ⊎ ((l : List Parsed) × (m : Mistake) × StopsAt d words l m)
answer_of d words sound (to_the_end l v w read ends enough taken complete apart accepted) =
    inl (
      l,
      record {
        whole = record {
          front = whole_front d words l v w sound read ends;
          enough = enough;
          taken = taken;
          complete = complete;
          accepted = accepted;
        };
        apart = apart;
      },
    )
answer_of d words sound (stopped l m v read stops accepted) = inr (l, m, record { there = v; read = read; stops = stops; accepted = accepted })

-- words mean something, or their reading stops
pub some_answer : (d : Declaration) (words : List (List ℕ)) → is_sound d.options ≡ true → ((l : List Parsed) × Means d words l) ⊎ ((l : List Parsed) × (m : Mistake) × StopsAt d words l m)
some_answer d words sound =
    let first = start d.short_equals words in
    answer_of d words sound (found_within d first (suc (bound first)) [] first (nothing_read d first tt) refl (omega arith))
