-- The turns of the loop of `read_items`.
use Rattle.std.proofs.Common.{◌≡◌, ℕ, Bool, true, false, List, [], ◌∷◌, Some, None, option_map, refl, sym, ap, subst, ◌∙◌, inl, inr, ⊎_elim, true≢false, ◌++◌, ◌⊎◌, append-nil, string_bytes}
use Rattle.lexopt_spec.specs.UnreadLine.{UnreadLine}
use Rattle.lexopt_spec.specs.Steps as steps
use Rattle.lexopt_spec.specs.Steps.{Next}
use Rattle.lexopt_spec.specs.Runs as calls
use Rattle.lexopt_spec.specs.Runs.{Call, Step}
use Rattle.lexopt_line_spec.specs.Table.{Name, Item, option, positional, Kind, flag, one, optional, several, holds_in, kind, Table}
use Rattle.lexopt_line_spec.specs.Readings.{option_reply, IsDue, IsReading, MeansUpTo, start}
use Rattle.lexopt_line_spec.specs.Values.{Values, at_most_one, all, ReadsValues, ValuesEndBy, item_with}
use Rattle.lexopt_line_spec.proofs.Bounds.{positional_falls, values_fall}
use Rattle.lexopt_line_spec.proofs.ReadingSteps.{says_flag, says_value, says_optional, says_several, says_positional, reads_last, reads_refused}
use Rattle.lexopt_line_spec.specs.Spelling.{Shows}
use Rattle.lexopt_line_spec.proofs.WholeLines.{shown_said}
use Rattle.lexopt_base.specs.Replies.{RepliesWith, error_reply}
use Rattle.lexopt_words.specs.declared.error.Error.{Error}
use Rattle.lexopt_words.specs.declared.error.Error.TheVariants as error
use Rattle.std.specs.Prelude.{Result, Ok, Err, IfOk}
use Rattle.std.specs.Result.{IsErrAnd}
use Rattle.lexopt_base.specs.declared.parser.Found.{Found}
use Rattle.lexopt_base.specs.Found.{found_as}
use Rattle.lexopt_base.specs.declared.refusal.Refusal.{Refusal}
use Rattle.lexopt_base.specs.declared.refusal.Refusal.TheVariants.{MissingValue, UnexpectedValue, OutOfMemory}
use Rattle.lexopt_base.specs.Refusals.{IsErrorOf, refusal_reply}
use Rattle.lexopt_base.proofs.Refusals.{error_said}
use Rattle.lexopt_items.specs.Items.{ReadsItem, ReadsInto, EndsBy, FailsWith}

-- ---- the kind of an option

abbrev pub IsHeld : Table → Kind → Name → Bool → Type 0
IsHeld t one name held = holds_in t.shorts t.longs name ≡ held
IsHeld t optional name held = holds_in t.optional_shorts t.optional_longs name ≡ held
IsHeld t several name held = holds_in t.several_shorts t.several_longs name ≡ held
IsHeld t flag name held = Unit {0}

pub is_one : (t : Table) (name : Name) → IsHeld t one name true → one ≡ kind t name
unfolding kind
is_one t name a = rw a refl

pub is_optional : (t : Table) (name : Name) → IsHeld t one name false → IsHeld t optional name true → optional ≡ kind t name
unfolding kind
is_optional t name a b = rw (a, b) refl

pub is_several : (t : Table) (name : Name) → IsHeld t one name false → IsHeld t optional name false → IsHeld t several name true → several ≡ kind t name
unfolding kind
is_several t name a b c = rw (a, b, c) refl

pub is_flag : (t : Table) (name : Name) → IsHeld t one name false → IsHeld t optional name false → IsHeld t several name false → flag ≡ kind t name
unfolding kind
is_flag t name a b c = rw (a, b, c) refl

-- ---- one item

pub positional_read : (t : Table) (u v : UnreadLine) (word : List ℕ) → Next u (steps.positional word) v → ReadsItem t u (positional word) v
positional_read t u v word step = (says_positional t u v word step, positional_falls u v word step)

-- an option and its values are one item
option_says : (t : Table) (u v w : UnreadLine) (name : Name) (k : Kind) (values : Values) → k ≡ kind t name → Next u (option_reply name) v → ReadsValues k v values w
    → MeansUpTo t u (item_with name values ∷ []) w
option_says t u v w name flag (at_most_one None) is step reads = subst (MeansUpTo t u (option name None ∷ [])) (sym reads) (says_flag t u v name (sym is) step)
option_says t u v w name one (at_most_one (Some word)) is step reads = says_value t u v w name word (sym is) step reads
option_says t u v w name optional (at_most_one value) is step reads = says_optional t u v w name value (sym is) step reads
option_says t u v w name several (all values) is step reads = says_several t u v w name reads.0 values (sym is) reads.1 step reads.2
option_says t u v w name k values is step reads = absurd reads

pub option_read : (t : Table) (u v w : UnreadLine) (name : Name) (k : Kind) (values : Values) → k ≡ kind t name → Next u (option_reply name) v → ReadsValues k v values w
    → ReadsItem t u (item_with name values) w
option_read t u v w name k values is step reads = (option_says t u v w name k values is step reads, values_fall u v w name k values step reads)

-- an item that was read is appended to the list
pub joins : (t : Table) (u v : UnreadLine) (before after : List Item) (item : Item) (r : Result Bool Refusal) → ReadsItem t u item v
    → IfOk r (λ continues. (continues ≡ true) × (after ≡ before ++ item ∷ [])) → IfOk r (λ continues. ReadsInto t u before continues v after)
joins t u v before after item (Ok true) reads h = (item, h.1, reads)
joins t u v before after item (Ok false) reads h = absurd (true≢false (sym h.0))
joins t u v before after item (Err e) reads h = tt

-- ---- errors

-- the call for the values of an option is refused
pub value_refused : (k : Kind) (u v : UnreadLine) (refusal : Refusal) (call : Call) → IsDue k call → Step call u (refusal_reply refusal) v → ValuesEndBy k u (refusal_reply refusal) v
value_refused k u v refusal call due gives = inr (call, due, gives)

pub several_refused : (u v : UnreadLine) (refusal : Refusal) → (refusal ≡ OutOfMemory) ⊎ ((n : ℕ) × Step (calls.values n) u (refusal_reply refusal) v) → ValuesEndBy several u (refusal_reply refusal) v
several_refused u v refusal (inl is) = inl (ap refusal_reply is)
several_refused u v refusal (inr r) = inr (calls.values r.0, (r.0, refl), r.1)

-- so the reading ends in that refusal
pub option_refused : (t : Table) (u v w : UnreadLine) (name : Name) (k : Kind) (refusal : Refusal) → k ≡ kind t name → Next u (option_reply name) v → ValuesEndBy k v (refusal_reply refusal) w
    → EndsBy t u refusal
option_refused t u v w name k OutOfMemory is step ends = inl refl
option_refused t u v w name k (MissingValue o) is step (inl none) = absurd (let e : steps.missing (option_map string_bytes o) ≡ steps.no_memory = none in cc)
option_refused t u v w name k (UnexpectedValue o x) is step (inl none) = absurd (let e : steps.unexpected (string_bytes o) x ≡ steps.no_memory = none in cc)
option_refused t u v w name k (MissingValue o) is step (inr r) = inr (_, reads_refused t u v w name k r.0 (refusal_reply (MissingValue o)) (sym is) r.1 tt step r.2)
option_refused t u v w name k (UnexpectedValue o x) is step (inr r) = inr (_, reads_refused t u v w name k r.0 (refusal_reply (UnexpectedValue o x)) (sym is) r.1 tt step r.2)

-- `next` is refused, so the reading ends in that refusal
pub next_refused : (t : Table) (u v : UnreadLine) (refusal : Refusal) → Next u (refusal_reply refusal) v → EndsBy t u refusal
next_refused t u v (MissingValue o) step = inr (_, reads_last t u v (refusal_reply (MissingValue o)) tt step)
next_refused t u v (UnexpectedValue o x) step = inr (_, reads_last t u v (refusal_reply (UnexpectedValue o x)) tt step)
next_refused t u v OutOfMemory step = inl refl

-- if the reading of the rest ends in a refusal, so does the reading of the whole line
pub refused_later : (t : Table) (u v : UnreadLine) (l : List Item) (refusal : Refusal) → MeansUpTo t u l v → EndsBy t v refusal → EndsBy t u refusal
refused_later t u v l refusal says (inl is) = inl is
refused_later t u v l refusal says (inr reading) = inr (_, says (refusal_reply refusal) reading.0 reading.1)

-- the error that a refusal is turned into ends the reading
pub is_refused : (t : Table) (u : UnreadLine) (refusal : Refusal) (e : Error) → EndsBy t u refusal → IsErrorOf refusal e → FailsWith t u e
is_refused t u OutOfMemory e ends is = inl is
is_refused t u (MissingValue o) e (inl none) is = let f : MissingValue o ≡ OutOfMemory = none in cc
is_refused t u (UnexpectedValue o x) e (inl none) is = let f : UnexpectedValue o x ≡ OutOfMemory = none in cc
is_refused t u refusal e (inr r) is = inr (_, r.0, r.1, error_said refusal e is)

-- the items read before, and then the end, are a whole reading
pub end_read : (t : Table) (u v w : UnreadLine) (before after : List Item) (continues : Bool) → continues ≡ false → MeansUpTo t u before v → ReadsInto t v before continues w after
    → IsReading t u steps.end after
end_read t u v w before after false is says reads =
    subst (IsReading t u steps.end) (append-nil before ∙ sym reads.0) (says steps.end [] (reads_last t v w steps.end tt reads.1))
end_read t u v w before after true is says reads = absurd (true≢false is)

-- ---- results of a step

pub gave : (u v : UnreadLine) (found x : Found) → RepliesWith Next u (found_as v.last found) v → found ≡ x → RepliesWith Next u (found_as v.last x) v
gave u v found x h is = subst (λ (f : Found). RepliesWith Next u (found_as v.last f) v) is h

pub err_alone : {X Y : Type 0} (r : Result X Y) (P : Y → Type 0) (Q : X → Type 0) → IsErrAnd r P → IfOk r Q
err_alone (Ok x) P Q h = absurd h
err_alone (Err y) P Q h = tt

-- ---- whole readings, and what words show

no_error : (x : Error) → error_reply x ≡ Some steps.end → ⊥
no_error (error.MissingValue None) is = let f : Some (steps.missing None) ≡ Some steps.end = is in cc
no_error (error.MissingValue (Some o)) is = let f : Some (steps.missing (Some (string_bytes o))) ≡ Some steps.end = is in cc
no_error (error.UnexpectedOption o) is = let f : None ≡ Some steps.end = is in cc
no_error (error.UnexpectedArgument x) is = let f : None ≡ Some steps.end = is in cc
no_error (error.UnexpectedValue o x) is = let f : Some (steps.unexpected (string_bytes o) x) ≡ Some steps.end = is in cc
no_error (error.ParsingFailed x c) is = let f : None ≡ Some steps.end = is in cc
no_error (error.NonUnicodeValue x) is = let f : None ≡ Some steps.end = is in cc
no_error (error.Custom c) is = let f : None ≡ Some steps.end = is in cc
no_error error.OutOfMemory is = let f : Some steps.no_memory ≡ Some steps.end = is in cc

-- if a reading ends in an error, the words show nothing
pub refused_shows_none : (t : Table) (short_equals : Bool) (words : List (List ℕ)) (e : Error) → FailsWith t (start short_equals words) e
    → (e ≡ error.OutOfMemory) ⊎ ((l : List Item) → Shows t short_equals words l → ⊥)
refused_shows_none t short_equals words e (inl is) = inl is
refused_shows_none t short_equals words e (inr reading) = inr (λ l shows.
    let final = (shown_said t short_equals words l reading.1 reading.0 shows reading.2).0 in no_error e (reading.3 ∙ ap Some final))

pub refused_shows : (t : Table) (short_equals : Bool) (words : List (List ℕ)) (l : List Item) (e : Error) → Shows t short_equals words l → FailsWith t (start short_equals words) e → e ≡ error.OutOfMemory
refused_shows t short_equals words l e shows refused =
    ⊎_elim (λ is. is) (λ (none : (m : List Item) → Shows t short_equals words m → ⊥). absurd (none l shows)) (refused_shows_none t short_equals words e refused)
