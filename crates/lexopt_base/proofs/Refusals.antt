-- Calls that run out of memory, values that are refused, and clauses about errors.
use Rattle.std.proofs.Common.{◌≡◌, ℕ, Bool, true, false, List, [], ◌∷◌, Option, Some, None, IsSome, string_bytes, refl, sym, ap, subst, ◌∙◌, inl, inr}
use Rattle.std.specs.Prelude.{Result, Ok, Err, IfErr, OnErr}
use Rattle.std.specs.Result.{IsErrAnd}
use Rattle.lexopt_spec.specs.UnreadLine.{UnreadLine, LastOption, no_option, short_option, long_option, no_tail, spelling, pending, IsPlain}
use Rattle.lexopt_spec.specs.Views.{RawStep, refuses_pending}
use Rattle.lexopt_base.specs.Found.{found_as}
use Rattle.lexopt_base.specs.declared.parser.Found.TheVariants as found
use Rattle.lexopt_spec.specs.Steps.{Reply, long, missing, unexpected, no_memory, Answers, Next, NextStep, TakesMemory, ReadsPositional, no_word_left, word_left, ReadsWord, reads_positional}
use Rattle.lexopt_spec.proofs.LineLemmas.{refuses_joined, answers_map}
use Rattle.lexopt_words.specs.declared.error.Error.{Error}
use Rattle.lexopt_base.specs.Replies.{RepliesWith, error_reply}
use Rattle.lexopt_base.specs.Refusals.{IsErrorOf, IsMissing, RefusesPending, refusal_reply}
use Rattle.lexopt_base.specs.declared.refusal.Refusal.{Refusal}
use Rattle.lexopt_base.specs.declared.refusal.Refusal.TheVariants.{MissingValue, UnexpectedValue, OutOfMemory}

-- a call that runs out of memory for a text changes nothing
pub refused : (Step : UnreadLine → Reply → UnreadLine → Type 0) (u : UnreadLine) (wanted : Reply) (there : UnreadLine) → Step u wanted there → TakesMemory wanted
    → RepliesWith (Answers Step) u (Some no_memory) u
refused Step u wanted there step takes = inr (record { reply_is = refl; after_is = refl; in_place_of = (wanted, there, step, takes) })

-- the value of an option that is not `None`
pub some_of : {A : Type 0} (o : Option A) → IsSome o → (x : A) × (o ≡ Some x)
some_of None is = let f : false ≡ true = is in cc
some_of (Some x) is = (x, refl)

value_of : Option (List ℕ × Bool) → List ℕ
value_of None = []
value_of (Some value) = value.0

-- `next` refuses a value that is joined by `=`
pub refuses : (u v : UnreadLine) (known : List ℕ) (refusal : Refusal) → pending u ≡ Some (known, true) → RefusesPending u refusal v
    → RepliesWith Next u (Some (refusal_reply refusal)) v
unfolding value_of
refuses u v known (MissingValue option) is h = absurd h
refuses u v known (UnexpectedValue option value) is h =
    let same : known ≡ value = ap value_of (sym is ∙ h.1.1) in
    let step = refuses_joined u value (string_bytes option) (is ∙ ap (λ (l : List ℕ). Some (l, true)) same) h.0 in
    inl (subst (λ (x : UnreadLine). NextStep u (unexpected (string_bytes option) value) x) (sym h.1.2) step)
refuses u v known OutOfMemory is h =
    let option = some_of (spelling u.last) h.1 in
    let step = refuses_joined u known option.0 is option.1 in
    inr (record { reply_is = refl; after_is = h.0; in_place_of = (unexpected option.0 known, record u { tail = no_tail }, step, tt) })

-- if one relation implies another, so do their calls
pub gives_map : (S T : UnreadLine → Reply → UnreadLine → Type 0) (u : UnreadLine) → ((r : Reply) (v : UnreadLine) → S u r v → T u r v)
    → (reply : Option Reply) (v : UnreadLine) → RepliesWith (Answers S) u reply v → RepliesWith (Answers T) u reply v
gives_map S T u f None v h = absurd h
gives_map S T u f (Some reply) v h = answers_map S T u f reply v h

-- a step is also a step of a call that may run out of memory
pub gives_step : (S T : UnreadLine → Reply → UnreadLine → Type 0) (s u : UnreadLine) → ((r : Reply) (v : UnreadLine) → S s r v → T u r v)
    → (reply : Option Reply) (v : UnreadLine) → RepliesWith S s reply v → RepliesWith (Answers T) u reply v
gives_step S T s u f None v h = absurd h
gives_step S T s u f (Some reply) v h = inl (f reply v h)

-- a word that is not an option is also a positional before the separator
pub positional_read : (u : UnreadLine) (word : List ℕ) (others : List (List ℕ)) (r : Reply) (v : UnreadLine) → u.words ≡ word ∷ others → IsPlain false word
    → ReadsPositional u r v → ReadsWord u r v
positional_read u word others r v some plain (no_word_left none reply after) = let e = sym some ∙ none in cc
positional_read u word others r v some plain (word_left w ws is reply after) =
    let same : word ≡ w = cc in
    reads_positional w ws is (subst (λ (l : List ℕ). IsPlain false l) same plain) reply after

-- `raw_args` refuses the pending value, whichever words are asked for
pub refuses_raw : (Taken : UnreadLine → Reply → UnreadLine → Type 0) (u v : UnreadLine) (refusal : Refusal) → RefusesPending u refusal v
    → RepliesWith (Answers (RawStep Taken)) u (Some (refusal_reply refusal)) v
refuses_raw Taken u v (MissingValue option) h = absurd h
refuses_raw Taken u v (UnexpectedValue option value) h = inl (refuses_pending value (string_bytes option) h.1.0 h.1.1 h.0 refl h.1.2)
refuses_raw Taken u v OutOfMemory h =
    let option = some_of (spelling u.last) h.1 in
    let found = some_of (pending u) h.2 in
    let step = refuses_pending found.0.0 option.0 found.0.1 found.1 option.1 refl refl in
    inr (record { reply_is = refl; after_is = h.0; in_place_of = (unexpected option.0 found.0.0, record u { tail = no_tail }, step, tt) })

-- the reply for the error is that for the refusal
pub error_said : (refusal : Refusal) (e : Error) → IsErrorOf refusal e → error_reply e ≡ Some (refusal_reply refusal)
error_said (MissingValue None) e is = ap error_reply is
error_said (MissingValue (Some option)) e is = ap error_reply is
error_said (UnexpectedValue option value) e is = ap error_reply is
error_said OutOfMemory e is = ap error_reply is

-- a call for values fails if there are none
pub none_left : (Step : UnreadLine → Reply → UnreadLine → Type 0) (u : UnreadLine) (refusal : Refusal) → Step u (missing (spelling u.last)) u → IsMissing u.last refusal
    → Answers Step u (refusal_reply refusal) u
none_left Step u (MissingValue option) step is = inl (subst (λ (o : Option (List ℕ)). Step u (missing o) u) (sym is) step)
none_left Step u OutOfMemory step is =
    let option = some_of (spelling u.last) is in
    refused Step u (missing (Some option.0)) u (subst (λ (o : Option (List ℕ)). Step u (missing o) u) option.1 step) tt
none_left Step u (UnexpectedValue option value) step is = absurd is

-- a call that gives a refusal gives the error that the refusal is turned into
pub said_as_error : (Called : UnreadLine → Reply → UnreadLine → Type 0) (u v : UnreadLine) (refusal : Refusal) (e : Error) → IsErrorOf refusal e → Called u (refusal_reply refusal) v
    → RepliesWith Called u (error_reply e) v
said_as_error Called u v refusal e is gives = subst (λ (r : Option Reply). RepliesWith Called u r v) (sym (error_said refusal e is)) gives

-- `next` can lend the name of a long option that was found
pub named : (u w : UnreadLine) (text : List ℕ) → RepliesWith Next u (found_as w.last found.Long) w → ((name : List ℕ) → w.last ≡ long_option name → text ≡ name) → Next u (long text) w
named u w text step is = name_in w.last step is
  where
    name_in : (last : LastOption) → RepliesWith Next u (found_as last found.Long) w → ((name : List ℕ) → last ≡ long_option name → text ≡ name) → Next u (long text) w
    name_in no_option step is = absurd step
    name_in (short_option c) step is = absurd step
    name_in (long_option name) step is = subst (λ (n : List ℕ). Next u (long n) w) (sym (is name refl)) step

-- ---- results

-- a clause about an error implies a weaker one
pub err_says : {X Y : Type 0} (r : Result X Y) (P Q : Y → Type 0) → IsErrAnd r P → ((y : Y) → P y → Q y) → IfErr r Q
err_says (Ok x) P Q h more = tt
err_says (Err y) P Q h more = more y h

-- an error that `?` returns
pub handed_on : {X Y : Type 0} (r : Result X Y) (e : Y) (Q : Y → Type 0) → IsErrAnd r (λ y. y ≡ e) → Q e → IfErr r Q
handed_on r e Q is h = err_says r (λ y. y ≡ e) Q is (λ y same. subst Q (sym same) h)

-- a clause about errors holds for the error that was found
pub err_told : {X Y : Type 0} (r : Result X Y) (e : Y) (P : Y → Type 0) → r ≡ Err e → OnErr r (IfErr r P) → P e
err_told r e P is told = subst (λ q. OnErr q (IfErr q P)) is told
