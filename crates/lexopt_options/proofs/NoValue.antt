-- Why an option that was just read has no value.
use Rattle.lexopt_options.proofs.Common.{◌≡◌, ◌≢◌, ℕ, List, Some, None, string_bytes, refl, sym, subst, ◌∙◌, inl, inr, UnreadLine, Kind, Name, ValuesEndBy, refusal_reply, MissingValue}
use Rattle.lexopt_options.proofs.Common.{UnexpectedValue, Declaration, index_of, is_sound, kind_at, IsMistake, StopsAtOption}
use Rattle.lexopt_spec.specs.Steps as steps
use Rattle.lexopt_spec.specs.Steps.{Reply, Next, missing, unexpected}
use Rattle.lexopt_spec.specs.Views.{ValuesStep, no_values, some_values}
use Rattle.lexopt_spec.specs.Runs.{Call, Step, StepWithMemory}
use Rattle.lexopt_line_spec.specs.Table as spec
use Rattle.lexopt_line_spec.specs.Readings.{IsDue, option_reply}
use Rattle.lexopt_line_spec.proofs.LastOption.{missing_names}
use Rattle.lexopt_line_spec.proofs.ReplyKinds.{value_reply, optional_reply}
use Rattle.std.proofs.Common.{String, Global, Option, IsSome, true}
use Rattle.lexopt_options_spec.specs.Stops as stops
use Rattle.lexopt_options.specs.declared.mistake.Mistake.{Mistake}
use Rattle.lexopt_options.proofs.ReadNext.{kind_of_index}

several_values : (n : ℕ) (u v : UnreadLine) (r : Reply) (o x : List ℕ) → r ≡ unexpected o x → ValuesStep n u r v → ⊥
several_values n u v r o x is (no_values none p after) = let e : missing _ ≡ unexpected o x = sym p ∙ is in cc
several_values n u v r o x is (some_values some p after) = let e : steps.items _ ≡ unexpected o x = sym p ∙ is in cc

-- a call for values never returns an unexpected value
never_unexpected : (k : Kind) (call : Call) (u v : UnreadLine) (o x : List ℕ) → k ≢ spec.flag → IsDue k call → Step call u (unexpected o x) v → ⊥
never_unexpected k call u v o x other due (inr refused) = let e : unexpected o x ≡ steps.no_memory = refused.reply_is in cc
never_unexpected spec.flag call u v o x other due (inl step) = other refl
never_unexpected spec.one call u v o x other due (inl step) = value_reply u v (unexpected o x) (subst (λ c. StepWithMemory c u (unexpected o x) v) due step)
never_unexpected spec.optional call u v o x other due (inl step) = optional_reply u v (unexpected o x) (subst (λ c. StepWithMemory c u (unexpected o x) v) due step)
never_unexpected spec.several call u v o x other due (inl step) =
    several_values due.0 u v (unexpected o x) o x refl (subst (λ c. StepWithMemory c u (unexpected o x) v) due.1 step)

pub unexpected_never : (k : Kind) (u v : UnreadLine) (o : String Global) (x : List ℕ) → k ≢ spec.flag → ValuesEndBy k u (refusal_reply (UnexpectedValue o x)) v → ⊥
unexpected_never k u v o x other (inl is) = let e : unexpected (string_bytes o) x ≡ steps.no_memory = is in cc
unexpected_never k u v o x other (inr r) = never_unexpected k r.0 u v (string_bytes o) x other r.1 r.2

unnamed_never : (k : Kind) (u v w : UnreadLine) (name : Name) → Next u (option_reply name) v → ValuesEndBy k v (refusal_reply (MissingValue None)) w → ⊥
unnamed_never k u v w name read (inl is) = let e : missing None ≡ steps.no_memory = is in cc
unnamed_never k u v w name read (inr r) =
    let named = missing_names k r.0 u v w name None read r.1 r.2 in
    let e : None ≡ Some named.0 = named.1 in cc

-- the option has a name
pub is_named : (k : Kind) (u v w : UnreadLine) (name : Name) (option : Option (String Global)) → Next u (option_reply name) v → ValuesEndBy k v (refusal_reply (MissingValue option)) w → IsSome option
is_named k u v w name None read ends = absurd (unnamed_never k u v w name read ends)
is_named k u v w name (Some option) read ends = refl

-- a value that is missing
pub value_missing : (d : Declaration) (k : Kind) (u v w : UnreadLine) (name : Name) (index : ℕ) (option : String Global) (mistake : Mistake) → is_sound d.options ≡ true
    → Next u (option_reply name) v → index_of d.options name ≡ Some index → k ≡ kind_at d.options index → ValuesEndBy k v (refusal_reply (MissingValue (Some option))) w
    → IsMistake d mistake (stops.missing_value index (string_bytes option)) → StopsAtOption d u mistake
value_missing d k u v w name index option mistake sound step found k_is (inl is) told = absurd (let e : missing (Some (string_bytes option)) ≡ steps.no_memory = is in cc)
value_missing d k u v w name index option mistake sound step found k_is (inr r) told = record {
  why = stops.missing_value index (string_bytes option);
  told = told;
  of_option = tt;
  kept = λ l. refl;
  stops = λ l line. stops.no_value name index (string_bytes option) r.0 v w step found (subst (λ (x : spec.Kind). IsDue x r.0) (k_is ∙ kind_of_index d.options name index sound found) r.1) r.2;
}
