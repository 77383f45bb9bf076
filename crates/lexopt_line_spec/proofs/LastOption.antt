-- The option read last, and the option that an error names.
use Rattle.std.proofs.Common.{◌≡◌, ℕ, true, List, Option, Some, None, refl, sym, ap, subst, ◌∙◌, inl, inr}
use Rattle.lexopt_spec.specs.UnreadLine.{short_option, long_option, spelling, LastOption, UnreadLine}
use Rattle.lexopt_spec.specs.Steps as steps
use Rattle.lexopt_spec.specs.Steps.{Reply, Next, short, long, ReadsPositional, no_word_left, word_left, ReadsWord, no_word, reads_separator, reads_long, reads_cluster, reads_positional, NextStep, joined_value, equals_value, next_in_cluster, after_separator, next_word, ValueStep, pending_value, takes_word, nothing_to_take, OptionalStep, optional_pending, optional_none, missing}
use Rattle.lexopt_spec.specs.Views.{ValuesStep, no_values, some_values}
use Rattle.lexopt_spec.specs.Runs.{Call, StepWithMemory, Step}
use Rattle.lexopt_line_spec.specs.Table as table
use Rattle.lexopt_line_spec.specs.Table.{Name, Kind, flag, one, optional, several}
use Rattle.lexopt_line_spec.specs.Readings.{IsDue, option_reply}
use Rattle.lexopt_line_spec.proofs.ReplyKinds.{next_reply}

-- the last option after a reply: the one that the reply names, otherwise the one before
abbrev pub last_after : LastOption → Reply → LastOption
last_after last (short c) = short_option c
last_after last (long name) = long_option name
last_after last r = last

positional_last : (u : UnreadLine) (r : Reply) (v : UnreadLine) → ReadsPositional u r v → v.last ≡ last_after u.last r
positional_last u r v (no_word_left is p after) = rw (p, after) refl
positional_last u r v (word_left x xs is p after) = rw (p, after) refl

word_last : (u : UnreadLine) (r : Reply) (v : UnreadLine) → ReadsWord u r v → v.last ≡ last_after u.last r
word_last u r v (no_word is p after) = rw (p, after) refl
word_last u r v (reads_separator ws is reads) = positional_last (record u { words = ws; ended = true }) r v reads
word_last u r v (reads_long text name tail ws is found option p after) = rw (p, after) refl
word_last u r v (reads_cluster bytes ws is other reads) = rw (reads.reply_is, reads.after_is) refl
word_last u r v (reads_positional w ws is plain p after) = rw (p, after) refl

next_last : (u : UnreadLine) (r : Reply) (v : UnreadLine) → NextStep u r v → v.last ≡ last_after u.last r
next_last u r v (joined_value x o is spelled p after) = rw (p, after) refl
next_last u r v (equals_value x o is on spelled p after) = rw (p, after) refl
next_last u r v (next_in_cluster bytes is other reads) = rw (reads.reply_is, reads.after_is) refl
next_last u r v (after_separator is ended reads) = positional_last u r v reads
next_last u r v (next_word is ended reads) = word_last u r v reads

pub option_is_last : (u : UnreadLine) (r : Reply) (v : UnreadLine) → Next u r v → v.last ≡ last_after u.last r
option_is_last u r v (inl step) = next_last u r v step
option_is_last u r v (inr refused) = rw (refused.reply_is, refused.after_is) refl

-- ---- the option that an error names

value_missing : (u v : UnreadLine) (r : Reply) (o : Option (List ℕ)) → r ≡ missing o → ValueStep u r v → o ≡ spelling u.last
value_missing u v r o is (pending_value x by_equals p q after) = let e : steps.taken x ≡ missing o = sym q ∙ is in cc
value_missing u v r o is (takes_word w ws p words q after) = let e : steps.taken w ≡ missing o = sym q ∙ is in cc
value_missing u v r o is (nothing_to_take p words q after) = let e : missing (spelling u.last) ≡ missing o = sym q ∙ is in cc

optional_missing : (u v : UnreadLine) (r : Reply) (o : Option (List ℕ)) → r ≡ missing o → OptionalStep u r v → o ≡ spelling u.last
optional_missing u v r o is (optional_pending x by_equals p q after) = let e : steps.maybe (Some x) ≡ missing o = sym q ∙ is in cc
optional_missing u v r o is (optional_none p q after) = let e : steps.maybe None ≡ missing o = sym q ∙ is in cc

values_missing : (n : ℕ) (u v : UnreadLine) (r : Reply) (o : Option (List ℕ)) → r ≡ missing o → ValuesStep n u r v → o ≡ spelling u.last
values_missing n u v r o is (no_values none q after) = let e : missing (spelling u.last) ≡ missing o = sym q ∙ is in cc
values_missing n u v r o is (some_values some q after) = let e : steps.items _ ≡ missing o = sym q ∙ is in cc

due_missing : (k : Kind) (call : Call) (u v : UnreadLine) (o : Option (List ℕ)) → IsDue k call → StepWithMemory call u (missing o) v → o ≡ spelling u.last
due_missing flag call u v o due step = absurd (next_reply u v (missing o) (subst (λ c. StepWithMemory c u (missing o) v) due step))
due_missing one call u v o due step = value_missing u v (missing o) o refl (subst (λ c. StepWithMemory c u (missing o) v) due step)
due_missing optional call u v o due step = optional_missing u v (missing o) o refl (subst (λ c. StepWithMemory c u (missing o) v) due step)
due_missing several call u v o due step = values_missing due.0 u v (missing o) o refl (subst (λ c. StepWithMemory c u (missing o) v) due.1 step)

-- if a value is missing after an option, the error names that option
pub missing_names : (k : Kind) (call : Call) (u v w : UnreadLine) (name : Name) (o : Option (List ℕ)) → Next u (option_reply name) v → IsDue k call → Step call v (missing o) w
    → (option : List ℕ) × (o ≡ Some option)
missing_names k call u v w name o read due (inr refused) = absurd (let e : missing o ≡ steps.no_memory = refused.reply_is in cc)
missing_names k call u v w (table.short c) o read due (inl step) = (_, due_missing k call v w o due step ∙ ap spelling (option_is_last u (short c) v read))
missing_names k call u v w (table.long n) o read due (inl step) = (_, due_missing k call v w o due step ∙ ap spelling (option_is_last u (long n) v read))
