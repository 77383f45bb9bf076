-- The output of commands, one after another.
use Rattle.std.proofs.Common.{◌≡◌, ◌≢◌, ℕ, Bool, true, List, [], ◌∷◌, ◌++◌, map, fold, Option, Some, None, MatchOption, Result, Ok, Err, IfOk, IfErr, OnOk, is_ok, if◌then◌else◌, Vec, Global, codes, refl, sym, ap, subst, ◌∙◌, inl, inr, append_assoc, append-nil}
use Rattle.std.specs.declared.alloc.AllocError.{AllocError}
use Rattle.std.specs.List.{filter_map}
use Rattle.std.proofs.lemmas.List.Elements.{filter_map-append}
use Rattle.lexopt_spec.specs.UnreadLine.{UnreadLine, fresh}
use Rattle.lexopt_spec.specs.Steps as steps
use Rattle.lexopt_spec.specs.Steps.{Reply, end}
use Rattle.lexopt_spec.specs.Runs.{Call, Run, Step}
use Rattle.lexopt_line_spec.specs.Table as spec
use Rattle.lexopt_line_spec.specs.Readings.{IsReading, start}
use Rattle.lexopt_spec.specs.Runs.{short_equals_after}
use Rattle.lexopt_calls.specs.Script.{Command, call, whole_line, call_of, with_newline, reply_text, Written, WholeLineText, items_read, line_refused, memory_refused}
use Rattle.lexopt_calls.proofs.RunLemmas.{Run-more}
use Rattle.lexopt_calls.proofs.WrittenLines.{switch_after, switch_after-call, switch_after-whole, Written-call, Written-whole}
use Rattle.lexopt_base.specs.Replies.{error_reply}
use Rattle.lexopt_words.specs.Message.{message}
use Rattle.lexopt_words.specs.declared.error.Error.{Error}
use Rattle.lexopt_words.specs.declared.error.Error.TheVariants.{MissingValue, UnexpectedOption, UnexpectedArgument, UnexpectedValue, ParsingFailed, NonUnicodeValue, Custom, OutOfMemory}
use Rattle.lexopt_items.specs.declared.items.Item.{Item}
use Rattle.lexopt_items.specs.Items.{FailsWith, item_view, table_view}
use Rattle.lexopt_calls.specs.declared.script.Script.{Script}
use Rattle.lexopt_calls.specs.Performed.{answer_text, replies_text, MakesCalls}

-- ---- the result of a whole line

-- the text of an error is the text of its reply
error_texts : (e : Error) → MatchOption (error_reply e) (Unit {0}) (λ r. (codes "error: " ++ message e ≡ reply_text r) × (r ≢ end))
error_texts (MissingValue None) = (refl, λ is. let f : steps.missing None ≡ end = is in cc)
error_texts (MissingValue (Some o)) = (refl, λ is. let f : steps.missing (Some _) ≡ end = is in cc)
error_texts (UnexpectedOption o) = tt
error_texts (UnexpectedArgument x) = tt
error_texts (UnexpectedValue o x) = (refl, λ is. let f : steps.unexpected _ _ ≡ end = is in cc)
error_texts (ParsingFailed x c) = tt
error_texts (NonUnicodeValue x) = tt
error_texts (Custom c) = tt
error_texts OutOfMemory = (refl, λ is. let f : steps.no_memory ≡ end = is in cc)

error_text : (e : Error) (final : Reply) → error_reply e ≡ Some final → (codes "error: " ++ message e ≡ reply_text final) × (final ≢ end)
error_text e final is = subst (λ (o : Option Reply). MatchOption o (Unit {0}) (λ r. (codes "error: " ++ message e ≡ reply_text r) × (r ≢ end))) is (error_texts e)

pub answer_written : (t : spec.Table) (on : Bool) (words : List (List ℕ)) (answer : Result (Vec Item Global) Error)
    → IfOk answer (λ items. IsReading t (start on words) end (map item_view items.items)) → IfErr answer (λ e. FailsWith t (start on words) e)
    → WholeLineText t on words (answer_text answer)
answer_written t on words (Ok items) reading refused = items_read (map item_view items.items) reading refl
answer_written t on words (Err e) reading (inl none) = memory_refused (ap (λ x. codes "error: " ++ message x) none)
answer_written t on words (Err e) reading (inr ends) =
    let text = error_text e ends.0 ends.3 in line_refused ends.0 ends.1 ends.2 text.1 text.0

-- a text and a newline were appended
pub line_added : (r : Result (Unit {0}) AllocError) (P : List ℕ → Type 0) (old mid new text : List ℕ) → P text → mid ≡ old ++ text
    → new ≡ (if is_ok r then mid ++ codes "\n" else mid) → OnOk r ((line : List ℕ) × P line × (new ≡ old ++ with_newline line))
line_added (Ok u) P old mid new text holds is_mid is_new = (text, holds, is_new ∙ ap (λ l. l ++ codes "\n") is_mid ∙ append_assoc old text (codes "\n"))
line_added (Err e) P old mid new text holds is_mid is_new = tt

-- ---- commands

-- these commands were run on a parser of the words, with this text as output
pub record Done (script : Script) (commands : List Command) (v : UnreadLine) (on : Bool) (text : List ℕ) : Type 0 where
  pub replies : List Reply
  pub run : Run (fresh script.words.items) (filter_map call_of commands) replies v
  pub written : Written (table_view script.table) script.words.items true commands replies text
  pub on_is : on ≡ switch_after true commands

-- one more call
call_done : (script : Script) (commands : List Command) (c : Call) (reply : Reply) (u v : UnreadLine) (on : Bool) (text : List ℕ) → Done script commands u on text
    → Step c u reply v → Done script (commands ++ call c ∷ []) v (short_equals_after on c) (text ++ with_newline (reply_text reply))
call_done script commands c reply u v on text done step = record {
  replies = done.replies ++ reply ∷ [];
  run = subst (λ calls. Run (fresh script.words.items) calls (done.replies ++ reply ∷ []) v) (sym (filter_map-append call_of commands (call c ∷ [])))
      (Run-more _ u v (filter_map call_of commands) done.replies c reply done.run step);
  written = Written-call (table_view script.table) script.words.items true commands done.replies text c reply done.written;
  on_is = ap (λ b. short_equals_after b c) done.on_is ∙ sym (switch_after-call true commands c);
}

-- the same for equal commands and an equal text
done_at : (script : Script) (a b : List Command) (v : UnreadLine) (on : Bool) (text new : List ℕ) → a ≡ b → text ≡ new → Done script a v on text → Done script b v on new
done_at script a b v on text new same same_text done =
    subst (λ l. Done script l v on new) same (subst (λ t. Done script a v on t) same_text done)

run_done : (script : Script) (commands : List Command) (calls : List Call) (replies : List Reply) (u v : UnreadLine) (on : Bool) (text : List ℕ) → Done script commands u on text
    → Run u calls replies v → Done script (commands ++ map call calls) v (fold short_equals_after on calls) (text ++ replies_text replies)
run_done script commands [] [] u v on text done run =
    done_at script commands (commands ++ []) v on text (text ++ []) (sym (append-nil commands)) (sym (append-nil text)) (subst (λ (l : UnreadLine). Done script commands l on text) (sym run) done)
run_done script commands [] (r ∷ rs) u v on text done run = absurd run
run_done script commands (c ∷ cs) [] u v on text done run = absurd run
run_done script commands (c ∷ cs) (r ∷ rs) u v on text done run =
    done_at script ((commands ++ call c ∷ []) ++ map call cs) (commands ++ map call (c ∷ cs)) v (fold short_equals_after on (c ∷ cs))
    ((text ++ with_newline (reply_text r)) ++ replies_text rs) (text ++ replies_text (r ∷ rs))
    (append_assoc commands (call c ∷ []) (map call cs)) (append_assoc text (with_newline (reply_text r)) (replies_text rs))
    (run_done script (commands ++ call c ∷ []) cs rs run.0 v (short_equals_after on c) (text ++ with_newline (reply_text r))
    (call_done script commands c r u run.0 on text done run.1) run.2)

-- these calls were made after the commands
pub calls_done : (script : Script) (commands : List Command) (calls : List Call) (u v : UnreadLine) (on now : Bool) (text new : List ℕ) → Done script commands u on text
    → MakesCalls calls u on text v now new → Done script (commands ++ map call calls) v now new
calls_done script commands calls u v on now text new done made =
    rw (made.2, made.3) (run_done script commands calls made.0 u v on text done made.1)

-- one more whole line
pub line_done : (script : Script) (commands : List Command) (u : UnreadLine) (on : Bool) (text line : List ℕ) → Done script commands u on text
    → WholeLineText (table_view script.table) on script.words.items line → Done script (commands ++ whole_line ∷ []) u on (text ++ with_newline line)
line_done script commands u on text line done says = record {
  replies = done.replies;
  run = subst (λ calls. Run (fresh script.words.items) calls done.replies u) (sym (filter_map-append call_of commands (whole_line ∷ []) ∙ append-nil (filter_map call_of commands))) done.run;
  written = Written-whole (table_view script.table) script.words.items true commands done.replies text line done.written
      (subst (λ (b : Bool). WholeLineText (table_view script.table) b script.words.items line) done.on_is says);
  on_is = done.on_is ∙ sym (switch_after-whole true commands);
}
