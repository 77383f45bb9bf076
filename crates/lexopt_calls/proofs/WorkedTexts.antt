-- The texts of whole lines, for worked examples.
use Rattle.std.proofs.Common.{◌≡◌, ◌≢◌, ℕ, Bool, true, List, [], ◌∷◌, ◌++◌, Option, Some, None, codes, refl, sym, ap, subst, ◌∙◌, inl, inr, true≢false}
use Rattle.lexopt_spec.specs.UnreadLine.{UnreadLine, dash, equals, fresh, no_tail, joined, rest}
use Rattle.lexopt_spec.specs.Runs.{Call, next, Step, Run}
use Rattle.lexopt_spec.specs.Steps as steps
use Rattle.lexopt_spec.specs.Steps.{Reply, no_memory, TakesMemory, ReadsWord, no_word, reads_separator, reads_long, reads_cluster, reads_positional, NextStep, joined_value, equals_value, next_in_cluster, after_separator, next_word}
use Rattle.lexopt_line_spec.specs.Table.{Item, Kind, Table}
use Rattle.lexopt_line_spec.specs.Readings.{IsLast, AskedAfter, last, more}
use Rattle.lexopt_calls.specs.Script as script
use Rattle.lexopt_line_spec.specs.ItemText.{bracketed, item_text}
use Rattle.lexopt_calls.specs.Script.{reply_text, with_newline, Written, WholeLineText, items_read, line_refused, memory_refused}
use Rattle.lexopt_line_spec.specs.Spelling.{Shows}
use Rattle.lexopt_line_spec.proofs.WholeLines.{said_shows, shown_said}

abbrev pub first : List ℕ → ℕ
first [] = 0
first (b ∷ bs) = b

asked_last : {t : Table} {final : Reply} (k : Kind) (calls : List Call) (replies : List Reply) → AskedAfter t final k calls replies → IsLast final
asked_last k calls replies (last k2 call due is) = is
asked_last k calls replies (more k2 l call reply calls2 replies2 due full on asked) = asked_last l calls2 replies2 asked

-- an error begins with `e`
error_first : (final : Reply) → IsLast final → final ≢ steps.end → first (reply_text final) ≡ 0x65
error_first steps.end is error = absurd (error refl)
error_first (steps.missing o) is error = refl
error_first (steps.unexpected o word) is error = refl
error_first (steps.short c) is error = absurd is
error_first (steps.long name) is error = absurd is
error_first (steps.positional word) is error = absurd is
error_first (steps.taken word) is error = absurd is
error_first (steps.maybe word) is error = absurd is
error_first (steps.items words) is error = absurd is
error_first steps.busy is error = absurd is
error_first steps.done is error = absurd is
error_first steps.no_memory is error = absurd is

-- the only texts of words that show no list are those of errors
pub none_written : (t : Table) (on : Bool) (words : List (List ℕ)) (text : List ℕ) → ((l : List Item) → Shows t on words l → ⊥) → first text ≢ 0x65
    → WholeLineText t on words text → ⊥
none_written t on words text none other (items_read l reading is) = none l (said_shows t on words l reading)
none_written t on words text none other (line_refused final l reading error is) =
    other (ap first is ∙ error_first final (asked_last _ reading.calls reading.replies reading.asked) error)
none_written t on words text none other (memory_refused is) = other (ap first is)

-- the text of words that show a list is that of the list, or of `OutOfMemory`
pub only_written : (t : Table) (on : Bool) (words : List (List ℕ)) (text : List ℕ) (l : List Item) → Shows t on words l
    → text ≢ bracketed item_text l → text ≢ reply_text no_memory → WholeLineText t on words text → ⊥
only_written t on words text l shows other memory (items_read m reading is) =
    other (is ∙ ap (λ k. bracketed item_text k) (sym (shown_said t on words l m steps.end shows reading).1))
only_written t on words text l shows other memory (line_refused final m reading error is) = error (shown_said t on words l m final shows reading).0
only_written t on words text l shows other memory (memory_refused is) = memory is

-- ---- no words, and one call of `next`

no_more_words : (r : Reply) (v : UnreadLine) → ReadsWord (fresh []) r v → r ≡ steps.end
no_more_words r v (no_word is p q) = p
no_more_words r v (reads_separator ws is reads) = let e : [] ≡ (dash ∷ dash ∷ []) ∷ ws = is in cc
no_more_words r v (reads_long text name tail ws is found option p q) = let e : [] ≡ (dash ∷ dash ∷ text) ∷ ws = is in cc
no_more_words r v (reads_cluster bytes ws is other reads) = let e : [] ≡ (dash ∷ bytes) ∷ ws = is in cc
no_more_words r v (reads_positional w ws is plain p q) = let e : [] ≡ w ∷ ws = is in cc

at_the_end : (r : Reply) (v : UnreadLine) → NextStep (fresh []) r v → r ≡ steps.end
at_the_end r v (joined_value x o is spelled p q) = let e : no_tail ≡ joined x = is in cc
at_the_end r v (equals_value x o is on spelled p q) = let e : no_tail ≡ rest (equals ∷ x) = is in cc
at_the_end r v (next_in_cluster bytes is other reads) = let e : no_tail ≡ rest bytes = is in cc
at_the_end r v (after_separator is ended reads) = absurd (true≢false (sym ended))
at_the_end r v (next_word is ended reads) = no_more_words r v reads

end_comes : (r : Reply) (v : UnreadLine) → Step next (fresh []) r v → r ≡ steps.end
end_comes r v (inl step) = at_the_end r v step
end_comes r v (inr refused) = absurd (subst TakesMemory (at_the_end refused.in_place_of.0 refused.in_place_of.1 refused.in_place_of.2) refused.in_place_of.3)

-- the output of `next` at the end of the line
pub one_end : (t : Table) (text : List ℕ) (replies : List Reply) (v : UnreadLine) → Run (fresh []) (next ∷ []) replies v
    → Written t [] true (script.call next ∷ []) replies text → text ≡ codes "None\n"
one_end t text [] v run written = absurd run
one_end t text (r ∷ []) v run written =
    written.2 ∙ ap (λ (l : List ℕ). with_newline (reply_text r) ++ l) written.1 ∙ ap (λ (x : Reply). with_newline (reply_text x) ++ []) (end_comes r run.0 run.1)
one_end t text (r ∷ s ∷ rs) v run written = absurd run.2

-- a script with a bad line is not one without
pub is_bad_line : (n : ℕ) (found : Option ℕ) → found ≡ Some n → found ≡ None → ⊥
is_bad_line n found is none = let e : Some n ≡ None = sym is ∙ none in cc
