-- The output of commands, one command at a time.
use Rattle.std.proofs.Common.{◌≡◌, Bool, ℕ, List, [], ◌∷◌, ◌++◌, refl, sym, ap, ◌∙◌, append_assoc, append-nil}
use Rattle.lexopt_spec.specs.Steps.{Reply}
use Rattle.lexopt_spec.specs.Runs.{Call}
use Rattle.lexopt_line_spec.specs.Table.{Table}
use Rattle.lexopt_spec.specs.Runs.{short_equals_after}
use Rattle.lexopt_calls.specs.Script.{Command, call, whole_line, reply_text, with_newline, WholeLineText, Written}

-- `short_equals` after these commands
abbrev pub switch_after : Bool → List Command → Bool
switch_after on [] = on
switch_after on (call c ∷ commands) = switch_after (short_equals_after on c) commands
switch_after on (whole_line ∷ commands) = switch_after on commands

pub switch_after-call : (on : Bool) (commands : List Command) (c : Call) → switch_after on (commands ++ call c ∷ []) ≡ short_equals_after (switch_after on commands) c
switch_after-call on [] c = refl
switch_after-call on (call d ∷ commands) c = switch_after-call (short_equals_after on d) commands c
switch_after-call on (whole_line ∷ commands) c = switch_after-call on commands c

pub switch_after-whole : (on : Bool) (commands : List Command) → switch_after on (commands ++ whole_line ∷ []) ≡ switch_after on commands
switch_after-whole on [] = refl
switch_after-whole on (call d ∷ commands) = switch_after-whole (short_equals_after on d) commands
switch_after-whole on (whole_line ∷ commands) = switch_after-whole on commands

-- one more call
pub Written-call : (t : Table) (words : List (List ℕ)) (on : Bool) (commands : List Command) (replies : List Reply) (text : List ℕ) (c : Call) (reply : Reply)
    → Written t words on commands replies text
    → Written t words on (commands ++ call c ∷ []) (replies ++ reply ∷ []) (text ++ with_newline (reply_text reply))
Written-call t words on [] [] text c reply is = ([], refl, ap (λ l. l ++ with_newline (reply_text reply)) is ∙ sym (append-nil (with_newline (reply_text reply))))
Written-call t words on [] (r ∷ replies) text c reply is = absurd is
Written-call t words on (call d ∷ commands) [] text c reply is = absurd is
Written-call t words on (call d ∷ commands) (r ∷ replies) text c reply is = (
  is.0 ++ with_newline (reply_text reply),
  Written-call t words (short_equals_after on d) commands replies is.0 c reply is.1,
  ap (λ l. l ++ with_newline (reply_text reply)) is.2 ∙ append_assoc (with_newline (reply_text r)) is.0 (with_newline (reply_text reply)),
)
Written-call t words on (whole_line ∷ commands) replies text c reply is = (
  is.0,
  is.1 ++ with_newline (reply_text reply),
  is.2,
  Written-call t words on commands replies is.1 c reply is.3,
  ap (λ l. l ++ with_newline (reply_text reply)) is.4 ∙ append_assoc (with_newline is.0) is.1 (with_newline (reply_text reply)),
)

-- one more whole line
pub Written-whole : (t : Table) (words : List (List ℕ)) (on : Bool) (commands : List Command) (replies : List Reply) (text line : List ℕ)
    → Written t words on commands replies text → WholeLineText t (switch_after on commands) words line
    → Written t words on (commands ++ whole_line ∷ []) replies (text ++ with_newline line)
Written-whole t words on [] [] text line is says = (line, [], says, refl, ap (λ l. l ++ with_newline line) is ∙ sym (append-nil (with_newline line)))
Written-whole t words on [] (r ∷ replies) text line is says = absurd is
Written-whole t words on (call d ∷ commands) [] text line is says = absurd is
Written-whole t words on (call d ∷ commands) (r ∷ replies) text line is says = (
  is.0 ++ with_newline line,
  Written-whole t words (short_equals_after on d) commands replies is.0 line is.1 says,
  ap (λ l. l ++ with_newline line) is.2 ∙ append_assoc (with_newline (reply_text r)) is.0 (with_newline line),
)
Written-whole t words on (whole_line ∷ commands) replies text line is says = (
  is.0,
  is.1 ++ with_newline line,
  is.2,
  Written-whole t words on commands replies is.1 line is.3 says,
  ap (λ l. l ++ with_newline line) is.4 ∙ append_assoc (with_newline is.0) is.1 (with_newline line),
)
