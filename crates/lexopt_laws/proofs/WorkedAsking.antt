-- Short lines that ask for the help or the version.
use Rattle.std.proofs.Common.{◌≡◌, ◌+◌, ℕ, true, List, [], ◌∷◌, Some, None, refl, ap, inl, inr}
use Rattle.lexopt_spec.specs.UnreadLine.{UnreadLine}
use Rattle.lexopt_spec.specs.Steps as steps
use Rattle.lexopt_spec.specs.Steps.{Reply, Next, NextStep}
use Rattle.lexopt_spec.specs.Runs.{next}
use Rattle.lexopt_line_spec.specs.Table as spec
use Rattle.lexopt_line_spec.specs.Table.{Name, flag, kind}
use Rattle.lexopt_line_spec.specs.Readings.{first_flag, option_reply, start}
use Rattle.lexopt_line_spec.proofs.Calls.{call_same}
use Rattle.lexopt_line_spec.proofs.RunAccounts.{step_line}
use Rattle.lexopt_options_spec.specs.Asking.{AskFor, asked_by, first_asked, or_asked}
use Rattle.lexopt_options_spec.specs.Declaration.{Asked, Declaration, table}
use Rattle.lexopt_options_spec.specs.Legal.{Parsed, option, parsed_item, most, IsWithin, are_accepted, positional_count}
use Rattle.lexopt_options_spec.specs.Stops.{ReadsUpTo}
use Rattle.lexopt_options_spec.proofs.Listed.{accepted_append}
use Rattle.lexopt_options_spec.proofs.Fronts.{nothing_read}
use Rattle.lexopt_laws.proofs.SomeAnswer.{one_more}

-- where `next` returns this, it does not return an unexpected value
pub no_value_there : (v w : UnreadLine) (r : Reply) → NextStep v r w → ((o x : List ℕ) → r ≡ steps.unexpected o x → ⊥) → (o x : List ℕ) (after : UnreadLine) → Next v (steps.unexpected o x) after → ⊥
no_value_there v w r step other o x after (inl again) = other o x (call_same next v r (steps.unexpected o x) w after step again).0
no_value_there v w r step other o x after (inr refused) = let e : steps.unexpected o x ≡ steps.no_memory = refused.reply_is in cc

-- the first option
pub asks_first : {d : Declaration} {words : List (List ℕ)} {a : Asked} (name : Name) (i : ℕ) (v w : UnreadLine) (r : Reply) → kind (table d.options) name ≡ flag
    → parsed_item d.options (spec.option name None) ≡ Some (option i None) → asked_by d.options (option i None) ≡ Some a → IsWithin 0 (most d.positionals)
    → NextStep (start d.short_equals words) (option_reply name) v → NextStep v r w → ((o x : List ℕ) → r ≡ steps.unexpected o x → ⊥) → AskFor d words a
asks_first {d = d} {words = words} name i v w r k parsed asks within step after other =
    let u = start d.short_equals words in
    record {
      before = [];
      parsed = option i None;
      there = v;
      read = one_more d u u v [] (spec.option name None) (option i None) (nothing_read d u tt) (first_flag name v k (inl step)) (step_line next u (option_reply name) v tt (inl step)) parsed within;
      none_before = refl;
      accepted = refl;
      asks = asks;
      no_value = no_value_there v w r after other;
    }

-- an option after others, which ask for nothing and have accepted values
unfoldable pub asks_then : {d : Declaration} {words : List (List ℕ)} {a : Asked} (before : List Parsed) (name : Name) (i : ℕ) (v w x : UnreadLine) (r : Reply) → ReadsUpTo d (start d.short_equals words) before v
    → first_asked d.options before ≡ None → are_accepted d.options before ≡ true → kind (table d.options) name ≡ flag → parsed_item d.options (spec.option name None) ≡ Some (option i None)
    → asked_by d.options (option i None) ≡ Some a → IsWithin (positional_count before + 0) (most d.positionals) → NextStep v (option_reply name) w → NextStep w r x
    → ((o x : List ℕ) → r ≡ steps.unexpected o x → ⊥) → AskFor d words a
asks_then {d = d} {words = words} before name i v w x r read none accepted k parsed asks within step after other =
    record {
      before = before;
      parsed = option i None;
      there = w;
      read = one_more d (start d.short_equals words) v w before (spec.option name None) (option i None) read (first_flag name w k (inl step))
          (step_line next v (option_reply name) w read.line (inl step)) parsed within;
      none_before = none;
      accepted = accepted_append d.options before (option i None ∷ []) accepted refl;
      asks = asks;
      no_value = no_value_there w x r after other;
    }

-- the second option, after a flag that asks for nothing
unfoldable pub asks_second : {d : Declaration} {words : List (List ℕ)} {a : Asked} (first name : Name) (j i : ℕ) (v w x : UnreadLine) (r : Reply) → kind (table d.options) first ≡ flag
    → parsed_item d.options (spec.option first None) ≡ Some (option j None) → asked_by d.options (option j None) ≡ None → kind (table d.options) name ≡ flag
    → parsed_item d.options (spec.option name None) ≡ Some (option i None) → asked_by d.options (option i None) ≡ Some a → IsWithin 0 (most d.positionals)
    → NextStep (start d.short_equals words) (option_reply first) v → NextStep v (option_reply name) w → NextStep w r x → ((o x : List ℕ) → r ≡ steps.unexpected o x → ⊥) → AskFor d words a
asks_second {d = d} {words = words} first name j i v w x r k1 said1 none k parsed asks within step1 step after other =
    let u = start d.short_equals words in
    let line1 = step_line next u (option_reply first) v tt (inl step1) in
    let one : ReadsUpTo d u (option j None ∷ []) v =
    one_more d u u v [] (spec.option first None) (option j None) (nothing_read d u tt) (first_flag first v k1 (inl step1)) line1 said1 within in
    asks_then (option j None ∷ []) name i v w x r one (ap (λ o. or_asked o None) none) refl k parsed asks within step after other
