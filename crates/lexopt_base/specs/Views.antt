-- The views of the code, and the line that a parser has if no view is lent. `Views` of
-- `lexopt_spec` has the rules.
use Rattle.std.specs.Prelude.{◌≡◌, ◌≢◌, [], ℕ, Bool, List, Option, None, Result, IfErr}
use Rattle.std.specs.Borrow.{Fml, MutBor, RestsIfErr, RestsIfNone}
use Rattle.lexopt_spec.specs.UnreadLine.{UnreadLine, pending}
use Rattle.lexopt_spec.specs.Runs.{Step, values, raw, raw_if}
use Rattle.lexopt_spec.specs.Views.{available, going_on, ValueItem, WordItem, TakesIf}
use Rattle.lexopt_base.specs.Stages.{stage_of}
use Rattle.lexopt_base.specs.Replies.{RepliesWith, error_reply}
use Rattle.lexopt_words.specs.declared.error.Error.{Error}
use Rattle.lexopt_base.specs.Refusals.{refusal_reply}
use Rattle.lexopt_base.specs.declared.refusal.Refusal.{Refusal}
use Rattle.lexopt_words.specs.declared.os_string.OsStr.{OsStr}
use Rattle.lexopt_base.specs.declared.values.ValuesIter.{ValuesIter}
use Rattle.lexopt_base.specs.declared.raw.RawArgs.{RawArgs}
use Rattle.lexopt_base.specs.contracts.parser.Parser.{the_row}

-- ---- `values`

-- the view borrows the parser to take values of its last option, of which there is at least one;
-- none has been taken
abbrev pub LendsValues : MutBor UnreadLine → ValuesIter → Type 0
LendsValues parser view =
    (view.parser.ghost_name ≡ parser.ghost_name) × (view.parser.now ≡ parser.now)
    × (stage_of view.stage ≡ going_on) × (available parser.now ≢ [])

-- one call of `next` on a view of values, which keeps its parser
abbrev pub GivesValue : ValuesIter → Option (List ℕ) → ValuesIter → Type 0
GivesValue view item after =
    (after.parser.ghost_name ≡ view.parser.ghost_name)
    × ValueItem (stage_of view.stage) view.parser.now item after.parser.now (stage_of after.stage)

-- `values` returns this error, however many items are asked for
abbrev pub ValuesFailWith : UnreadLine → Error → UnreadLine → Type 0
ValuesFailWith u e after = (n : ℕ) → RepliesWith (Step (values n)) u (error_reply e) after

-- the same for `begin_values`
abbrev pub BeginFailsWith : UnreadLine → Refusal → UnreadLine → Type 0
BeginFailsWith u refused after = (n : ℕ) → Step (values n) u (refusal_reply refused) after

-- after an error the line is the one that the call leaves, otherwise the one that the view leaves
abbrev pub LineIfValuesFail : MutBor UnreadLine → Result ValuesIter Error → Fml
LineIfValuesFail parser result =
    RestsIfErr the_row parser (λ view. view.parser.ghost_name) result (λ after.
    IfErr result (λ e. ValuesFailWith parser.now e after))

-- the same for `begin_values`
abbrev pub LineIfBeginFails : MutBor UnreadLine → Result ValuesIter Refusal → Fml
LineIfBeginFails parser result =
    RestsIfErr the_row parser (λ view. view.parser.ghost_name) result (λ after.
    IfErr result (λ refused. BeginFailsWith parser.now refused after))

-- ---- `raw_args` and `try_raw_args`

-- the view borrows the parser to take its words; no value of the last option is pending
abbrev pub LendsWords : MutBor UnreadLine → RawArgs → Type 0
LendsWords parser view =
    (view.parser.ghost_name ≡ parser.ghost_name) × (view.parser.now ≡ parser.now)
    × (pending parser.now ≡ None)

-- one call of `next` on a view of words, which keeps its parser
abbrev pub GivesWord : RawArgs → Option (List ℕ) → RawArgs → Type 0
GivesWord view item after =
    (after.parser.ghost_name ≡ view.parser.ghost_name)
    × WordItem view.parser.now item after.parser.now

-- `raw_args` returns this error, whichever words are asked for
abbrev pub RawArgsFailWith : UnreadLine → Error → UnreadLine → Type 0
RawArgsFailWith u e after =
    ((n : ℕ) → RepliesWith (Step (raw n)) u (error_reply e) after)
    × ((word : List ℕ) → RepliesWith (Step (raw_if word)) u (error_reply e) after)

abbrev pub LineIfRawArgsFail : MutBor UnreadLine → Result RawArgs Error → Fml
LineIfRawArgsFail parser result =
    RestsIfErr the_row parser (λ view. view.parser.ghost_name) result (λ after.
    IfErr result (λ e. RawArgsFailWith parser.now e after))

-- without a view the line is unchanged, otherwise it is the one that the view leaves
abbrev pub LineIfBusy : MutBor UnreadLine → Option RawArgs → Fml
LineIfBusy parser result =
    RestsIfNone the_row parser (λ view. view.parser.ghost_name) result (λ after. after ≡ parser.now)

-- the next word is taken if and only if the closure returns `true` for it
abbrev pub NextIf : (OsStr → Bool → Type 0) → UnreadLine → Option (List ℕ) → UnreadLine → Type 0
NextIf Answers = TakesIf
    (λ bytes answer. (word : OsStr) × (word.bytes.now ≡ bytes) × Answers word answer)
