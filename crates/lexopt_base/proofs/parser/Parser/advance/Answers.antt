use Rattle.std.proofs.Common.{◌≡◌, ◌<◌, ◌-◌, true, List, ℕ, Bool, Some, drop, length, sym, ap, subst, ◌∙◌, inl, true≢false, arith, length-drop}
use Rattle.lexopt_spec.specs.UnreadLine.{UnreadLine, pending, pending_in, rest_of, short_option}
use Rattle.lexopt_spec.specs.Steps.{short, NextStep, ReadsPositional, ReadsWord, next_in_cluster, after_separator, next_word}
use Rattle.lexopt_spec.proofs.LineLemmas.{continues, rest_of-some, same_parts}
use Rattle.lexopt_base.specs.Models.{tail_of, ended_of, IsPlaced, IsShortRead}
use Rattle.lexopt_base.specs.Found.{found_as, advance_reply}
use Rattle.lexopt_base.specs.declared.parser.State.{State}
use Rattle.lexopt_base.proofs.States.{flag_in}
use Rattle.lexopt_base.proofs.Refusals.{refuses, gives_map, gives_step}
use Rattle.lexopt_base.proofs.parser.Parser.advance.Goals.{After-pending_at-start}
use Rattle.lexopt_base.proofs.parser.Parser.advance.Goals as goal

pub refuse-requires-clause-value : goal.refuse-requires-clause-value
refuse-requires-clause-value c =
    let p = c.self.inside in (
      drop c.in-PendingValue.position p.words.current,
      true,
      ap pending (sym c.self.view_is) ∙ ap (λ (s : State). pending_in p.short_equals (tail_of p.words.current s)) c.in-PendingValue.is,
      length-drop c.in-PendingValue.position p.words.current ∙ ap (λ (w : List ℕ). length w - c.in-PendingValue.position) (sym c.current.ensures),
    )

pub returns-in-PendingValue : goal.returns-in-PendingValue
returns-in-PendingValue c =
    let p = c.self.inside in
    let word = p.words.current in
    let pends = ap pending (sym c.self.view_is) ∙ ap (λ (s : State). pending_in p.short_equals (tail_of word s)) c.in-PendingValue.is in
    refuses c.args.self.now c.refuse.new.self (drop c.in-PendingValue.position word) c.refuse.result pends c.refuse.ensures

-- the pending value in a cluster
pends_at : (c : After-pending_at-start) → pending c.args.self.now ≡ Some (drop c.pending_at-start.result.0 c.current-word.result.now, c.pending_at-start.result.1)
pends_at c =
    let p = c.self.inside in
    ap pending (sym c.self.view_is) ∙ ap (λ (s : State). pending_in p.short_equals (tail_of p.words.current s)) c.in-Shorts.is
    ∙ ap (λ (l : List ℕ). pending_in p.short_equals (rest_of (drop c.in-Shorts.position l))) (sym c.current-word.ensures) ∙ c.pending_at-start.ensures.value

pub refuse-requires-then-is_joined-clause-value : goal.refuse-requires-then-is_joined-clause-value
refuse-requires-then-is_joined-clause-value c = (
  drop c.pending_at-start.result.0 c.current-word.result.now,
  c.pending_at-start.result.1,
  pends_at (goal.at.refuse-requires-then-is_joined-clause-value c).After-pending_at-start,
  length-drop c.pending_at-start.result.0 c.current-word.result.now,
)

pub returns-then-is_joined : goal.returns-then-is_joined
returns-then-is_joined c =
    let value = drop c.pending_at-start.result.0 c.current-word.result.now in
    let pends = pends_at (goal.at.returns-then-is_joined c).After-pending_at-start ∙ ap (λ (b : Bool). Some (value, b)) c.if-is_joined.true in
    refuses c.args.self.now c.refuse-then-is_joined.new.self value c.refuse-then-is_joined.result pends c.refuse-then-is_joined.ensures

pub returns-else-is_joined : goal.returns-else-is_joined
returns-else-is_joined c =
    let u = c.args.self.now in
    let p = c.self.inside in
    let word = p.words.current in
    let at = c.in-Shorts.position in
    let bytes = drop at word in
    let below : at < length word = subst (λ (s : State). IsPlaced word s) c.in-Shorts.is c.self.invariant.placed in
    let some : 0 < length bytes = omega (arith, length-drop at word) in
    let is = ap (λ (s : State). tail_of word s) c.in-Shorts.is in
    let tail = ap (λ (l : UnreadLine). l.tail) (sym c.self.view_is) ∙ is ∙ rest_of-some bytes some in
    let pends = pends_at (goal.at.returns-else-is_joined c).After-pending_at-start in
    let read = subst (λ (l : List ℕ). IsShortRead l at c.read_short-option.result.0 c.read_short-option.result.1) c.current-word.ensures c.read_short-option.ensures in
    inl (next_in_cluster bytes tail
    (continues u bytes tail (λ value known. true≢false (sym (ap flag_in (sym pends ∙ known)) ∙ c.if-is_joined.false)))
    (record {
      some = λ none. let e : length bytes ≡ 0 = ap length none in omega arith;
      reply_is = ap short read.shown_is;
      after_is = same_parts _ _ read.tail (ap (λ (l : UnreadLine). l.words) c.self.view_is)
          (read.ended ∙ sym (ap ended_of c.in-Shorts.is) ∙ ap (λ (l : UnreadLine). l.ended) c.self.view_is)
          (ap short_option read.shown_is) (ap (λ (l : UnreadLine). l.short_equals) c.self.view_is) (ap (λ (l : UnreadLine). l.bin_name) c.self.view_is);
    }))

pub returns-in-FinishedOpts : goal.returns-in-FinishedOpts
returns-in-FinishedOpts c =
    let u = c.args.self.now in
    let p = c.self.inside in
    let tail = ap (λ (l : UnreadLine). l.tail) (sym c.self.view_is) ∙ ap (λ (s : State). tail_of p.words.current s) c.in-FinishedOpts.is in
    let ended = ap (λ (l : UnreadLine). l.ended) (sym c.self.view_is) ∙ ap ended_of c.in-FinishedOpts.is in
    gives_step ReadsPositional NextStep u u (λ r v reads. after_separator tail ended reads)
    (found_as c.read_positional.new.self.last c.read_positional.result) c.read_positional.new.self c.read_positional.ensures

pub returns-in-Ready : goal.returns-in-Ready
returns-in-Ready c =
    let u = c.args.self.now in
    let p = c.self.inside in
    let tail = ap (λ (l : UnreadLine). l.tail) (sym c.self.view_is) ∙ ap (λ (s : State). tail_of p.words.current s) c.in-Ready.is in
    let ended = ap (λ (l : UnreadLine). l.ended) (sym c.self.view_is) ∙ ap ended_of c.in-Ready.is in
    gives_map ReadsWord NextStep u (λ r v step. next_word tail ended step)
    (advance_reply c.read_word.new.self.last c.read_word.result) c.read_word.new.self c.read_word.ensures
