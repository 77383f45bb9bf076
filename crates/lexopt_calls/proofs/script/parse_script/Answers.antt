use Rattle.std.proofs.Common.{rules, tests, ◌+◌, ◌||◌, length, Some, refl, sym, ap, ◌∙◌, inr}
use Rattle.std.proofs.lemmas.Iterator.Consumers.{YieldsList-at, YieldsList-from_enumerate}
use Rattle.std.proofs.lemmas.Iterator.Splits.{YieldsList-from_slice_split}
use Rattle.std.proofs.lemmas.List.{length_push}
use Rattle.lexopt_calls.specs.Script.{is_bad}
use Rattle.lexopt_calls.proofs.ScriptLemmas.{called, called-append, ReadsTo-more, ReadsTo-bad, ReadsTo-end}
use Rattle.lexopt_calls.specs.Meanings.{commands_in, meaning_view}
use Rattle.lexopt_calls.proofs.NumberedLines.{IsLineAt, line_read, lines_read}
use Rattle.lexopt_calls.proofs.script.parse_script.Goals as goal
use Rattle.lexopt_calls.proofs.script.parse_script.Goals.{In_ok-meaning}

-- the line of this iteration
turn : (c : In_ok-meaning) → IsLineAt c.args.script.now (length c.loop-index.yielded) c.in-Some.index c.in-Some.line.now
turn c =
    line_read c.args.script.now c.loop-index.yielded _ c.loop-index.yielded_by _ _ (c.in-Some.index, c.in-Some.line) c.in-Some.is c.next.ensures.steps
    (YieldsList-at c.into_iter-index-iterator.ensures.into_iter_gives (YieldsList-from_enumerate (YieldsList-at c.enumerate-index-items.ensures.source
    (YieldsList-from_slice_split _ _ c.args.script.now c.split.ensures.rest c.split.ensures.done c.split.ensures.closure (λ x r q k. search (rules, tests))))
    c.enumerate-index-items.ensures.count))

pub loop-index-preserved : goal.loop-index-preserved
loop-index-preserved c =
    let line = turn (goal.at.loop-index-preserved c).In_ok-meaning in
    let m = meaning_view c.in_ok-meaning.meaning in
    let commands = commands_in c.loop-index.read in
    let good = ap (λ b. is_bad b m) (sym c.loop-index.invariant.1) ∙ sym c.is_bad.ensures ∙ c.if-is_bad.false in
    let added = c.in_ok-add.ensures in (
      ReadsTo-more _ _ _ _ _ _ _ _ _ c.in-Some.line.now m line.within line.is (sym c.in_ok-meaning.ensures) good
          (length_push c.loop-index.yielded _) added.0 added.1 added.2 c.loop-index.invariant.0,
      ap (λ b. b || c.reads_words-is_read.result) c.loop-index.invariant.1 ∙ ap (λ b. called commands || b) c.reads_words-is_read.ensures
          ∙ sym (called-append commands m) ∙ ap called (sym added.2),
    )

pub returns-then-is_bad-clause-err : goal.returns-then-is_bad-clause-err
returns-then-is_bad-clause-err c =
    let line = turn (goal.at.returns-then-is_bad-clause-err c).In_ok-meaning in
    inr (
      c.in-Some.index + 1,
      refl,
      ReadsTo-bad _ _ _ _ _ c.in-Some.line.now (meaning_view c.in_ok-meaning.meaning) line.within line.is (sym c.in_ok-meaning.ensures)
          (ap (λ b. is_bad b (meaning_view c.in_ok-meaning.meaning)) (sym c.loop-index.invariant.1) ∙ sym c.is_bad.ensures ∙ c.if-is_bad.true) c.loop-index.invariant.0
          ∙ ap (λ n. Some (n + 1)) (sym line.index_is),
    )

pub returns-clause-ok : goal.returns-clause-ok
returns-clause-ok c =
    let all = lines_read c.args.script.now c.loop-index.yielded _ c.loop-index.yielded_by _ _ c.in-None.is c.next.ensures.steps
    (YieldsList-at c.into_iter-index-iterator.ensures.into_iter_gives (YieldsList-from_enumerate (YieldsList-at c.enumerate-index-items.ensures.source
    (YieldsList-from_slice_split _ _ c.args.script.now c.split.ensures.rest c.split.ensures.done c.split.ensures.closure (λ x r q k. search (rules, tests))))
    c.enumerate-index-items.ensures.count)) in
    ReadsTo-end _ _ _ _ _ all c.loop-index.invariant.0
