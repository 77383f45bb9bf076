use Rattle.std.proofs.Common.{ℕ, List, subst}
use Rattle.lexopt_calls.specs.Script.{WholeLineText}
use Rattle.lexopt_items.specs.Items.{table_view}
use Rattle.lexopt_calls.specs.Performed.{answer_text}
use Rattle.lexopt_calls.proofs.Performing.{answer_written, line_added}
use Rattle.lexopt_calls.proofs.run.write_whole_line.Goals as goal

pub returns : goal.returns
returns c =
    let t = table_view c.args.table.now in
    let answer = c.read_items-answer.result in
    let copied = c.in_ok-copies.field-0.items in
    line_added c.push_str.result (WholeLineText t c.args.on c.args.words.now) _ _ _ (answer_text answer)
    (subst (λ (words : List (List ℕ)). WholeLineText t c.args.on words (answer_text answer)) c.in_ok-copies.ensures
    (answer_written t c.args.on copied answer c.read_items-answer.ensures.reading c.read_items-answer.ensures.refused))
    c.in_ok-write_answer.ensures c.push_str.ensures.bytes
