use Rattle.std.proofs.Common.{◌<◌, ◌≤◌, ℕ, List, [], ◌∷◌, ◌++◌, length, get_or, take, map, flat_map, Vec, Global, string_bytes, sym, ap, subst, ◌∙◌}
use Rattle.std.proofs.lemmas.List.{take_all, take_more}
use Rattle.lexopt_calls.specs.Script.{WholeLineText}
use Rattle.lexopt_items.specs.Items.{table_view}
use Rattle.lexopt_calls.specs.declared.reply.Call.{Call}
use Rattle.lexopt_calls.specs.Replies.{call_view}
use Rattle.lexopt_calls.specs.Meanings.{calls_and_line, commands_view}
use Rattle.lexopt_calls.specs.Performed.{MakesCalls}
use Rattle.lexopt_calls.proofs.Commands.{line_more}
use Rattle.lexopt_calls.proofs.Performing.{Done, calls_done, line_done}
use Rattle.lexopt_calls.proofs.run.perform.Goals as goal

pub loop-calls-preserved : goal.loop-calls-preserved
loop-calls-preserved c =
    let script = c.args.script.now in
    let all = script.calls_before.items in
    let index = c.loop-calls.calls-index in
    let here = c.calls-item.result in
    let same = c.deref-calls-items.ensures.value in
    let within = subst (λ (l : List (Vec Call Global)). index < length l) same c.loop-calls-test.true in
    let is = c.calls-item.is ∙ ap (λ (l : List (Vec Call Global)). get_or l index here) same in
    let commands = ap (flat_map calls_and_line) (take_more all index here within ∙ ap (λ (calls : Vec Call Global). take index all ++ calls ∷ []) (sym is)) ∙ line_more (take index all) here in
    let made = calls_done script (flat_map calls_and_line (take index all)) (map call_view here.items) _ _ _ _ _ _ c.loop-calls.invariant
    (subst (λ (calls : List Call). MakesCalls (map call_view calls) c.loop-calls.parser c.loop-calls.on (string_bytes c.loop-calls.text) c.make_calls.new.parser c.in_ok-on.on (string_bytes c.make_calls.new.text))
    c.deref.ensures.value c.in_ok-on.ensures) in
    let line = c.in_ok-write_whole_line.ensures in
    rw (commands, line.2)
    (line_done script (commands_view (take index all) here.items) _ _ _ line.0 made
    (subst (λ (words : List (List ℕ)). WholeLineText (table_view script.table) c.in_ok-on.on words line.0) c.deref-in-loop-calls.ensures.value line.1))

pub returns : goal.returns
returns c =
    let script = c.args.script.now in
    let all = script.calls_before.items in
    let index = c.loop-calls.calls-index in
    let ended = subst (λ (l : List (Vec Call Global)). length l ≤ index) c.deref-calls-items.ensures.value c.loop-calls-test.false in
    let so_far = subst (λ (l : List (Vec Call Global)). Done script (flat_map calls_and_line l) c.loop-calls.parser c.loop-calls.on (string_bytes c.loop-calls.text))
    (take_all index all ended) c.loop-calls.invariant in
    let made = calls_done script (flat_map calls_and_line all) (map call_view script.last_calls.items) _ _ _ _ _ _ so_far
    (subst (λ (calls : List Call). MakesCalls (map call_view calls) c.loop-calls.parser c.loop-calls.on (string_bytes c.loop-calls.text) c.make_calls-2.new.parser c.in_ok-make_calls.field-0 (string_bytes c.make_calls-2.new.text))
    c.deref-2.ensures.value c.in_ok-make_calls.ensures) in
    record { replies = made.replies; after = c.make_calls-2.new.parser; run = made.run; written = made.written }
