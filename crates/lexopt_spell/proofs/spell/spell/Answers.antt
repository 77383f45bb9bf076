use Rattle.std.proofs.Common.{arith, map, inr, rules}
use Rattle.lexopt_line_spec.proofs.SpellerSound.{words_spell}
use Rattle.lexopt_line_spec.proofs.SpellerFaults.{words_read, words_said, fault_named}
use Rattle.lexopt_items.specs.Items.{item_view, table_view}
use Rattle.lexopt_spell.specs.Models.{continues, place_view, reason_view, word_bytes}
use Rattle.lexopt_spell.proofs.Answered.{none_shown}
use Rattle.lexopt_spell.proofs.Resumed.{none_yet, one_more, at_fault, all_spelled}
use Rattle.lexopt_spell.proofs.spell.spell.Goals as goal

pub loop-index-init : goal.loop-index-init
loop-index-init c = none_yet (table_view c.args.table.now) c.args.short_equals (map item_view c.args.items.now) c.in_ok-words.words.items (search rules)

pub returns-in-Err-clause-fault : goal.returns-in-Err-clause-fault
returns-in-Err-clause-fault c =
    at_fault item_view (table_view c.args.table.now) c.args.short_equals c.args.items.now c.loop-index.index c.index-items-index.result (place_view c.loop-index.place) c.loop-index.words.items
    (reason_view c.in-Err.reason) c.loop-index-test.true c.index-items-index.is c.in-Err.ensures c.loop-index.invariant

pub loop-index-preserved : goal.loop-index-preserved
loop-index-preserved c =
    let added = c.in-Ok.added in
    one_more item_view (table_view c.args.table.now) c.args.short_equals c.args.items.now c.loop-index.index c.index-items-index.result (place_view c.loop-index.place) (place_view added.place)
    c.loop-index.words.items c.push.new.words.items added.words.now (continues added.word) (word_bytes added.word) c.loop-index-test.true c.index-items-index.is c.in-Ok.ensures
    c.in_ok-push-in-Ok.ensures c.loop-index.invariant

pub returns-clause-form : goal.returns-clause-form
returns-clause-form c =
    all_spelled item_view (table_view c.args.table.now) c.args.short_equals c.args.items.now c.loop-index.index (place_view c.loop-index.place) c.loop-index.words.items (grind arith)
    c.loop-index.invariant

pub returns-clause-spelled : goal.returns-clause-spelled
returns-clause-spelled c = words_spell (table_view c.args.table.now) c.args.short_equals (map item_view c.args.items.now) c.loop-index.words.items (returns-clause-form c)

pub returns-clause-read : goal.returns-clause-read
returns-clause-read c = words_read (table_view c.args.table.now) c.args.short_equals c.loop-index.words.items (map item_view c.args.items.now) (returns-clause-spelled c)

pub returns-clause-parsed : goal.returns-clause-parsed
returns-clause-parsed c = λ final l reading.
    words_said (table_view c.args.table.now) c.args.short_equals c.loop-index.words.items (map item_view c.args.items.now) l final (returns-clause-spelled c) reading

pub returns-in-Err-clause-at_fault : goal.returns-in-Err-clause-at_fault
returns-in-Err-clause-at_fault c =
    fault_named (table_view c.args.table.now) c.args.short_equals (map item_view c.args.items.now) (record { index = c.loop-index.index; reason = reason_view c.in-Err.reason }) (returns-in-Err-clause-fault c)

pub returns-in-Err-clause-answered : goal.returns-in-Err-clause-answered
returns-in-Err-clause-answered c = λ words shows.
    none_shown (table_view c.args.table.now) c.args.short_equals words (map item_view c.args.items.now) (record { index = c.loop-index.index; reason = reason_view c.in-Err.reason }) (returns-in-Err-clause-fault c) shows

pub returns-in-Err-clause-none : goal.returns-in-Err-clause-none
returns-in-Err-clause-none c = inr (λ words shows.
    none_shown (table_view c.args.table.now) c.args.short_equals words (map item_view c.args.items.now) (record { index = c.loop-index.index; reason = reason_view c.in-Err.reason }) (returns-in-Err-clause-fault c) shows)
