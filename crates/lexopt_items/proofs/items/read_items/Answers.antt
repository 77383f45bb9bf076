use Rattle.std.proofs.Common.{rules, map, sym}
use Rattle.std.proofs.lemmas.Result.{IfOk-weaker, IfErr-weaker}
use Rattle.lexopt_line_spec.proofs.WholeLines.{said_shows, shown_said}
use Rattle.lexopt_line_spec.proofs.Names.{shown_spells, spelled_shows}
use Rattle.lexopt_line_spec.proofs.SpellerFaults.{shown_spelled}
use Rattle.lexopt_items.specs.Items.{item_view, table_view}
use Rattle.lexopt_line_spec.specs.Readings.{start}
use Rattle.lexopt_line_spec.proofs.Existence.{only_one}
use Rattle.lexopt_items.proofs.ReadsItems.{refused_shows, refused_shows_none}
use Rattle.lexopt_items.proofs.items.read_items.Goals as goal

pub returns-clause-reading : goal.returns-clause-reading
returns-clause-reading c = search rules

pub returns-clause-refused : goal.returns-clause-refused
returns-clause-refused c = search rules

pub returns-clause-shown : goal.returns-clause-shown
returns-clause-shown c = IfOk-weaker c.items_of.result _ _
    (λ items reading. said_shows (table_view c.args.table.now) c.args.short_equals c.args.words.items (map item_view items.items) reading) (returns-clause-reading c)

pub returns-clause-spelled : goal.returns-clause-spelled
returns-clause-spelled c = IfOk-weaker c.items_of.result _ _
    (λ items shows whole. shown_spells (table_view c.args.table.now) c.args.short_equals c.args.words.items (map item_view items.items) shows whole) (returns-clause-shown c)

pub returns-clause-spellable : goal.returns-clause-spellable
returns-clause-spellable c = IfOk-weaker c.items_of.result _ _
    (λ items shows. shown_spelled (table_view c.args.table.now) c.args.short_equals c.args.words.items (map item_view items.items) shows) (returns-clause-shown c)

pub returns-clause-answered : goal.returns-clause-answered
returns-clause-answered c = λ l shows. (
  IfOk-weaker c.items_of.result _ _
      (λ items reading. sym (shown_said (table_view c.args.table.now) c.args.short_equals c.args.words.items l (map item_view items.items) _ shows reading).1) (returns-clause-reading c),
  IfErr-weaker c.items_of.result _ _
      (λ e refused. refused_shows (table_view c.args.table.now) c.args.short_equals c.args.words.items l e shows refused) (returns-clause-refused c),
)

pub returns-clause-one_list : goal.returns-clause-one_list
returns-clause-one_list c = λ l m one other.
    only_one (table_view c.args.table.now) (start c.args.short_equals c.args.words.items) l m tt one other

pub returns-clause-answered_spelled : goal.returns-clause-answered_spelled
returns-clause-answered_spelled c = λ l spells.
    returns-clause-answered c l (spelled_shows (table_view c.args.table.now) c.args.short_equals c.args.words.items l spells)

pub returns-clause-no_list : goal.returns-clause-no_list
returns-clause-no_list c = IfErr-weaker c.items_of.result _ _
    (λ e refused. refused_shows_none (table_view c.args.table.now) c.args.short_equals c.args.words.items e refused) (returns-clause-refused c)
