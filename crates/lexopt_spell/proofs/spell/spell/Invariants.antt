use Rattle.std.proofs.Common.{drop, map}
use Rattle.lexopt_items.specs.Items.{item_view, table_view}
use Rattle.lexopt_spell.specs.Models.{place_view}
use Rattle.lexopt_spell.proofs.Resumed.{Resumes}
use Rattle.lexopt_spell.proofs.spell.spell.Given as goal

abbrev pub invariant-loop-index : goal.invariant-loop-index
invariant-loop-index l =
    Resumes (table_view l.table) l.short_equals (map item_view l.items) (map item_view (drop l.index l.items)) l.index (place_view l.place) l.words.items
