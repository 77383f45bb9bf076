-- The clauses of `spell` for a whole line, for a table and items of Rust. `short_equals` is the
-- setting that the words are read by.
use Rattle.std.specs.Prelude.{◌≡◌, ℕ, Bool, List, map}
use Rattle.lexopt_spec.specs.Steps as steps
use Rattle.lexopt_spec.specs.Steps.{Reply}
use Rattle.lexopt_line_spec.specs.Readings.{IsReading, start}
use Rattle.lexopt_line_spec.specs.Speller.{SpelledAs}
use Rattle.lexopt_line_spec.specs.Table as table_spec
use Rattle.lexopt_items.specs.Items.{item_view, table_view}
use Rattle.lexopt_items.specs.Lines.{LineShows}
use Rattle.lexopt_items.specs.declared.items.Item.{Item}
use Rattle.lexopt_items.specs.declared.items.Table.{Table}
use Rattle.lexopt_spell.specs.Models as views
use Rattle.lexopt_spell.specs.declared.spell.SpellError.{SpellError}

-- the rules choose these words among those that spell the items
abbrev pub HaveWords : Table → Bool → List Item → List (List ℕ) → Type 0
HaveWords table short_equals items words =
    SpelledAs (table_view table) short_equals (map item_view items) words

-- by the rules the items have the fault that the error names; `OutOfMemory` names none
abbrev pub HaveFault : Table → Bool → List Item → SpellError → Type 0
HaveFault table short_equals items e =
    views.HasFault (table_view table) short_equals (map item_view items) e

-- every reading of the words reaches the end of the line, and gives these items
abbrev pub LineMeansNothingElse : Table → Bool → List (List ℕ) → List Item → Type 0
LineMeansNothingElse table short_equals words items = (final : Reply) (l : List table_spec.Item)
    → IsReading (table_view table) (start short_equals words) final l
    → (final ≡ steps.end) × (map item_view items ≡ l)

-- the error names the item at fault, or is `OutOfMemory`
abbrev pub NamesItemAtFault : Table → Bool → List Item → SpellError → Type 0
NamesItemAtFault table short_equals items e =
    views.NamesItemAtFault (table_view table) short_equals (map item_view items) e

-- no words show the items
abbrev pub NoWordsShow : Table → Bool → List Item → Type 0
NoWordsShow table short_equals items =
    (words : List (List ℕ)) → LineShows table short_equals words items → ⊥
