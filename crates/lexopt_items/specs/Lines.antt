-- The clauses of `read_items` for a whole line: the relations of the grammar, for a table and items
-- of Rust.
use Rattle.std.specs.Prelude.{◌≡◌, ℕ, Bool, List, map, Result, Vec, IfOk, IfErr}
use Rattle.std.specs.Global.{Global}
use Rattle.lexopt_spec.specs.Steps.{end}
use Rattle.lexopt_line_spec.specs.Readings.{IsReading, start}
use Rattle.lexopt_line_spec.specs.Spelling.{HaveWholeNames, Shows, Spells}
use Rattle.lexopt_line_spec.specs.Table as spec
use Rattle.lexopt_words.specs.declared.error.Error.{Error}
use Rattle.lexopt_words.specs.declared.error.Error.TheVariants.{OutOfMemory}
use Rattle.lexopt_items.specs.Items.{FailsWith, item_view, table_view}
use Rattle.lexopt_items.specs.declared.items.Item.{Item}
use Rattle.lexopt_items.specs.declared.items.Table.{Table}

-- the words show this list of the grammar
abbrev pub ShowsList : Table → Bool → List (List ℕ) → List spec.Item → Type 0
ShowsList table short_equals words l = Shows (table_view table) short_equals words l

-- the words legally spell this list of the grammar
abbrev pub SpellsList : Table → Bool → List (List ℕ) → List spec.Item → Type 0
SpellsList table short_equals words l = Spells (table_view table) short_equals words l

-- the words show these items
abbrev pub LineShows : Table → Bool → List (List ℕ) → List Item → Type 0
LineShows table short_equals words items =
    Shows (table_view table) short_equals words (map item_view items)

-- the words legally spell these items
abbrev pub LineSpells : Table → Bool → List (List ℕ) → List Item → Type 0
LineSpells table short_equals words items =
    Spells (table_view table) short_equals words (map item_view items)

-- a reading of the words reaches the end of the line, and gives these items
abbrev pub LineReads : Table → Bool → List (List ℕ) → List Item → Type 0
LineReads table short_equals words items =
    IsReading (table_view table) (start short_equals words) end (map item_view items)

-- the error is `OutOfMemory`, or a reading of the words ends in it
abbrev pub LineFails : Table → Bool → List (List ℕ) → Error → Type 0
LineFails table short_equals words e = FailsWith (table_view table) (start short_equals words) e

-- no option has U+FFFD in its name
abbrev pub NamesAreWhole : List Item → Type 0
NamesAreWhole items = HaveWholeNames (map item_view items)

-- some words legally spell these items
abbrev pub IsSpellable : Table → Bool → List Item → Type 0
IsSpellable table short_equals items =
    (words : List (List ℕ)) × LineSpells table short_equals words items

-- the words show no list
abbrev pub ShowsNothing : Table → Bool → List (List ℕ) → Type 0
ShowsNothing table short_equals words =
    (l : List spec.Item) → ShowsList table short_equals words l → ⊥

-- the result is this list, or `OutOfMemory`
abbrev pub IsAnswered : List spec.Item → Result (Vec Item Global) Error → Type 0
IsAnswered l answer =
    IfOk answer (λ items. map item_view items.items ≡ l) × IfErr answer (λ e. e ≡ OutOfMemory)
