-- Tables, items, kinds, values and errors as contracts see them, and what one turn of the loop of
-- `read_items` does.
use Rattle.std.specs.Prelude.{◌≡◌, ◌<◌, ◌⊎◌, Bool, true, false, List, [], ◌∷◌, ◌++◌, Some, map}
use Rattle.std.specs.Prelude.{string_bytes}
use Rattle.lexopt_spec.specs.UnreadLine.{UnreadLine}
use Rattle.lexopt_spec.specs.Steps.{Reply, Next, end}
use Rattle.lexopt_line_spec.specs.Table as spec
use Rattle.lexopt_line_spec.specs.Table.{short, long, option, many, positional}
use Rattle.lexopt_line_spec.specs.Readings.{IsReading, MeansUpTo}
use Rattle.lexopt_line_spec.specs.Values as values
use Rattle.lexopt_line_spec.specs.Values.{at_most_one, all}
use Rattle.lexopt_line_spec.specs.Bound.{bound}
use Rattle.lexopt_base.specs.Replies.{error_reply}
use Rattle.lexopt_words.specs.declared.error.Error.{Error}
use Rattle.lexopt_words.specs.declared.error.Error.TheVariants as error
use Rattle.lexopt_items.specs.declared.items.Item.{Item}
use Rattle.lexopt_items.specs.declared.items.Item.TheVariants.{Short, Long, ShortMany, LongMany}
use Rattle.lexopt_items.specs.declared.items.Item.TheVariants.{Positional}
use Rattle.lexopt_items.specs.declared.items.Table.{Table}
use Rattle.lexopt_items.specs.declared.kinds.Kind.{Kind}
use Rattle.lexopt_items.specs.declared.kinds.Kind.TheVariants.{Flag, One, Optional, Several}
use Rattle.lexopt_base.specs.declared.refusal.Refusal.{Refusal}
use Rattle.lexopt_base.specs.declared.refusal.Refusal.TheVariants.{OutOfMemory}
use Rattle.lexopt_base.specs.Refusals.{refusal_reply}
use Rattle.lexopt_items.specs.declared.values.Values.{Values}
use Rattle.lexopt_items.specs.declared.values.Values.TheVariants.{AtMostOne, All}

abbrev pub item_view : Item → spec.Item
item_view (Short c value) = option (short c) value
item_view (Long name value) = option (long (string_bytes name)) value
item_view (ShortMany c values) = many (short c) values.items
item_view (LongMany name values) = many (long (string_bytes name)) values.items
item_view (Positional word) = positional word

abbrev pub table_view : Table → spec.Table
table_view t = record {
  shorts = t.shorts.items;
  longs = map string_bytes t.longs.items;
  optional_shorts = t.optional_shorts.items;
  optional_longs = map string_bytes t.optional_longs.items;
  several_shorts = t.several_shorts.items;
  several_longs = map string_bytes t.several_longs.items;
}

abbrev pub kind_view : Kind → spec.Kind
kind_view Flag = spec.flag
kind_view One = spec.one
kind_view Optional = spec.optional
kind_view Several = spec.several

abbrev pub values_view : Values → values.Values
values_view (AtMostOne value) = at_most_one value
values_view (All given) = all given.items

-- reading the next item gives this one, and leaves the line `v`
abbrev pub ReadsItem : spec.Table → UnreadLine → spec.Item → UnreadLine → Type 0
ReadsItem t u item v = MeansUpTo t u (item ∷ []) v × (bound v < bound u)

-- the next item is appended to the list, and the line goes on; or the line is at its end
abbrev pub ReadsInto : spec.Table → UnreadLine → List spec.Item → Bool → UnreadLine
    → List spec.Item → Type 0
ReadsInto t u before true v after = (item : spec.Item) × (after ≡ before ++ item ∷ [])
    × ReadsItem t u item v
ReadsInto t u before false v after = (after ≡ before) × Next u end v

-- the refusal is `OutOfMemory`, or a reading of the line ends in it
abbrev pub EndsBy : spec.Table → UnreadLine → Refusal → Type 0
EndsBy t u refusal = (refusal ≡ OutOfMemory)
    ⊎ ((l : List spec.Item) × IsReading t u (refusal_reply refusal) l)

-- the error is `OutOfMemory`, or a reading of the line ends in it
abbrev pub FailsWith : spec.Table → UnreadLine → Error → Type 0
FailsWith t u e = (e ≡ error.OutOfMemory)
    ⊎ ((final : Reply) × (l : List spec.Item) × IsReading t u final l
    × (error_reply e ≡ Some final))
