-- The texts of items, as they are printed. The source is `docs/formats.md`.
use Rattle.std.specs.Prelude.{ℕ, List, [], ◌++◌, Option, Some, None, codes, encode_utf8}
use Rattle.std.specs.List.{join_by}
use Rattle.lexopt_spec.specs.Text.{quoted}
use Rattle.lexopt_line_spec.specs.Table.{Name, short, long, Item, option, many, positional}

-- the texts of a list, with `, ` between them, in brackets
abbrev pub bracketed : {X : Type 0} → (X → List ℕ) → List X → List ℕ
bracketed text l = codes "[" ++ (join_by text (codes ", ") l ++ codes "]")

abbrev pub name_text : Name → List ℕ
name_text (short c) = codes "Short " ++ quoted (encode_utf8 c)
name_text (long name) = codes "Long " ++ quoted name

-- the text of an option's value, if it has one
abbrev pub value_text : Option (List ℕ) → List ℕ
value_text None = []
value_text (Some bytes) = codes " = " ++ quoted bytes

-- the text of an item
abbrev pub item_text : Item → List ℕ
item_text (option name found) = name_text name ++ value_text found
item_text (many name all) = name_text name ++ (codes " = " ++ bracketed quoted all)
item_text (positional bytes) = codes "Value " ++ quoted bytes
