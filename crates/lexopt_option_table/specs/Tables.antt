-- What an option adds to a table.
use Rattle.std.specs.Prelude.{◌≡◌, ℕ, List, ◌++◌, String, map, string_bytes}
use Rattle.std.specs.Global.{Global}
use Rattle.lexopt_line_spec.specs.Table.{Name, Table, one, optional, several}
use Rattle.lexopt_options_spec.specs.Declaration.{Declared, all_names, if_kind, longs_in, shorts_in}

-- these names are added after these characters and long names
pub record AddsNames (names : List Name) (shorts : List ℕ) (longs : List (String Global))
    (new_shorts : List ℕ) (new_longs : List (String Global)) : Type 0 where
  pub shorts_are : new_shorts ≡ shorts ++ shorts_in names
  pub longs_are : map string_bytes new_longs ≡ map string_bytes longs ++ longs_in names

-- the option is added after those of a table
pub record AddsOption (o : Declared) (t new : Table) : Type 0 where
  pub shorts : new.shorts ≡ t.shorts ++ if_kind one o.kind (shorts_in (all_names o))
  pub longs : new.longs ≡ t.longs ++ if_kind one o.kind (longs_in (all_names o))
  pub optional_shorts : new.optional_shorts
      ≡ t.optional_shorts ++ if_kind optional o.kind (shorts_in (all_names o))
  pub optional_longs : new.optional_longs
      ≡ t.optional_longs ++ if_kind optional o.kind (longs_in (all_names o))
  pub several_shorts : new.several_shorts
      ≡ t.several_shorts ++ if_kind several o.kind (shorts_in (all_names o))
  pub several_longs : new.several_longs
      ≡ t.several_longs ++ if_kind several o.kind (longs_in (all_names o))
