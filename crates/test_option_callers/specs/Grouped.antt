-- A declaration whose options are in groups, as plain data.
use Rattle.std.specs.Prelude.{List, [], ◌∷◌, Some, None, codes, true}
use Rattle.lexopt_line_spec.specs.Table.{flag, one}
use Rattle.lexopt_options_spec.specs.Declaration.{Declaration, Declared}
use Rattle.test_option_callers.specs.Tool.{plain}

abbrev pub grouped_options : List Declared
grouped_options = plain (Some 118) (Some (codes "verbose")) flag [] (codes "tell more")
    ∷ plain (Some 102) None flag [] (codes "by force")
    ∷ plain (Some 111) (Some (codes "output")) one (codes "FILE") (codes "write there")
    ∷ plain None (Some (codes "quiet")) flag [] (codes "tell nothing") ∷ []

abbrev pub grouped : Declaration
grouped = record {
  program = codes "tool";
  about = codes "Works.";
  usage = codes "FILE" ∷ codes "--quiet" ∷ [];
  options = grouped_options;
  positionals = [];
  epilogue = [];
  short_equals = true;
}

-- the option of the declaration, and then that of the group that it shares
abbrev pub shared : Declaration
shared = record grouped {
  options = plain (Some 118) (Some (codes "verbose")) flag [] (codes "tell more")
      ∷ plain None (Some (codes "quiet")) flag [] (codes "tell nothing") ∷ [];
}
