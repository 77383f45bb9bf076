use Rattle.std.proofs.Common.{[], ◌∷◌, None, codes, false, map, refl, true}
use Rattle.lexopt_declaration.specs.declared.declaration.Beside.TheVariants.{Nothing}
use Rattle.lexopt_declaration.specs.declared.declaration.Kind.TheVariants as kind
use Rattle.lexopt_declaration.specs.declared.declaration.Names.TheVariants.{Short}
use Rattle.lexopt_declaration.specs.declared.declaration.Words.TheVariants.{Directories, Files, Listed}
use Rattle.test_option_callers.specs.declared.declared.Flag.TheVariants.{Verbose}
use Rattle.test_option_callers.specs.declared.declared.Word.TheVariants.{From, To}
use Rattle.test_option_callers.proofs.Printed.{same_tool, usage_or_error_of}
use Rattle.test_option_callers.proofs.declared_texts.usage_or_error.Goals as goal

pub returns : goal.returns
returns c =
    usage_or_error_of c.args.width c.args.character c.args.help.now c.args.first c.args.second (map (λ value. value.now) c.args.values.now) c.usage_or_error_of.result
    (record {
      program = record { ref_ptr = (0, 0); now = codes "small" };
      about = record { ref_ptr = (0, 0); now = [] };
      usage = record { ref_ptr = (0, 0); now = [] };
      options = record {
        ref_ptr = (0, 0);
        now = record {
          names = Short c.args.character;
          kind = kind.Flag Verbose;
          help = c.args.help;
          details = None;
          heading = None;
          hidden = false;
          required = false;
          default = None;
          exclusive = None;
          words = Files;
          hides_list = false;
          aliases = record { ref_ptr = _; now = [] };
          beside = Nothing;
        } ∷ [];
      };
      positionals = record {
        ref_ptr = (0, 0);
        now = record { key = From; placeholder = record { ref_ptr = _; now = codes "FROM" }; count = c.args.first; help = c.args.help; words = Directories; hides_list = false }
            ∷ record { key = To; placeholder = record { ref_ptr = _; now = codes "TO" }; count = c.args.second; help = c.args.help; words = Listed c.args.values; hides_list = false } ∷ [];
      };
      epilogue = record { ref_ptr = (0, 0); now = [] };
      short_equals = true;
    }) c.usage_or_error_of.ensures
    (same_tool c.args.character c.args.help.now c.args.first c.args.second (map (λ value. value.now) c.args.values.now))
    refl
