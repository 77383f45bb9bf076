use Rattle.std.proofs.Common.{ap, map, string_bytes, sym, ◌∙◌}
use Rattle.lexopt_line_spec.specs.Table.{long}
use Rattle.lexopt_options_spec.specs.Nearest.{long_names}
use Rattle.lexopt_options_spec.specs.Stops as stops
use Rattle.lexopt_options.specs.Declarations.{declaration_of}
use Rattle.lexopt_options.proofs.ReadNext.{long_hinted}
use Rattle.lexopt_options.proofs.read.unknown_long.Goals as goal

pub returns : goal.returns
returns g c = λ left. (
  left,
  ap (λ n. stops.unknown_option (long n) left) (sym c.in_ok-from_str.ensures.ok),
  long_hinted (declaration_of c.args.options.now).options _ (string_bytes c.in_ok-from_str.field-0) c.args.name.now left (map (λ text. text.now) c.in_ok-hints.hints.items)
      (ap (map (λ name. name.now)) c.deref.ensures.value ∙ c.in_ok-names.ensures ∙ ap long_names c.options.ensures.view) c.in_ok-from_str.ensures.ok c.in_ok-hints.ensures,
)
