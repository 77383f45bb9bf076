use Rattle.std.proofs.Common.{◌≡◌, ◌&&◌, ◌∙◌, List, None, Some, ap, map, option_map, refl, sym, ℕ}
use Rattle.lexopt_line_spec.proofs.Lists.{list_any-map}
use Rattle.lexopt_line_spec.specs.Table as table
use Rattle.lexopt_options_spec.specs.Declaration as spec
use Rattle.lexopt_declaration.specs.Models.{long_name, option_view}
use Rattle.lexopt_runtime_options.proofs.OptionNames.{no_flag}
use Rattle.lexopt_runtime_options.proofs.faults.have_flag.Goals as goal

pub returns-in-Long : goal.returns-in-Long
returns-in-Long g c = rw (c.in-Flag.is, c.in-Long.is)
    (c.any_short_flag.ensures ∙ sym (list_any-map option_view (λ (o : spec.Declared). spec.is_plain_flag o && spec.has_name (table.short c.in-Flag.character) o) c.args.options.now))

pub returns-in_default : goal.returns-in_default
returns-in_default g c = rw c.in-Flag.is (no_flag (map option_view c.args.options.now) c.in-Flag.character c.args.names c.in_default.not-Long)

pub returns-in-Some : goal.returns-in-Some
returns-in-Some g c =
    let named : long_name c.args.names ≡ Some c.in-Some.name.now = sym c.long.ensures ∙ ap (option_map (λ name. name.now)) c.in-Some.is in
    rw (c.in-Negation.is, named)
    (c.any_negation.ensures ∙ sym (list_any-map option_view (λ (o : spec.Declared). spec.is_plain_flag o && spec.has_name (table.long (spec.negated c.in-Some.name.now)) o) c.args.options.now))

pub returns-in-None : goal.returns-in-None
returns-in-None g c =
    let named : long_name c.args.names ≡ None = sym c.long.ensures ∙ ap (option_map (λ name. name.now)) c.in-None.is in
    rw (c.in-Negation.is, named) refl
