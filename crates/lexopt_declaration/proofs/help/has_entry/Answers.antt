use Rattle.std.proofs.Common.{◌&&◌, ◌∙◌, ap, map, not, sym}
use Rattle.lexopt_line_spec.proofs.Lists.{list_any-map}
use Rattle.lexopt_options_spec.specs.Help.{is_shown_by, shows}
use Rattle.lexopt_declaration.specs.Models.{option_view}
use Rattle.lexopt_declaration.proofs.help.has_entry.Goals as goal

pub returns : goal.returns
returns g c =
    ap not (c.is_shown_by.ensures ∙ sym (list_any-map option_view (λ p. not p.hidden && shows p (option_view c.args.option.now)) c.args.options.now))
    ∙ sym (ap (λ h. not h && not (is_shown_by (map option_view c.args.options.now) (option_view c.args.option.now))) c.if-option.false)
