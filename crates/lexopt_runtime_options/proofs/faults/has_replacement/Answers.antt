use Rattle.std.proofs.Common.{◌==◌, sym, ap, ◌∙◌}
use Rattle.std.specs.List.{list_any}
use Rattle.lexopt_spec.specs.Pieces.{replacement}
use Rattle.lexopt_options_spec.proofs.Texts.{text_characters}
use Rattle.lexopt_runtime_options.proofs.faults.has_replacement.Goals as goal

pub returns : goal.returns
returns c = c.any_replacement.ensures ∙ ap (list_any (λ b. b == replacement)) (sym (text_characters c.args.name.now c.utf8.name))
