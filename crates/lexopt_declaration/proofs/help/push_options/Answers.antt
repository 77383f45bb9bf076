use Rattle.std.proofs.Common.{◌++◌, ◌∙◌, ap, string_bytes}
use Rattle.std.proofs.lemmas.Result.{IfOk-weaker}
use Rattle.lexopt_options_spec.specs.Help.{options_part}
use Rattle.lexopt_declaration.proofs.help.push_options.Goals as goal

pub returns : goal.returns
returns g c =
    let e = c.in_ok-entries.ensures in
    IfOk-weaker c.push_options_part.result _ _
    (λ _ is. (e.0, e.1, is ∙ ap (λ t. string_bytes c.args.out.now ++ options_part t) (c.as_str.ensures.value ∙ e.2)))
    c.push_options_part.ensures
