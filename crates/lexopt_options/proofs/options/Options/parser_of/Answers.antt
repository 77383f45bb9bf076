use Rattle.lexopt_options.proofs.Common.{Bool, ap, ◌∙◌, UnreadLine, declaration_of}
use Rattle.lexopt_options.proofs.options.Options.parser_of.Goals as goal

pub returns : goal.returns
returns g c =
    let d = declaration_of c.args.self.now in
    c.set_short_equals.ensures ∙ ap (λ (on : Bool). record c.from_vec-parser.result { short_equals = on }) c.has_short_equals.ensures
    ∙ ap (λ (u : UnreadLine). record u { short_equals = d.short_equals }) c.from_vec-parser.ensures
