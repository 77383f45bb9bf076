use Rattle.std.proofs.Common.{ap, map, sym, subst, ◌≡◌}
use Rattle.std.proofs.lemmas.Result.{IfOk-weaker}
use Rattle.lexopt_options_spec.specs.Declaration.{Declaration}
use Rattle.lexopt_options_spec.specs.Rest.{MeansBefore}
use Rattle.lexopt_declaration.specs.declared.declaration.Positional.{Positional}
use Rattle.lexopt_options.specs.Declarations.{declaration_of}
use Rattle.lexopt_options.specs.RestStarts.{start_view}
use Rattle.test_option_callers.specs.Tool.{tool}
use Rattle.test_option_callers.specs.declared.declared.Word.{Word}
use Rattle.test_option_callers.proofs.Tool.{rest_tells}
use Rattle.test_option_callers.proofs.declared.read_rest.Goals as goal

pub returns : goal.returns
returns c = λ l rest means.
    let view : declaration_of c.new.result ≡ tool = c.new.ensures.declaration in
    let own : MeansBefore (start_view c.args.begins) (declaration_of c.new.result) c.args.words.items l rest = subst (λ (d : Declaration). MeansBefore (start_view c.args.begins) d c.args.words.items l rest) (sym view) means in
    IfOk-weaker c.read_rest.result _ _ (λ found is. rest_tells c.new.result l rest found.1.items found.0 (record { view = view; keys = ap (map (λ (p : Positional Word). p.key)) c.new.ensures.positionals }) is) (c.read_rest.ensures.answered l rest own)
