use Rattle.std.proofs.Common.{ap, map, sym, subst, ◌≡◌}
use Rattle.std.proofs.lemmas.Result.{IfOk-weaker}
use Rattle.lexopt_options_spec.specs.Declaration.{Declaration}
use Rattle.lexopt_options_spec.specs.Legal.{Means}
use Rattle.lexopt_declaration.specs.declared.declaration.Positional.{Positional}
use Rattle.lexopt_options.specs.Declarations.{declaration_of}
use Rattle.test_option_callers.specs.Tool.{tool}
use Rattle.test_option_callers.specs.declared.declared.Word.{Word}
use Rattle.test_option_callers.proofs.Tool.{line_is, line_tells}
use Rattle.test_option_callers.proofs.declared.read_line.Goals as goal

pub returns-clause-line : goal.returns-clause-line
returns-clause-line c = IfOk-weaker c.read.result _ _ (λ line is. line_is c.new.result c.args.words.items line (record { view = c.new.ensures.declaration; keys = ap (map (λ (p : Positional Word). p.key)) c.new.ensures.positionals }) is) c.read.ensures.line

pub returns-clause-answered : goal.returns-clause-answered
returns-clause-answered c = λ l means.
    let view : declaration_of c.new.result ≡ tool = c.new.ensures.declaration in
    let own : Means (declaration_of c.new.result) c.args.words.items l = subst (λ (d : Declaration). Means d c.args.words.items l) (sym view) means in
    IfOk-weaker c.read.result _ _ (λ line is. line_tells c.new.result l line (record { view = view; keys = ap (map (λ (p : Positional Word). p.key)) c.new.ensures.positionals }) is) (c.read.ensures.answered l own)
