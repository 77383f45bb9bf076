use Rattle.std.proofs.Common.{Bool, ap, sym, ◌∙◌}
use Rattle.lexopt_line_spec.specs.Table.{one}
use Rattle.lexopt_options_spec.specs.Declaration as spec
use Rattle.lexopt_declaration.specs.Models.{kind_of, words_view}
use Rattle.lexopt_runtime_options.proofs.FirstFaults.{one_alone, required_never, value_kind}
use Rattle.lexopt_runtime_options.proofs.faults.is_default.Goals as goal

pub returns-then-option : goal.returns-then-option
returns-then-option g c =
    let o = c.args.option.now in
    sym (ap (λ (b : Bool). spec.is_default (kind_of o.kind) b (words_view o.words) c.args.value.now) c.if-option.true ∙ required_never (kind_of o.kind) (words_view o.words) c.args.value.now)

pub returns-in-Value : goal.returns-in-Value
returns-in-Value g c =
    let o = c.args.option.now in
    c.accepts.ensures
    ∙ sym (ap (λ k. spec.is_default (kind_of k) o.required (words_view o.words) c.args.value.now) c.in-Value.is ∙ ap (λ (b : Bool). spec.is_default one b (words_view o.words) c.args.value.now) c.if-option.false)

pub returns-in_default : goal.returns-in_default
returns-in_default g c =
    let o = c.args.option.now in
    sym (one_alone (kind_of o.kind) o.required (words_view o.words) c.args.value.now (λ is. let found = value_kind o.kind is in c.in_default.not-Value found.0 found.1 found.2))
