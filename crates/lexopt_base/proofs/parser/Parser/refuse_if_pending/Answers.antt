use Rattle.std.proofs.Common.{Option, sym, subst}
use Rattle.lexopt_spec.specs.Steps.{Reply, Answers}
use Rattle.lexopt_spec.specs.Views.{RawStep, TakesWords, TakesWordIf}
use Rattle.lexopt_base.specs.Replies.{RepliesWith}
use Rattle.lexopt_base.proofs.Refusals.{error_said, refuses_raw}
use Rattle.lexopt_base.proofs.parser.Parser.refuse_if_pending.Goals as goal

pub returns-clause-err : goal.returns-clause-err
returns-clause-err c =
    let u = c.args.self.now in
    let after = c.refuse.new.self in
    let refusal = c.refuse.result in
    let said = sym (error_said refusal c.from.result c.from.ensures) in (
      λ n. subst (λ (r : Option Reply). RepliesWith (Answers (RawStep (TakesWords n))) u r after) said (refuses_raw (TakesWords n) u after refusal c.refuse.ensures),
      λ word. subst (λ (r : Option Reply). RepliesWith (Answers (RawStep (TakesWordIf word))) u r after) said (refuses_raw (TakesWordIf word) u after refusal c.refuse.ensures),
    )
