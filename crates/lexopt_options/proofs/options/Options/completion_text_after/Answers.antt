use Rattle.lexopt_options.proofs.Common.{ap, ◌∙◌, IfOk-weaker}
use Rattle.lexopt_options.specs.Answers.{completion_text}
use Rattle.lexopt_options.proofs.options.Options.completion_text_after.Goals as goal

pub returns : goal.returns
returns g c = λ words front.
    let completion = c.in_ok-completion.completion in
    IfOk-weaker c.text_of.result _ _ (λ text is. (completion, c.in_ok-completion.ensures words front, is ∙ ap (λ ps. completion_text ps c.args.typed.now completion) c.positionals.ensures.same)) c.text_of.ensures
