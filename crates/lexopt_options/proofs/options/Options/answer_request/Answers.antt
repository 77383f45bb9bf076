use Rattle.lexopt_options.proofs.options.Options.answer_request.Goals as goal

pub returns-in_ok-completion_text-in-Completion : goal.returns-in_ok-completion_text-in-Completion
returns-in_ok-completion_text-in-Completion g c = rw c.in-Completion.is c.in_ok-completion_text-in-Completion.ensures
