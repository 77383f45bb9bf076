use Rattle.lexopt_commands.proofs.wrapper.Wrapper.answer.Goals as goal

pub returns-in-Parsed : goal.returns-in-Parsed
returns-in-Parsed g c = c.answer_rest.ensures c.args.words.items c.args.width (rw c.in-Parsed.is at c.in_ok-line.ensures.read)
