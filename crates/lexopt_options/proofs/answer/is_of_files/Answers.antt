use Rattle.lexopt_options.proofs.Common.{ap, sym, ◌∙◌, are_files}
use Rattle.lexopt_options.proofs.Looked.{are_past, are_there, no_files}
use Rattle.lexopt_options.proofs.answer.is_of_files.Goals as goal

pub returns-in-Files : goal.returns-in-Files
returns-in-Files g c =
    let at = c.in-Some.ensures.lookup in
    sym (are_there are_files c.args.positionals.now c.args.index c.in-Some.positional.now at.3.0 at.1 ∙ ap are_files c.in-Files.is)

pub returns-in_default : goal.returns-in_default
returns-in_default g c =
    let at = c.in-Some.ensures.lookup in
    sym (are_there are_files c.args.positionals.now c.args.index c.in-Some.positional.now at.3.0 at.1 ∙ no_files c.in-Some.positional.now.words c.in_default.not-Files)

pub returns-in-None : goal.returns-in-None
returns-in-None g c = sym (are_past are_files c.args.positionals.now c.args.index c.in-None.ensures.lookup.3)
