use Rattle.lexopt_options.proofs.Common.{ap, sym, ◌∙◌, are_directories}
use Rattle.lexopt_options.proofs.Looked.{are_past, are_there, no_directories}
use Rattle.lexopt_options.proofs.answer.is_of_directories.Goals as goal

pub returns-in-Directories : goal.returns-in-Directories
returns-in-Directories g c =
    let at = c.in-Some.ensures.lookup in
    sym (are_there are_directories c.args.positionals.now c.args.index c.in-Some.positional.now at.3.0 at.1 ∙ ap are_directories c.in-Directories.is)

pub returns-in_default : goal.returns-in_default
returns-in_default g c =
    let at = c.in-Some.ensures.lookup in
    sym (are_there are_directories c.args.positionals.now c.args.index c.in-Some.positional.now at.3.0 at.1 ∙ no_directories c.in-Some.positional.now.words c.in_default.not-Directories)

pub returns-in-None : goal.returns-in-None
returns-in-None g c = sym (are_past are_directories c.args.positionals.now c.args.index c.in-None.ensures.lookup.3)
