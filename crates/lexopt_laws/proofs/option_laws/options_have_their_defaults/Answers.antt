use Rattle.lexopt_laws.proofs.Defaults.{by_default, given, same_words, without_default}
use Rattle.lexopt_laws.proofs.option_laws.options_have_their_defaults.Goals as goal

pub returns-clause-given : goal.returns-clause-given
returns-clause-given c = given

pub returns-clause-default : goal.returns-clause-default
returns-clause-default c = by_default

pub returns-clause-none : goal.returns-clause-none
returns-clause-none c = without_default

pub returns-clause-positionals : goal.returns-clause-positionals
returns-clause-positionals c = same_words
