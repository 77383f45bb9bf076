use Rattle.lexopt_options.proofs.Common.{ap, UnreadLine}
use Rattle.lexopt_options.proofs.rest.complete_parsed.Goals as goal

pub read_front-requires-clause-before : goal.read_front-requires-clause-before
read_front-requires-clause-before g c = ap (λ (u : UnreadLine). u.ended) c.requires.1

pub words_from-requires : goal.words_from-requires
words_from-requires g c = (rw c.in-Rest.is at c.in_ok-word.ensures c.requires.0 c.requires.1).1

pub returns-in_ok-rest-in-Rest : goal.returns-in_ok-rest-in-Rest
returns-in_ok-rest-in-Rest g c = λ words is.
    let begun = rw c.in-Rest.is at c.in_ok-word.ensures words is in (begun.2.0, c.in-Rest.word, c.read_front.new.parser.words, begun.2.1, c.in_ok-rest-in-Rest.ensures)

pub completion_text_after-requires : goal.completion_text_after-requires
completion_text_after-requires g c = (c.requires.0, (rw c.in-Front.is at c.in_ok-word.ensures c.requires.0 c.requires.1).0)

pub returns-in_ok-text-in-Front : goal.returns-in_ok-text-in-Front
returns-in_ok-text-in-Front g c = λ words is.
    let begun = rw c.in-Front.is at c.in_ok-word.ensures words is in (begun.1, c.in_ok-text-in-Front.ensures words begun.0, c.begins_rest-begins_rest.ensures words c.read_front.new.parser begun)
