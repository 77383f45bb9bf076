use Rattle.lexopt_options.proofs.Common.{ap, sym, ◌∙◌, UnreadLine, by_all, by_front, early}
use Rattle.lexopt_options.specs.declared.refused.Line.TheVariants as line
use Rattle.lexopt_options.proofs.Beginnings.{nothing_pending}
use Rattle.lexopt_options.proofs.RestRead.{front_ended, none_ended, surplus_ended, whole_end}
use Rattle.lexopt_options.proofs.rest.read_parsed.Goals as goal

pub read_keys-requires-clause-before : goal.read_keys-requires-clause-before
read_keys-requires-clause-before g c = ap (λ (u : UnreadLine). u.ended) c.requires.1

pub words_from-requires : goal.words_from-requires
words_from-requires g c =
    let read = rw c.in-Positional.is at c.in_ok-ended.ensures c.requires.0 c.requires.1 in
    nothing_pending read.0 c.read_keys.new.parser c.in-Positional.word read.2

pub returns-in-End : goal.returns-in-End
returns-in-End g c = λ words is.
    let o = c.args.options.now in
    let ended = rw c.in-End.is at c.in_ok-ended.ensures words is in
    let read = c.read_keys.new.read in
    rw c.new.ensures.items
    (by_all c.in_ok-line-in-End.line (none_ended o c.args.begins words read.count read.seen.items read.parsed.items c.read_keys.new.parser ended)
    (c.in_ok-line-in-End.ensures words c.read_keys.new.parser (whole_end o c.args.begins words read.count read.seen.items read.parsed.items c.read_keys.new.parser ended)))

pub returns-then-begins_here : goal.returns-then-begins_here
returns-then-begins_here g c = λ words is.
    let o = c.args.options.now in
    let read = c.read_keys.new.read in
    let ended = rw c.in-Positional.is at c.in_ok-ended.ensures words is in
    let front = front_ended o c.args.begins words read.count read.seen.items read.parsed.items c.in-Positional.word c.read_keys.new.parser (sym c.begins_here.ensures ∙ c.if-begins_here.true) ended in
    rw c.in_ok-rest-in-Positional.ensures
    (by_front front.0 c.in-Positional.word c.read_keys.new.parser.words c.in_ok-line-in-Positional.line front.2 (c.in_ok-line-in-Positional.ensures front.0 front.1 front.3))

pub returns-in-Positional : goal.returns-in-Positional
returns-in-Positional g c = λ words is.
    let o = c.args.options.now in
    let read = c.read_keys.new.read in
    let ended = rw c.in-Positional.is at c.in_ok-ended.ensures words is in
    let whole = surplus_ended o c.args.begins words read.count read.seen.items read.parsed.items c.in-Positional.word c.read_keys.new.parser (sym c.begins_here.ensures ∙ c.if-begins_here.false) ended in
    rw c.new-else-begins_here.ensures.items
    (by_all c.in_ok-line-in-Positional-2.line whole.0 (c.in_ok-line-in-Positional-2.ensures words c.read_keys.new.parser whole.1))

pub returns-in-Asked : goal.returns-in-Asked
returns-in-Asked g c = λ words is.
    let ended = rw c.in-Asked.is at c.in_ok-ended.ensures words is in
    rw c.new-in-Asked.ensures.items (early _ ended)

pub returns : goal.returns
returns g c = λ words is.
    let ended = rw c.in-Mistake.is at c.in_ok-ended.ensures words is in
    let refused = c.refused_for-refused.ensures words ended.0 in
    rw c.new-in-Mistake.ensures.items
    (early (line.Refused c.refused_for-refused.result) (refused.0, rw refused.1 ended.1))
