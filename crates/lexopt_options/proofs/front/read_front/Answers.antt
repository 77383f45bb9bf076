use Rattle.lexopt_options.proofs.Common.{◌∙◌, None, Some, arith, ap, length, refl, sym, false≢true, state_at_end, declaration_of, options_of, positional_falls}
use Rattle.lexopt_options.proofs.Beginnings.{end_begun, lacking_begun, missing_begun, rest_begun, separated_begun, undeclared_begun, unexpected_begun}
use Rattle.lexopt_options.specs.Reading.{noted}
use Rattle.lexopt_options.proofs.Defaults.{noted_is}
use Rattle.lexopt_options.proofs.Keys.{found_within}
use Rattle.lexopt_options.proofs.Fronts.{has_nothing, has_option, has_positional, option_there}
use Rattle.lexopt_options.proofs.ReadKeys.{not_separated}
use Rattle.lexopt_options.proofs.front.read_front.Goals as goal

pub loop-last-init : goal.loop-last-init
loop-last-init g c = (has_nothing (declaration_of c.args.options.now) c.args.parser.now c.new-words.result.items c.new-seen.result.items c.requires.line c.new-words.ensures.items c.new-seen.ensures.items, λ is. c.requires.before)

pub offset_bounds-declared-index : goal.offset_bounds-declared-index
offset_bounds-declared-index g c =
    let next = rw c.in-Option.is at c.in_ok-index.ensures in
    let within = found_within (options_of c.args.options.now) next.0 c.in-Option.index next.2 in
    let same = ap (λ l. length l) c.options-declared.ensures.same in omega (arith, within, same)

pub bounds-declared-index : goal.bounds-declared-index
bounds-declared-index g c =
    let next = rw c.in-Option.is at c.in_ok-index.ensures in
    let within = found_within (options_of c.args.options.now) next.0 c.in-Option.index next.2 in
    let same = ap (λ l. length l) c.options-declared.ensures.same in omega (arith, within, same)

pub loop-last-smaller-in-Values : goal.loop-last-smaller-in-Values
loop-last-smaller-in-Values g c =
    let o = c.args.options.now in
    let next = rw c.in-Option.is at c.in_ok-index.ensures in
    let at = option_there (options_of o) c.options-declared.result.now c.index-declared-index.result next.0 c.in-Option.index c.options-declared.ensures.same next.2 c.index-declared-index.is in
    let given = rw c.in-Values.is at c.in_ok-accepted-in-Option.ensures (declaration_of o) at in
    (has_option (declaration_of o) c.args.parser.now c.loop-last.parser c.read_next.new.parser c.read_after_name.new.parser c.loop-last.words.items c.loop-last.all_accepted c.in-Values.accepted c.loop-last.last c.loop-last.going_on
    c.in-Values.first c.in-Values.goes_on next.0 c.in-Option.index c.loop-last.seen.items c.note.new.seen.items o.sound c.loop-last.invariant.0
    (c.in_ok-note-in-Values.ensures ∙ ap (λ b. noted b c.in-Option.index c.loop-last.seen.items) (c.is_noted.ensures ∙ sym (noted_is (declaration_of o).options c.in-Option.index _ at))) next.1 next.2 given).1

pub loop-last-preserved-in-Values : goal.loop-last-preserved-in-Values
loop-last-preserved-in-Values g c =
    let o = c.args.options.now in
    let next = rw c.in-Option.is at c.in_ok-index.ensures in
    let at = option_there (options_of o) c.options-declared.result.now c.index-declared-index.result next.0 c.in-Option.index c.options-declared.ensures.same next.2 c.index-declared-index.is in
    let given = rw c.in-Values.is at c.in_ok-accepted-in-Option.ensures (declaration_of o) at in
    let has = has_option (declaration_of o) c.args.parser.now c.loop-last.parser c.read_next.new.parser c.read_after_name.new.parser c.loop-last.words.items c.loop-last.all_accepted c.in-Values.accepted c.loop-last.last c.loop-last.going_on
    c.in-Values.first c.in-Values.goes_on next.0 c.in-Option.index c.loop-last.seen.items c.note.new.seen.items o.sound c.loop-last.invariant.0
    (c.in_ok-note-in-Values.ensures ∙ ap (λ b. noted b c.in-Option.index c.loop-last.seen.items) (c.is_noted.ensures ∙ sym (noted_is (declaration_of o).options c.in-Option.index _ at))) next.1 next.2 given in (
      rw (c.are_both-all_accepted.ensures, c.with_index-last.ensures, c.index_if-going_on.ensures) has.0,
      λ is. has.2,
    )

pub returns-in-Lacks : goal.returns-in-Lacks
returns-in-Lacks g c = λ words is.
    let o = c.args.options.now in
    let next = rw c.in-Option.is at c.in_ok-index.ensures in
    let at = option_there (options_of o) c.options-declared.result.now c.index-declared-index.result next.0 c.in-Option.index c.options-declared.ensures.same next.2 c.index-declared-index.is in
    let given = rw c.in-Lacks.is at c.in_ok-accepted-in-Option.ensures (declaration_of o) at in
    lacking_begun (declaration_of o) c.loop-last.parser c.read_next.new.parser c.read_after_name.new.parser words (record { words = c.loop-last.words; accepted = c.loop-last.all_accepted; seen = c.loop-last.seen; last = None; state = c.in-Lacks.state }) c.loop-last.last c.loop-last.going_on
    next.0 c.in-Option.index o.sound (rw is at c.loop-last.invariant.0) refl next.1 next.2 given

pub returns-in-Missing : goal.returns-in-Missing
returns-in-Missing g c = λ words is.
    let o = c.args.options.now in
    let next = rw c.in-Option.is at c.in_ok-index.ensures in
    let at = option_there (options_of o) c.options-declared.result.now c.index-declared-index.result next.0 c.in-Option.index c.options-declared.ensures.same next.2 c.index-declared-index.is in
    let given = rw c.in-Missing.is at c.in_ok-accepted-in-Option.ensures (declaration_of o) at in
    missing_begun (declaration_of o) c.loop-last.parser c.read_next.new.parser c.read_after_name.new.parser words c.loop-last.words.items c.loop-last.all_accepted c.loop-last.last c.loop-last.going_on next.0 c.in-Option.index o.sound (rw is at c.loop-last.invariant.0) next.1 next.2 given

pub returns-then-is_separated : goal.returns-then-is_separated
returns-then-is_separated g c = λ words is.
    separated_begun c.args.begins (declaration_of c.args.options.now) c.loop-last.parser c.read_next.new.parser words c.loop-last.words.items c.in-Positional.word c.loop-last.all_accepted c.loop-last.last c.loop-last.going_on c.args.options.now.sound (rw is at c.loop-last.invariant.0)
    c.loop-last.invariant.1 (rw c.in-Positional.is at c.in_ok-index.ensures) (sym c.is_separated.ensures ∙ c.if-is_separated.true)

pub returns-then-is_full : goal.returns-then-is_full
returns-then-is_full g c = λ words is.
    rw c.surplus_begun.ensures
    (rest_begun c.args.begins (declaration_of c.args.options.now) c.loop-last.parser c.read_next.new.parser words c.loop-last.words.items c.in-Positional.word c.loop-last.all_accepted c.loop-last.last c.loop-last.going_on c.args.options.now.sound (rw is at c.loop-last.invariant.0) (rw c.in-Positional.is at c.in_ok-index.ensures)
    (sym c.is_separated.ensures ∙ c.if-is_separated.false) (sym c.most-limit.ensures ∙ c.is_full.ensures.0 c.if-is_full.true ∙ ap (λ n. Some n) (c.len.ensures ∙ c.loop-last.words.ok.0)))

pub loop-last-smaller : goal.loop-last-smaller
loop-last-smaller g c =
    let next = rw c.in-Positional.is at c.in_ok-index.ensures in
    positional_falls c.loop-last.parser c.read_next.new.parser c.in-Positional.word next

pub loop-last-preserved : goal.loop-last-preserved
loop-last-preserved g c =
    let next = rw c.in-Positional.is at c.in_ok-index.ensures in (
      has_positional (declaration_of c.args.options.now) c.args.parser.now c.loop-last.parser c.read_next.new.parser c.loop-last.words.items c.push.new.self.items c.in-Positional.word c.loop-last.all_accepted c.loop-last.last c.loop-last.going_on c.most-limit.result
          c.loop-last.invariant.0 next c.most-limit.ensures (λ full. false≢true (sym c.if-is_full.false ∙ c.is_full.ensures.1 (full ∙ ap (λ n. Some n) (sym (c.len.ensures ∙ c.loop-last.words.ok.0))))) c.in_ok-push-in-Positional.ensures.items,
      not_separated c.args.begins c.read_next.new.parser.ended (sym c.is_separated.ensures ∙ c.if-is_separated.false),
    )

pub returns-in-End : goal.returns-in-End
returns-in-End g c = λ words is.
    let step = rw c.in-End.is at c.in_ok-index.ensures in
    end_begun c.args.begins (declaration_of c.args.options.now) c.loop-last.parser c.read_next.new.parser words (record { words = c.loop-last.words; accepted = c.loop-last.all_accepted; seen = c.loop-last.seen; last = c.loop-last.last; state = c.state_at_end.result }) c.loop-last.going_on
    c.args.options.now.sound (rw is at c.loop-last.invariant.0) c.loop-last.invariant.1 step (c.state_at_end.ensures ∙ ap (state_at_end c.loop-last.going_on) c.is_past_separator.ensures)

pub returns-in-Undeclared : goal.returns-in-Undeclared
returns-in-Undeclared g c = λ words is.
    undeclared_begun (declaration_of c.args.options.now) c.loop-last.parser c.read_next.new.parser words c.loop-last.words.items c.loop-last.all_accepted c.loop-last.last c.loop-last.going_on c.in-Undeclared.field-0 (rw is at c.loop-last.invariant.0)
    (rw c.in-Undeclared.is at c.in_ok-index.ensures)

pub returns-in-Unexpected : goal.returns-in-Unexpected
returns-in-Unexpected g c = λ words is.
    unexpected_begun (declaration_of c.args.options.now) c.loop-last.parser c.read_next.new.parser words c.loop-last.words.items c.loop-last.all_accepted c.loop-last.last c.loop-last.going_on _ _ (rw is at c.loop-last.invariant.0)
    (rw c.in-Unexpected.is at c.in_ok-index.ensures)
