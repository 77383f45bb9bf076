use Rattle.std.proofs.Common.{List, Some, ap, length, refl, subst, sym, ◌∙◌, ℕ}
use Rattle.lexopt_options_spec.specs.Legal.{IsWithin, most}
use Rattle.lexopt_options_spec.specs.Stops as stops
use Rattle.lexopt_options_spec.proofs.Taken.{words_count}
use Rattle.lexopt_options.specs.Declarations.{declaration_of, options_of}
use Rattle.lexopt_options.specs.Keys.{CanHaveKeys, HaveKeys, parsed_words}
use Rattle.lexopt_options.specs.Reading.{AreSeen}
use Rattle.lexopt_options.proofs.Defaults.{keys_same}
use Rattle.lexopt_options.proofs.KeysGiven.{can_have}
use Rattle.lexopt_options.proofs.ReadKeys.{stopped_with}
use Rattle.lexopt_options.proofs.TakenWords.{words_are}
use Rattle.lexopt_options.proofs.WholeLines.{line_parsed}
use Rattle.lexopt_options.proofs.read.line_of.Goals as goal

pub returns-in-Some : goal.returns-in-Some
returns-in-Some g c = λ words v ended.
    let o = c.args.options.now in
    let d = declaration_of o in
    let read = rw c.in-End.is at ended in
    let had = read.1 in
    let own = words_are (options_of o) had.l c.args.read.parsed.items had.are ∙ ap parsed_words (sym c.deref.ensures.value) in
    let seen = subst (λ (l : List ℕ). AreSeen d.options had.l l) (sym c.deref-in-End.ensures.value) had.are_seen in
    let wrong = rw c.in-Some.is at c.in_ok-mistake-in-End.ensures (had.counted ∙ sym (words_count had.l) ∙ ap length own) (subst (λ n. IsWithin n (most d.positionals)) (sym had.counted) had.read.within) in
    (c.refused_for.ensures words (stopped_with o _ words read.0 _ _ _ _ had wrong.why wrong.told wrong.kept (wrong.stops read.0 v had.l read.2 own seen))).0

pub returns-in-End : goal.returns-in-End
returns-in-End g c = λ words v ended.
    let o = c.args.options.now in
    let d = declaration_of o in
    let read = rw c.in-End.is at ended in
    let had = read.1 in
    let own = words_are (options_of o) had.l c.args.read.parsed.items had.are ∙ ap parsed_words (sym c.deref.ensures.value) in
    let seen = subst (λ (l : List ℕ). AreSeen d.options had.l l) (sym c.deref-in-End.ensures.value) had.are_seen in
    let noted = subst (λ (l : List ℕ). AreSeen d.options had.l l) (sym c.deref-in-None.ensures.value) had.are_seen in
    let right = rw c.in-None.is at c.in_ok-mistake-in-End.ensures (had.counted ∙ sym (words_count had.l) ∙ ap length own) (subst (λ n. IsWithin n (most d.positionals)) (sym had.counted) had.read.within) in
    let all = c.in_ok-all-in-None.ensures had.l noted (c.give_keys.ensures.same (options_of o) had.l had.are) in (
      had.l,
      line_parsed d words had.l read.0 v _ c.deref-in-End.result.now o.sound had.read own seen read.2 right had.accepted,
      had.none,
      all.0,
      subst (λ ps. HaveKeys ps c.in_ok-all-in-None.all.items) c.positionals.ensures.same
          (keys_same c.positionals.result.now c.in_ok-all-in-None.all.items c.give_keys.new.parsed.items all.1
          (c.give_keys.ensures.keys (subst (λ ps. CanHaveKeys ps c.args.read.parsed.items) (sym c.positionals.ensures.same) (can_have o had.l c.args.read.parsed.items had.read.within had.are had.firsts)))),
    )

pub returns-in-Positional : goal.returns-in-Positional
returns-in-Positional g c = λ words v ended.
    let o = c.args.options.now in
    let read = rw c.in-Positional.is at ended in
    (c.refused_for-in-Positional.ensures words
    (stopped_with o _ words read.0 _ _ _ _ read.1 (stops.unexpected_argument c.in-Positional.word) refl (λ l. refl)
    (stops.one_too_many c.in-Positional.word v read.2 (read.3 refl ∙ ap (λ n. Some n) read.1.counted)))).0

pub returns-in-Asked : goal.returns-in-Asked
returns-in-Asked g c = λ words v ended. rw c.in-Asked.is at ended

pub returns : goal.returns
returns g c = λ words v ended. (c.refused_for-in-Mistake.ensures words (rw c.in-Mistake.is at ended).0).0
