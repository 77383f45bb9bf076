use Rattle.lexopt_options.proofs.Common.{arith, ap, get_or, map, refl, sym, ◌-◌, ◌∙◌, get_or_default, positional_view, least}
use Rattle.lexopt_options.proofs.Given.{after, all_given, counted, done_more, done_none, have_keys, parsed_still, word_below, word_count}
use Rattle.lexopt_options.proofs.Owners.{first_keys}
use Rattle.lexopt_options.proofs.places.give_all.Goals.{then-give_key, else-give_key}
use Rattle.lexopt_options.proofs.places.give_all.Goals as goal

pub returns-then-positionals-lt2-clause-keys : goal.returns-then-positionals-lt2-clause-keys
returns-then-positionals-lt2-clause-keys g c = λ can.
    let found = first_keys c.args.positionals.now _ c.if-positionals-lt2.true can.within can.firsts in
    record { places = found.0; are_places = found.1; have = found.2 }

pub loop-own-init : goal.loop-own-init
loop-own-init g c = done_none c.args.positionals.now (word_count c.args.parsed.now) c.args.parsed.now

pub overflow_add-word : goal.overflow_add-word
overflow_add-word g c =
    let old = get_or c.loop-own.parsed c.loop-own.own-index c.own-item.result in
    let below = word_below c.args.positionals.now (word_count c.args.parsed.now) c.args.parsed.now c.loop-own.parsed c.loop-own.own-index c.loop-own.word old c.loop-own.invariant c.loop-own-test.true
    (get_or_default c.loop-own.parsed c.loop-own.own-index c.own-item.result old (omega (arith, c.loop-own.auto.parsed, c.loop-own-test.true))) (sym c.give_key.ensures.kind ∙ c.if-give_key.true) in
    omega (arith, below, c.count_of.ensures, counted c.args.parsed.now, c.count_of.type_inv)

pub loop-own-preserved : goal.loop-own-preserved
loop-own-preserved g c =
    let spare = c.spare_of-spare.ensures ∙ ap (λ n. n - least (map positional_view c.args.positionals.now)) (c.count_of.ensures ∙ counted c.args.parsed.now) in
    let old = get_or c.loop-own.parsed c.loop-own.own-index c.own-item.result in
    let old_is = get_or_default c.loop-own.parsed c.loop-own.own-index c.own-item.result old (omega (arith, c.loop-own.auto.parsed, c.loop-own-test.true)) in
    done_more c.args.positionals.now (word_count c.args.parsed.now) c.args.parsed.now c.loop-own.parsed c.loop-own.own-index c.loop-own.word c.if-give_key.word old c.give_key.new.own c.give_key.result
    c.loop-own.invariant c.loop-own-test.true c.loop-own.auto.parsed old_is refl c.give_key.ensures.kind c.give_key.ensures.same (λ places are. c.give_key.ensures.given places (word_count c.args.parsed.now) are spare)
    (elim c.if-give_key.branch [ then-give_key w ↦ w.word-is ∙ ap (λ b. after b c.loop-own.word) (sym w.if-give_key.true) | else-give_key w ↦ w.word-is ∙ ap (λ b. after b c.loop-own.word) (sym w.if-give_key.false) ])

pub returns-clause-same : goal.returns-clause-same
returns-clause-same g c = λ options l are.
    parsed_still c.args.positionals.now (word_count c.args.parsed.now) 0 options l c.args.parsed.now c.loop-own.parsed
    (all_given c.args.positionals.now (word_count c.args.parsed.now) c.args.parsed.now c.loop-own.parsed c.loop-own.own-index c.loop-own.word c.loop-own.invariant c.loop-own.auto.parsed c.loop-own-test.false) are

pub returns-clause-keys : goal.returns-clause-keys
returns-clause-keys g c = λ can.
    have_keys c.args.positionals.now c.args.parsed.now c.loop-own.parsed
    (all_given c.args.positionals.now (word_count c.args.parsed.now) c.args.parsed.now c.loop-own.parsed c.loop-own.own-index c.loop-own.word c.loop-own.invariant c.loop-own.auto.parsed c.loop-own-test.false) can.within
