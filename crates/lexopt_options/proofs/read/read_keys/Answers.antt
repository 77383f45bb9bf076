use Rattle.std.proofs.Common.{◌-◌, ◌≡◌, ◌≤◌, ◌∙◌, Ok, ap, arith, length, refl, string_bytes, subst, sym}
use Rattle.std.proofs.lemmas.Bool.{false≢true}
use Rattle.std.proofs.lemmas.Result.{IfOk-weaker}
use Rattle.std.proofs.lemmas.List.{length-map}
use Rattle.lexopt_declaration.specs.Models.{positional_view}
use Rattle.lexopt_options_spec.specs.Asking.{all_but_last}
use Rattle.lexopt_options_spec.specs.Stops as stops
use Rattle.lexopt_options.specs.declared.parsed.ByKey.TheVariants as told
use Rattle.lexopt_options.specs.Declarations.{declaration_of, options_of, positionals_of}
use Rattle.lexopt_options.specs.Keys.{AllFirst, AreParsedAs, HasKey, positional_keys}
use Rattle.lexopt_options.specs.Reading.{HasRead, noted}
use Rattle.lexopt_options.proofs.Accepted.{view_there}
use Rattle.lexopt_options.proofs.Defaults.{noted_is}
use Rattle.lexopt_options.proofs.Fronts.{option_at}
use Rattle.lexopt_options.proofs.Keys.{found_within, none_before}
use Rattle.lexopt_options.proofs.KeysGiven.{first_kept}
use Rattle.lexopt_options.proofs.ReadKeys.{at_start, count_within, has_option, has_positional, not_separated, room_for_one, starts, stopped_there}
use Rattle.lexopt_options.proofs.ReadNext.{has_room, positional_parsed}
use Rattle.lexopt_options.proofs.WholeLines.{kept_parsed}
use Rattle.lexopt_options.proofs.read.read_keys.Goals as goal

pub loop-index-init : goal.loop-index-init
loop-index-init g c =
    let start = at_start c.args.options.now c.args.begins c.args.parser.now c.requires.line c.requires.before c.requires.nothing.parsed c.requires.nothing.seen in
    subst (λ n. HasRead c.args.options.now c.args.begins c.args.parser.now c.args.parser.now n c.args.read.now.seen.items c.args.read.now.parsed.items) (sym c.requires.nothing.count) start

pub overflow_add-read : goal.overflow_add-read
overflow_add-read g c =
    let small = count_within c.args.options.now c.args.begins c.args.parser.now c.loop-index.parser c.loop-index.read.count c.loop-index.read.seen.items c.loop-index.read.parsed.items c.loop-index.invariant in
    omega (arith, small, c.loop-index.read.parsed.small)

pub offset_bounds-declared-index : goal.offset_bounds-declared-index
offset_bounds-declared-index g c =
    let next = rw c.in-Option.is at c.in_ok-index.ensures in
    let within = found_within (options_of c.args.options.now) next.0 c.in-Option.index next.2 in
    let same = ap (λ l. length l) c.options-declared.ensures.same in omega (arith, within, same)

pub bounds-declared-index : goal.bounds-declared-index
bounds-declared-index g c =
    let next = rw c.in-Option.is at c.in_ok-index.ensures in
    let within = found_within (options_of c.args.options.now) next.0 c.in-Option.index next.2 in
    let same = ap (λ l. length l) c.options-declared.ensures.same in omega (arith, within, same)

pub read_by_key-requires : goal.read_by_key-requires
read_by_key-requires g c = let next = rw c.in-Option.is at c.in_ok-index.ensures in (c.loop-index.parser, next.0, next.1)

pub loop-index-smaller-in-Continue-branch-7 : goal.loop-index-smaller-in-Continue-branch-7
loop-index-smaller-in-Continue-branch-7 g c =
    let o = c.args.options.now in
    let next = rw c.in-Option.is at c.in_ok-index.ensures in
    let at = option_at (options_of o) c.options-declared.result.now c.index-declared-index.result next.0 c.in-Option.index c.options-declared.ensures.same next.2 c.index-declared-index.is in
    let is : c.in_ok-own-in-Option.field-0 ≡ Ok (told.Parsed c.in-Ok-Parsed.own) = c.in-Ok-Parsed.is ∙ ap Ok c.in-Ok-Parsed.field-0-is in
    let read = rw is at c.in_ok-own-in-Option.ensures o c.in-Option.index c.loop-index.read.count c.loop-index.parser next.0 at next.1 next.2 in
    read.1.shorter

pub loop-index-preserved-in-Continue-branch-7 : goal.loop-index-preserved-in-Continue-branch-7
loop-index-preserved-in-Continue-branch-7 g c =
    let o = c.args.options.now in
    let next = rw c.in-Option.is at c.in_ok-index.ensures in
    let at = option_at (options_of o) c.options-declared.result.now c.index-declared-index.result next.0 c.in-Option.index c.options-declared.ensures.same next.2 c.index-declared-index.is in
    let is : c.in_ok-own-in-Option.field-0 ≡ Ok (told.Parsed c.in-Ok-Parsed.own) = c.in-Ok-Parsed.is ∙ ap Ok c.in-Ok-Parsed.field-0-is in
    let read = rw is at c.in_ok-own-in-Option.ensures o c.in-Option.index c.loop-index.read.count c.loop-index.parser next.0 at next.1 next.2 in
    has_option o c.args.begins c.args.parser.now c.loop-index.parser c.read_by_key.new.parser c.loop-index.read.count c.in-Option.index c.loop-index.read.seen.items c.note.new.seen.items c.loop-index.read.parsed.items c.push.new.self.items read.0 c.in-Ok-Parsed.own
    c.loop-index.invariant read.1 read.2.0 read.2.1 read.3 read.4 read.5
    (c.in_ok-note-in-Ok-Parsed.ensures ∙ ap (λ b. noted b c.in-Option.index c.loop-index.read.seen.items) (c.is_noted.ensures ∙ sym (noted_is (declaration_of o).options c.in-Option.index _ (view_there (options_of o) c.in-Option.index c.index-declared-index.result at))))
    c.in_ok-push-in-Ok-Parsed.ensures.items

pub first_key-key-requires : goal.first_key-key-requires
first_key-key-requires g c =
    let o = c.args.options.now in
    let had = c.loop-index.invariant in
    let room = room_for_one (declaration_of c.args.options.now) had.l c.loop-index.read.count c.most-limit.result c.is_full.result had.counted c.most-limit.ensures c.is_full.ensures c.if-is_full.false had.read.within in
    subst (λ n. 1 ≤ n) (sym (ap length c.positionals.ensures.view) ∙ length-map c.positionals.result.now positional_view) (has_room (declaration_of o).positionals c.loop-index.read.count room)

pub loop-index-smaller : goal.loop-index-smaller
loop-index-smaller g c =
    let had = c.loop-index.invariant in
    let room = room_for_one (declaration_of c.args.options.now) had.l c.loop-index.read.count c.most-limit.result c.is_full.result had.counted c.most-limit.ensures c.is_full.ensures c.if-is_full.false had.read.within in
    (positional_parsed (declaration_of c.args.options.now) c.loop-index.read.count c.loop-index.parser c.read_next.new.parser c.in-Positional.word room (rw c.in-Positional.is at c.in_ok-index.ensures)).shorter

pub loop-index-preserved : goal.loop-index-preserved
loop-index-preserved g c =
    let o = c.args.options.now in
    let had = c.loop-index.invariant in
    let room = room_for_one (declaration_of o) had.l c.loop-index.read.count c.most-limit.result c.is_full.result had.counted c.most-limit.ensures c.is_full.ensures c.if-is_full.false had.read.within in
    has_positional o c.args.begins c.args.parser.now c.loop-index.parser c.read_next.new.parser c.loop-index.read.count c.loop-index.read.seen.items c.loop-index.read.parsed.items c.push-in-Positional.new.self.items c.in-Positional.word c.first_key-key.result
    had (not_separated c.args.begins c.read_next.new.parser.ended (sym c.is_separated.ensures ∙ c.if-is_separated.false))
    (positional_parsed (declaration_of o) c.loop-index.read.count c.loop-index.parser c.read_next.new.parser c.in-Positional.word room (rw c.in-Positional.is at c.in_ok-index.ensures))
    (subst (λ ps. HasKey ps 0 c.first_key-key.result) c.positionals.ensures.same c.first_key-key.ensures) c.in_ok-push-in-Positional.ensures.items

pub returns-in-Ok-Asked : goal.returns-in-Ok-Asked
returns-in-Ok-Asked g c =
    let o = c.args.options.now in
    let next = rw c.in-Option.is at c.in_ok-index.ensures in
    let at = option_at (options_of o) c.options-declared.result.now c.index-declared-index.result next.0 c.in-Option.index c.options-declared.ensures.same next.2 c.index-declared-index.is in
    let is : c.in_ok-own-in-Option.field-0 ≡ Ok (told.Asked c.in-Ok-Asked.asked) = c.in-Ok-Asked.is ∙ ap Ok c.in-Ok-Asked.field-0-is in
    let read = rw is at c.in_ok-own-in-Option.ensures o c.in-Option.index c.loop-index.read.count c.loop-index.parser next.0 at next.1 next.2 in
    IfOk-weaker c.ask.result _ _
    (λ ended told words is. told words c.args.begins c.loop-index.parser c.loop-index.read.count c.loop-index.read.seen.items c.loop-index.read.parsed.items read.0 (starts is c.loop-index.invariant) read.1 read.3 read.5 read.2) c.ask.ensures

pub returns-in-Err : goal.returns-in-Err
returns-in-Err g c = λ words is.
    let o = c.args.options.now in
    let next = rw c.in-Option.is at c.in_ok-index.ensures in
    let at = option_at (options_of o) c.options-declared.result.now c.index-declared-index.result next.0 c.in-Option.index c.options-declared.ensures.same next.2 c.index-declared-index.is in
    stopped_there o c.args.begins words c.loop-index.parser c.loop-index.read.count c.loop-index.read.seen.items c.loop-index.read.parsed.items _ (starts is c.loop-index.invariant)
    (rw c.in-Err.is at c.in_ok-own-in-Option.ensures o c.in-Option.index c.loop-index.read.count c.loop-index.parser next.0 at next.1 next.2)

pub returns-then-is_separated : goal.returns-then-is_separated
returns-then-is_separated g c = λ words is.
    (c.loop-index.parser, starts is c.loop-index.invariant, (rw c.in-Positional.is at c.in_ok-index.ensures), λ none. absurd (false≢true (sym none ∙ sym c.is_separated.ensures ∙ c.if-is_separated.true)))

pub returns-then-is_full : goal.returns-then-is_full
returns-then-is_full g c = λ words is.
    (c.loop-index.parser, starts is c.loop-index.invariant, (rw c.in-Positional.is at c.in_ok-index.ensures), λ none. sym c.most-limit.ensures ∙ c.is_full.ensures.0 c.if-is_full.true)

pub returns-in-End : goal.returns-in-End
returns-in-End g c = λ words is. (c.loop-index.parser, starts is c.loop-index.invariant, (rw c.in-End.is at c.in_ok-index.ensures))

pub returns-in-Undeclared : goal.returns-in-Undeclared
returns-in-Undeclared g c = λ words is.
    stopped_there c.args.options.now c.args.begins words c.loop-index.parser c.loop-index.read.count c.loop-index.read.seen.items c.loop-index.read.parsed.items _ (starts is c.loop-index.invariant)
    (c.in_ok-mistake-in-Undeclared.ensures c.loop-index.parser (rw c.in-Undeclared.is at c.in_ok-index.ensures))

pub returns-in-Unexpected : goal.returns-in-Unexpected
returns-in-Unexpected g c = λ words is.
    let o = c.args.options.now in
    let d = declaration_of o in
    let had = starts is c.loop-index.invariant in
    let step = rw c.in-Unexpected.is at c.in_ok-index.ensures in (
      record {
        why = stops.unexpected_value (string_bytes c.in-Unexpected.option) c.in-Unexpected.value;
        told = refl;
        read = had.l;
        stops = record { there = c.loop-index.parser; read = had.read; stops = stops.value_of_flag _ _ c.read_next.new.parser step; accepted = had.accepted };
        own = none_before d.options had.l had.none;
        before = subst (λ xs. AreParsedAs (options_of o) (all_but_last had.l) xs) (sym c.truncate.ensures.items)
            (kept_parsed (options_of o) had.l c.loop-index.read.parsed.items c.saturating_sub-before.result (c.saturating_sub-before.ensures ∙ ap (λ k. k - 1) (c.len.ensures ∙ c.loop-index.read.parsed.ok.0)) had.are);
        firsts = subst (λ xs. AllFirst (positionals_of o) (positional_keys xs)) (sym c.truncate.ensures.items) (first_kept (positionals_of o) c.saturating_sub-before.result c.loop-index.read.parsed.items had.firsts);
      },
      tt,
    )
