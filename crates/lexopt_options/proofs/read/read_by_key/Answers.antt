use Rattle.std.proofs.Common.{◌∙◌, [], None, Some, Ok, ap, arith, not, position, refl, sym}
use Rattle.std.proofs.lemmas.List.Quantifiers.{position-Some}
use Rattle.lexopt_declaration.specs.declared.declaration.Kind.TheVariants as kind
use Rattle.lexopt_line_spec.specs.Table as arity
use Rattle.lexopt_line_spec.specs.Values as values
use Rattle.lexopt_options.specs.declared.parsed.Asked.TheVariants as asked
use Rattle.lexopt_options.specs.declared.parsed.Parsed.TheVariants as parsed
use Rattle.lexopt_options.specs.declared.parsed.ByKey.TheVariants as told
use Rattle.lexopt_options.specs.Declarations.{declaration_of, options_of}
use Rattle.lexopt_options.proofs.Keys.{tells_flag, tells_brief_help, tells_help, tells_maybe, tells_value, tells_values, tells_version}
use Rattle.lexopt_options_spec.specs.Declaration as spec
use Rattle.lexopt_declaration.specs.Models.{option_view, words_view}
use Rattle.lexopt_options.proofs.Accepted.{first_refused, place_refused, value_accepted, value_refused, view_there}
use Rattle.lexopt_options.proofs.Fronts.{kind_here, maybe_so, several_ends, taken_so, value_ends}
use Rattle.lexopt_options.proofs.ReadKeys.{read_so, refused_so}
use Rattle.lexopt_options.proofs.read.read_by_key.Goals as goal

pub returns-in-Flag : goal.returns-in-Flag
returns-in-Flag g c = λ o index count u name at step found.
    let d = declaration_of o in
    let r = c.args.option.now in
    let view = view_there (options_of o) index r at in
    read_so o count u c.args.parser.now c.args.parser.now name arity.flag index (values.at_most_one None) (told.Parsed (parsed.Flag c.in-Flag.key))
    (kind_here d.options index r (kind.Flag c.in-Flag.key) view c.in-Flag.is) step found refl (tells_flag o index r c.in-Flag.key at c.in-Flag.is) refl

pub returns-in-Help : goal.returns-in-Help
returns-in-Help g c = λ o index count u name at step found.
    let d = declaration_of o in
    let r = c.args.option.now in
    let view = view_there (options_of o) index r at in
    read_so o count u c.args.parser.now c.args.parser.now name arity.flag index (values.at_most_one None) (told.Asked asked.Help)
    (kind_here d.options index r kind.Help view c.in-Help.is) step found refl (tells_help o index r at c.in-Help.is) refl

pub returns-in-BriefHelp : goal.returns-in-BriefHelp
returns-in-BriefHelp g c = λ o index count u name at step found.
    let d = declaration_of o in
    let r = c.args.option.now in
    let view = view_there (options_of o) index r at in
    read_so o count u c.args.parser.now c.args.parser.now name arity.flag index (values.at_most_one None) (told.Asked asked.BriefHelp)
    (kind_here d.options index r kind.BriefHelp view c.in-BriefHelp.is) step found refl (tells_brief_help o index r at c.in-BriefHelp.is) refl

pub returns-in-Version : goal.returns-in-Version
returns-in-Version g c = λ o index count u name at step found.
    let d = declaration_of o in
    let r = c.args.option.now in
    let view = view_there (options_of o) index r at in
    read_so o count u c.args.parser.now c.args.parser.now name arity.flag index (values.at_most_one None) (told.Asked (asked.Version c.in-Version.text))
    (kind_here d.options index r (kind.Version c.in-Version.text) view c.in-Version.is) step found refl (tells_version o index r c.in-Version.text at c.in-Version.is) refl

pub returns-then-accepts : goal.returns-then-accepts
returns-then-accepts g c = λ o index count u name at step found.
    let d = declaration_of o in
    let r = c.args.option.now in
    let view = view_there (options_of o) index r at in
    read_so o count u c.args.parser.now c.take.new.self name arity.one index (values.at_most_one (Some c.in-Ok.value)) (told.Parsed (parsed.Value c.in-Value.key c.in-Ok.value))
    (kind_here d.options index r (kind.Value c.in-Value.key c.in-Value.field-1) view c.in-Value.is) step found (taken_so c.args.parser.now c.take.new.self c.take.result (Ok c.in-Ok.value) c.in-Ok.is c.take.ensures) (tells_value o index r c.in-Value.key c.in-Value.field-1 c.in-Ok.value at c.in-Value.is)
    (value_accepted d.options index (option_view r) c.in-Ok.value view (sym c.accepts.ensures ∙ c.if-accepts.true))

pub invalid_value-requires : goal.invalid_value-requires
invalid_value-requires g c = sym c.accepts.ensures ∙ c.if-accepts.false

pub returns-in-Ok : goal.returns-in-Ok
returns-in-Ok g c = λ o index count u name at step found.
    let d = declaration_of o in
    let r = c.args.option.now in
    let view = view_there (options_of o) index r at in
    refused_so o count u c.args.parser.now c.take.new.self name arity.one index (values.at_most_one (Some c.in-Ok.value)) c.invalid_value.result c.in-Ok.value
    (kind_here d.options index r (kind.Value c.in-Value.key c.in-Value.field-1) view c.in-Value.is) step found (taken_so c.args.parser.now c.take.new.self c.take.result (Ok c.in-Ok.value) c.in-Ok.is c.take.ensures)
    (value_refused d.options index (option_view r) c.in-Ok.value view (sym c.accepts.ensures ∙ c.if-accepts.false), c.invalid_value.ensures d index view)

pub missing_value-requires : goal.missing_value-requires
missing_value-requires g c =
    (arity.one, c.requires.0, c.args.parser.now, c.take.new.self, c.requires.1, c.requires.2, (λ is. cc), value_ends c.args.parser.now c.take.new.self c.take.result c.in-Err.refused c.in-Err.is c.take.ensures)

pub returns-in-Value : goal.returns-in-Value
returns-in-Value g c = λ o index count u name at step found.
    let d = declaration_of o in
    let r = c.args.option.now in
    let view = view_there (options_of o) index r at in
    c.in_ok-missing_value-in-Err.ensures d index arity.one u c.args.parser.now c.take.new.self name o.sound view step found (kind_here d.options index r (kind.Value c.in-Value.key c.in-Value.field-1) view c.in-Value.is)
    (value_ends c.args.parser.now c.take.new.self c.take.result c.in-Err.refused c.in-Err.is c.take.ensures)

pub returns-then-accepts-2 : goal.returns-then-accepts-2
returns-then-accepts-2 g c = λ o index count u name at step found.
    let d = declaration_of o in
    let r = c.args.option.now in
    let view = view_there (options_of o) index r at in
    read_so o count u c.args.parser.now c.optional_value.new.self name arity.optional index (values.at_most_one (Some c.in-Some.value)) (told.Parsed (parsed.Maybe c.in-Maybe.key (Some c.in-Some.value)))
    (kind_here d.options index r (kind.Maybe c.in-Maybe.key c.in-Maybe.field-1) view c.in-Maybe.is) step found (maybe_so c.args.parser.now c.optional_value.new.self c.optional_value.result (Some c.in-Some.value) c.in-Some.is c.optional_value.ensures) (tells_maybe o index r c.in-Maybe.key c.in-Maybe.field-1 (Some c.in-Some.value) at c.in-Maybe.is)
    (value_accepted d.options index (option_view r) c.in-Some.value view (sym c.accepts-in-Some.ensures ∙ c.if-accepts-2.true))

pub invalid_value-requires-else-accepts-2 : goal.invalid_value-requires-else-accepts-2
invalid_value-requires-else-accepts-2 g c = sym c.accepts-in-Some.ensures ∙ c.if-accepts-2.false

pub returns-in-Some : goal.returns-in-Some
returns-in-Some g c = λ o index count u name at step found.
    let d = declaration_of o in
    let r = c.args.option.now in
    let view = view_there (options_of o) index r at in
    refused_so o count u c.args.parser.now c.optional_value.new.self name arity.optional index (values.at_most_one (Some c.in-Some.value)) c.invalid_value-else-accepts-2.result c.in-Some.value
    (kind_here d.options index r (kind.Maybe c.in-Maybe.key c.in-Maybe.field-1) view c.in-Maybe.is) step found (maybe_so c.args.parser.now c.optional_value.new.self c.optional_value.result (Some c.in-Some.value) c.in-Some.is c.optional_value.ensures)
    (value_refused d.options index (option_view r) c.in-Some.value view (sym c.accepts-in-Some.ensures ∙ c.if-accepts-2.false), c.invalid_value-else-accepts-2.ensures d index view)

pub returns-in-Maybe : goal.returns-in-Maybe
returns-in-Maybe g c = λ o index count u name at step found.
    let d = declaration_of o in
    let r = c.args.option.now in
    let view = view_there (options_of o) index r at in
    read_so o count u c.args.parser.now c.optional_value.new.self name arity.optional index (values.at_most_one None) (told.Parsed (parsed.Maybe c.in-Maybe.key None))
    (kind_here d.options index r (kind.Maybe c.in-Maybe.key c.in-Maybe.field-1) view c.in-Maybe.is) step found (maybe_so c.args.parser.now c.optional_value.new.self c.optional_value.result None c.in-None.is c.optional_value.ensures) (tells_maybe o index r c.in-Maybe.key c.in-Maybe.field-1 None at c.in-Maybe.is) refl

pub swap_remove-requires : goal.swap_remove-requires
swap_remove-requires g c =
    let words = words_view c.args.option.now.words in
    let items = c.in-Ok-read_several.values.items in
    let first = sym c.in-Some-refused_place.is ∙ c.refused_place.ensures ∙ ap (position (λ value. not (spec.accepts words value))) c.deref.ensures.value in
    let within = (position-Some (λ value. not (spec.accepts words value)) items c.in-Some-refused_place.place [] (sym first)).0 in
    omega (arith, within, c.in-Ok-read_several.values.ok.0)

pub invalid_value-requires-in-Some-refused_place : goal.invalid_value-requires-in-Some-refused_place
invalid_value-requires-in-Some-refused_place g c =
    let words = words_view c.args.option.now.words in
    (place_refused words c.in-Ok-read_several.values.items c.in-Some-refused_place.place c.swap_remove.result (sym c.in-Some-refused_place.is ∙ c.refused_place.ensures ∙ ap (position (λ value. not (spec.accepts words value))) c.deref.ensures.value) c.swap_remove.ensures.value).1

pub returns-in-Some-refused_place : goal.returns-in-Some-refused_place
returns-in-Some-refused_place g c = λ o index count u name at step found.
    let d = declaration_of o in
    let r = c.args.option.now in
    let view = view_there (options_of o) index r at in
    let words = words_view r.words in
    let items = c.in-Ok-read_several.values.items in
    let first = sym c.in-Some-refused_place.is ∙ c.refused_place.ensures ∙ ap (position (λ value. not (spec.accepts words value))) c.deref.ensures.value in
    refused_so o count u c.args.parser.now c.read_several.new.parser name arity.several index (values.all c.in-Ok-read_several.values.items) c.invalid_value-in-Some-refused_place.result c.swap_remove.result
    (kind_here d.options index r (kind.Values c.in-Values.key c.in-Values.field-1) view c.in-Values.is) step found c.in-Ok-read_several.ensures.ok
    (first_refused d.options index (option_view r) items (Some c.in-Some-refused_place.place) view first ∙ (place_refused words items c.in-Some-refused_place.place c.swap_remove.result first c.swap_remove.ensures.value).0, c.invalid_value-in-Some-refused_place.ensures d index view)

pub returns-in-Ok-read_several : goal.returns-in-Ok-read_several
returns-in-Ok-read_several g c = λ o index count u name at step found.
    let d = declaration_of o in
    let r = c.args.option.now in
    let view = view_there (options_of o) index r at in
    let words = words_view r.words in
    let all = sym c.in-None-refused_place.is ∙ c.refused_place.ensures ∙ ap (position (λ value. not (spec.accepts words value))) c.deref.ensures.value in
    read_so o count u c.args.parser.now c.read_several.new.parser name arity.several index (values.all c.in-Ok-read_several.values.items) (told.Parsed (parsed.Values c.in-Values.key c.in-Ok-read_several.values))
    (kind_here d.options index r (kind.Values c.in-Values.key c.in-Values.field-1) view c.in-Values.is) step found c.in-Ok-read_several.ensures.ok (tells_values o index r c.in-Values.key c.in-Values.field-1 c.in-Ok-read_several.values at c.in-Values.is)
    (first_refused d.options index (option_view r) c.in-Ok-read_several.values.items None view all)

pub missing_value-requires-in-Err-read_several : goal.missing_value-requires-in-Err-read_several
missing_value-requires-in-Err-read_several g c = (arity.several, c.requires.0, c.args.parser.now, c.read_several.new.parser, c.requires.1, c.requires.2, (λ is. cc), several_ends c.args.parser.now c.read_several.new.parser c.in-Err-read_several.refused c.in-Err-read_several.ensures.err)

pub returns : goal.returns
returns g c = λ o index count u name at step found.
    let d = declaration_of o in
    let r = c.args.option.now in
    let view = view_there (options_of o) index r at in
    c.in_ok-missing_value-in-Err-read_several.ensures d index arity.several u c.args.parser.now c.read_several.new.parser name o.sound view step found (kind_here d.options index r (kind.Values c.in-Values.key c.in-Values.field-1) view c.in-Values.is)
    (several_ends c.args.parser.now c.read_several.new.parser c.in-Err-read_several.refused c.in-Err-read_several.ensures.err)
