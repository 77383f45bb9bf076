use Rattle.lexopt_options.proofs.Common.{◌∙◌, ℕ, List, None, Ok, Some, ap, not, position, refl, subst, sym, false≢true, words_view, refusal_reply, ReadsValues, ValuesEndBy}
use Rattle.lexopt_options_spec.specs.Declaration as declared
use Rattle.lexopt_declaration.specs.declared.declaration.Kind.TheVariants as kind
use Rattle.lexopt_line_spec.specs.Table as arity
use Rattle.lexopt_line_spec.specs.Values as values
use Rattle.lexopt_options.specs.declared.front.AfterName.TheVariants as after
use Rattle.lexopt_options.specs.declared.front.State.TheVariants as state
use Rattle.lexopt_options.proofs.Accepted.{none_is}
use Rattle.lexopt_options.proofs.Fronts.{accepts_here, all_accepted, first_is, flag_here, value_lacks, kind_here, lacks_values, maybe_so, several_ends, taken_so}
use Rattle.lexopt_options.proofs.front.read_after_name.Goals as goal

pub returns-in-Flag : goal.returns-in-Flag
returns-in-Flag g c = λ d at. (
  arity.flag,
  values.at_most_one None,
  flag_here d.options c.args.index c.args.option.now at c.in-Flag.is,
  refl,
  refl,
  refl,
  refl,
)

pub returns-in-Ok : goal.returns-in-Ok
returns-in-Ok g c = λ d at. (
  arity.one,
  values.at_most_one (Some c.in-Ok.value),
  kind_here d.options c.args.index c.args.option.now (kind.Value c.in-Value.field-0 c.in-Value.field-1) at c.in-Value.is,
  taken_so c.args.parser.now c.take.new.self c.take.result (Ok c.in-Ok.value) c.in-Ok.is c.take.ensures,
  accepts_here d.options c.args.index c.args.option.now c.in-Ok.value at ∙ sym c.accepts.ensures,
  refl,
  refl,
)

pub returns-in-Some : goal.returns-in-Some
returns-in-Some g c = λ d at. (
  arity.optional,
  values.at_most_one (Some c.in-Some.value),
  kind_here d.options c.args.index c.args.option.now (kind.Maybe c.in-Maybe.field-0 c.in-Maybe.field-1) at c.in-Maybe.is,
  maybe_so c.args.parser.now c.optional_value.new.self c.optional_value.result (Some c.in-Some.value) c.in-Some.is c.optional_value.ensures,
  accepts_here d.options c.args.index c.args.option.now c.in-Some.value at ∙ sym c.accepts-in-Some.ensures,
  refl,
  refl,
)

pub returns-in-None : goal.returns-in-None
returns-in-None g c = λ d at. (
  arity.optional,
  values.at_most_one None,
  kind_here d.options c.args.index c.args.option.now (kind.Maybe c.in-Maybe.field-0 c.in-Maybe.field-1) at c.in-Maybe.is,
  maybe_so c.args.parser.now c.optional_value.new.self c.optional_value.result None c.in-None.is c.optional_value.ensures,
  refl,
  refl,
  refl,
)

pub returns-in-Ok-read_several : goal.returns-in-Ok-read_several
returns-in-Ok-read_several g c = λ d at. (
  arity.several,
  values.all c.in-Ok-read_several.values.items,
  kind_here d.options c.args.index c.args.option.now (kind.Values c.in-Values.field-0 c.in-Values.field-1) at c.in-Values.is,
  subst (λ u. ReadsValues arity.several u (values.all c.in-Ok-read_several.values.items) c.read_several.new.parser) c.is_at_end-is_last.ensures.same c.in-Ok-read_several.ensures.ok,
  all_accepted d.options c.args.index c.args.option.now c.in-Ok-read_several.values.items c.refused_place.result at (c.refused_place.ensures ∙ ap (λ (l : List (List ℕ)). position (λ value. not (declared.accepts (words_view c.args.option.now.words) value)) l) c.deref.ensures.value) ∙ sym (none_is c.refused_place.result c.is_none.result c.is_none.ensures),
  first_is c.args.index c.in-Ok-read_several.values.items ∙ sym c.first_of.ensures,
  sym (ap not c.has_joined_value-is_joined.ensures),
)

pub returns-then-is_last : goal.returns-then-is_last
returns-then-is_last g c =
    value_lacks c.lacking-then-is_last.result (after.Lacks (state.First c.args.index)) c.in-Err-read_several.refused _ c.lacking-then-is_last.ensures (λ lacks d at.
    let both = lacks_values c.args.parser.now c.read_several.new.parser c.in-Err-read_several.refused (subst (λ u. ValuesEndBy arity.several u (refusal_reply c.in-Err-read_several.refused) c.read_several.new.parser) c.is_at_end-is_last.ensures.same (several_ends _ c.read_several.new.parser c.in-Err-read_several.refused c.in-Err-read_several.ensures.err)) lacks in
    (refl, sym (kind_here d.options c.args.index c.args.option.now (kind.Values c.in-Values.field-0 c.in-Values.field-1) at c.in-Values.is), both.0, (c.is_at_end-is_last.ensures.at_end both.0).0 c.if-is_last.true))

pub returns-else-is_last : goal.returns-else-is_last
returns-else-is_last g c =
    value_lacks c.lacking-else-is_last.result after.Missing c.in-Err-read_several.refused _ c.lacking-else-is_last.ensures (λ lacks d at.
    let both = lacks_values c.args.parser.now c.read_several.new.parser c.in-Err-read_several.refused (subst (λ u. ValuesEndBy arity.several u (refusal_reply c.in-Err-read_several.refused) c.read_several.new.parser) c.is_at_end-is_last.ensures.same (several_ends _ c.read_several.new.parser c.in-Err-read_several.refused c.in-Err-read_several.ensures.err)) lacks in (
      sym (kind_here d.options c.args.index c.args.option.now (kind.Values c.in-Values.field-0 c.in-Values.field-1) at c.in-Values.is),
      both.0,
      λ none. false≢true (sym c.if-is_last.false ∙ (c.is_at_end-is_last.ensures.at_end both.0).1 none),
      both.1,
    ))
