use Rattle.std.proofs.Common.{◌≡◌, ◌∙◌, Ok, Err, sym, ap}
use Rattle.lexopt_line_spec.specs.Table.{long, short}
use Rattle.lexopt_options_spec.specs.Declaration.{index_of}
use Rattle.lexopt_base.specs.declared.parser.Found.TheVariants as found
use Rattle.lexopt_base.specs.declared.refusal.Refusal.TheVariants as refused
use Rattle.lexopt_base.proofs.Refusals.{named}
use Rattle.lexopt_options.specs.Declarations.{declaration_of}
use Rattle.lexopt_options.proofs.ReadNext.{answered, never_missing, undeclared_long}
use Rattle.lexopt_options.proofs.read.read_next.Goals as goal

pub returns-in-Some : goal.returns-in-Some
returns-in-Some g c =
    let is : c.advance.result ≡ Ok (found.Short c.in-Ok-Short.option) = c.in-Ok-Short.is ∙ ap Ok c.in-Ok-Short.field-0-is in
    (short c.in-Ok-Short.option, answered _ _ _ _ c.advance.ensures is, sym (ap (λ os. index_of os (short c.in-Ok-Short.option)) c.options.ensures.view) ∙ sym c.index_of_short.ensures ∙ c.in-Some.is)

pub returns-in-Some-index_of_long : goal.returns-in-Some-index_of_long
returns-in-Some-index_of_long g c =
    let is : c.advance.result ≡ Ok found.Long = c.in-Ok-Long.is ∙ ap Ok c.in-Ok-Long.field-0-is in
    let step = named _ _ c.long_name.result.now (answered _ _ _ _ c.advance.ensures is) c.long_name.ensures in
    (long c.long_name.result.now, step, sym (ap (λ os. index_of os (long c.long_name.result.now)) c.options-in-Ok-Long.ensures.view) ∙ sym c.index_of_long.ensures ∙ c.in-Some-index_of_long.is)

pub returns-in-None : goal.returns-in-None
returns-in-None g c =
    let is : c.advance.result ≡ Ok (found.Short c.in-Ok-Short.option) = c.in-Ok-Short.is ∙ ap Ok c.in-Ok-Short.field-0-is in
    (answered _ _ _ _ c.advance.ensures is, sym (ap (λ os. index_of os (short c.in-Ok-Short.option)) c.options.ensures.view) ∙ sym c.index_of_short.ensures ∙ c.in-None.is)

pub returns-in-None-index_of_long : goal.returns-in-None-index_of_long
returns-in-None-index_of_long g c =
    let is : c.advance.result ≡ Ok found.Long = c.in-Ok-Long.is ∙ ap Ok c.in-Ok-Long.field-0-is in
    undeclared_long (declaration_of c.args.options.now) _ _ c.long_name.result.now (answered _ _ _ _ c.advance.ensures is) c.long_name.ensures
    (sym (ap (λ os. index_of os (long c.long_name.result.now)) c.options-in-Ok-Long.ensures.view) ∙ sym c.index_of_long.ensures ∙ c.in-None-index_of_long.is)

pub returns-in-Ok-Value : goal.returns-in-Ok-Value
returns-in-Ok-Value g c =
    let is : c.advance.result ≡ Ok (found.Value c.in-Ok-Value.word) = c.in-Ok-Value.is ∙ ap Ok c.in-Ok-Value.field-0-is in
    answered _ _ _ _ c.advance.ensures is

pub returns-in-Ok-End : goal.returns-in-Ok-End
returns-in-Ok-End g c =
    let is : c.advance.result ≡ Ok found.End = c.in-Ok-End.is ∙ ap Ok c.in-Ok-End.field-0-is in
    answered _ _ _ _ c.advance.ensures is

pub returns-in-UnexpectedValue : goal.returns-in-UnexpectedValue
returns-in-UnexpectedValue g c =
    let is : c.advance.result ≡ Err (refused.UnexpectedValue c.in-UnexpectedValue.option c.in-UnexpectedValue.value) = c.in-Err.is ∙ ap Err c.in-UnexpectedValue.is in
    answered _ _ _ _ c.advance.ensures is

pub unreachable-requires : goal.unreachable-requires
unreachable-requires g c =
    let is : c.advance.result ≡ Err (refused.MissingValue c.in-MissingValue.field-0) = c.in-Err.is ∙ ap Err c.in-MissingValue.is in
    never_missing c.args.parser.now c.advance.new.self c.in-MissingValue.field-0 (answered _ _ _ _ c.advance.ensures is)
