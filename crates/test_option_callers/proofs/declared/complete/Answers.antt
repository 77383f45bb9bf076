use Rattle.std.proofs.Common.{◌≡◌, subst, map, string_bytes}
use Rattle.std.proofs.lemmas.Result.{IfOk-weaker}
use Rattle.lexopt_options_spec.specs.Declaration.{Declaration}
use Rattle.lexopt_options_spec.specs.Completion.{AreOwnersIn, HasRole, IsJoined, offered_values}
use Rattle.lexopt_declaration.specs.Models.{spelling_view}
use Rattle.lexopt_options.specs.Declarations.{options_of}
use Rattle.lexopt_options.specs.Completions.{AreOffered}
use Rattle.test_option_callers.proofs.Completed.{in_order, same_joined, same_role}
use Rattle.test_option_callers.proofs.declared.complete.Goals as goal

pub returns-clause-sound : goal.returns-clause-sound
returns-clause-sound c =
    IfOk-weaker c.complete.result _ _ (λ done is. (subst (λ (d : Declaration). AreOffered d c.args.words.items c.args.typed.now (map spelling_view done.spellings.items)) c.new.ensures.declaration is.spellings).sound)
    c.complete.ensures

pub returns-clause-complete : goal.returns-clause-complete
returns-clause-complete c =
    IfOk-weaker c.complete.result _ _ (λ done is. (subst (λ (d : Declaration). AreOffered d c.args.words.items c.args.typed.now (map spelling_view done.spellings.items)) c.new.ensures.declaration is.spellings).complete)
    c.complete.ensures

pub returns-clause-in_order : goal.returns-clause-in_order
returns-clause-in_order c =
    IfOk-weaker c.complete.result _ _ (λ done is. in_order c.args.words.items c.args.typed.now _ (subst (λ (d : Declaration). AreOffered d c.args.words.items c.args.typed.now (map spelling_view done.spellings.items)) c.new.ensures.declaration is.spellings))
    c.complete.ensures

pub returns-clause-word : goal.returns-clause-word
returns-clause-word c =
    IfOk-weaker c.complete.result _ _ (λ done is. (is.role, subst (λ (d : Declaration). HasRole d c.args.words.items c.args.typed.now is.role) c.new.ensures.declaration is.has_role, same_role (options_of c.new.result) is.role done.word is.word))
    c.complete.ensures

pub returns-clause-joined : goal.returns-clause-joined
returns-clause-joined c =
    IfOk-weaker c.complete.result _ _ (λ done is. (is.with_value, subst (λ (d : Declaration). IsJoined d c.args.words.items c.args.typed.now is.with_value) c.new.ensures.declaration is.is_joined, same_joined (options_of c.new.result) is.with_value done.joined is.joined))
    c.complete.ensures

pub returns-clause-arguments : goal.returns-clause-arguments
returns-clause-arguments c =
    IfOk-weaker c.complete.result _ _ (λ done is. (
      is.role,
      subst (λ (d : Declaration). HasRole d c.args.words.items c.args.typed.now is.role) c.new.ensures.declaration is.has_role,
      subst (λ (d : Declaration). AreOwnersIn d.positionals is.role done.arguments.items) c.new.ensures.declaration is.arguments,
    )) c.complete.ensures

pub returns-clause-values : goal.returns-clause-values
returns-clause-values c =
    IfOk-weaker c.complete.result _ _ (λ done is. (
      is.role,
      done.arguments.items,
      is.with_value,
      subst (λ (d : Declaration). HasRole d c.args.words.items c.args.typed.now is.role) c.new.ensures.declaration is.has_role,
      subst (λ (d : Declaration). AreOwnersIn d.positionals is.role done.arguments.items) c.new.ensures.declaration is.arguments,
      subst (λ (d : Declaration). IsJoined d c.args.words.items c.args.typed.now is.with_value) c.new.ensures.declaration is.is_joined,
      subst (λ (d : Declaration). map string_bytes done.values.items ≡ offered_values d c.args.typed.now is.role done.arguments.items is.with_value) c.new.ensures.declaration is.values,
    )) c.complete.ensures
