use Rattle.std.proofs.Common.{Bool, map, option_map, Some, None, if◌then◌else◌, sym, ap, ◌∙◌}
use Rattle.lexopt_line_spec.proofs.Lists.{list_any-map}
use Rattle.lexopt_line_spec.specs.Table.{Kind}
use Rattle.lexopt_options_spec.specs.Declaration as spec
use Rattle.lexopt_options_spec.proofs.FaultLemmas.{fault_is}
use Rattle.lexopt_declaration.specs.Models.{arity_placeholder, kind_of, option_view}
use Rattle.lexopt_runtime_options.specs.Faults.{reason_view}
use Rattle.lexopt_runtime_options.proofs.faults.fault.Goals as goal

pub returns-then-any_shares_name : goal.returns-then-any_shares_name
returns-then-any_shares_name g c =
    fault_is (map option_view c.args.before.now) (option_view c.args.option.now) None None None None None None (Some spec.same_name)
    (sym (ap (option_map reason_view) c.in_default.is) ∙ c.all_names_fault.ensures)
    (sym (ap (option_map reason_view) c.in_default-placeholder_fault.is) ∙ c.placeholder_fault.ensures
    ∙ ap (λ (k : Kind). spec.placeholder_fault k (arity_placeholder c.arity.result)) c.arity.ensures.kind ∙ ap (spec.placeholder_fault (kind_of c.args.option.now.kind)) c.arity.ensures.placeholder)
    (sym (ap (option_map reason_view) c.in_default-list_fault.is) ∙ c.list_fault.ensures)
    (sym (ap (option_map reason_view) c.in_default-default_fault.is) ∙ c.default_fault.ensures)
    (sym (ap (option_map reason_view) c.in_default-label_fault.is) ∙ c.label_fault.ensures)
    (sym (ap (option_map reason_view) c.in_default-exclusive_fault.is) ∙ c.exclusive_fault.ensures)
    (ap (λ (b : Bool). if b then Some spec.same_name else None) (sym c.if-any_shares_name.true ∙ c.any_shares_name.ensures
    ∙ sym (list_any-map option_view (spec.shares_name (option_view c.args.option.now)) c.args.before.now)))

pub returns : goal.returns
returns g c =
    fault_is (map option_view c.args.before.now) (option_view c.args.option.now) None None None None None None None
    (sym (ap (option_map reason_view) c.in_default.is) ∙ c.all_names_fault.ensures)
    (sym (ap (option_map reason_view) c.in_default-placeholder_fault.is) ∙ c.placeholder_fault.ensures
    ∙ ap (λ (k : Kind). spec.placeholder_fault k (arity_placeholder c.arity.result)) c.arity.ensures.kind ∙ ap (spec.placeholder_fault (kind_of c.args.option.now.kind)) c.arity.ensures.placeholder)
    (sym (ap (option_map reason_view) c.in_default-list_fault.is) ∙ c.list_fault.ensures)
    (sym (ap (option_map reason_view) c.in_default-default_fault.is) ∙ c.default_fault.ensures)
    (sym (ap (option_map reason_view) c.in_default-label_fault.is) ∙ c.label_fault.ensures)
    (sym (ap (option_map reason_view) c.in_default-exclusive_fault.is) ∙ c.exclusive_fault.ensures)
    (ap (λ (b : Bool). if b then Some spec.same_name else None) (sym c.if-any_shares_name.false ∙ c.any_shares_name.ensures
    ∙ sym (list_any-map option_view (spec.shares_name (option_view c.args.option.now)) c.args.before.now)))
