use Rattle.std.proofs.Common.{sym, ap, ◌∙◌}
use Rattle.lexopt_options_spec.specs.Declaration as spec
use Rattle.lexopt_declaration.specs.Models.{words_view}
use Rattle.lexopt_runtime_options.proofs.FirstFaults.{empty_list_fault, list_fault_is}
use Rattle.lexopt_runtime_options.proofs.faults.list_fault.Goals as goal

pub returns-then-is_empty : goal.returns-then-is_empty
returns-then-is_empty c =
    sym (ap (λ w. spec.list_fault (words_view w)) c.in-Listed.is ∙ empty_list_fault c.in-Listed.values.now _ c.is_empty.ensures c.if-is_empty.true)

pub returns-then-are_listable : goal.returns-then-are_listable
returns-then-are_listable c =
    sym (ap (λ w. spec.list_fault (words_view w)) c.in-Listed.is
    ∙ list_fault_is c.in-Listed.values.now _ _ c.is_empty.ensures c.if-is_empty.false (sym c.if-are_listable.true ∙ c.are_listable.ensures))

pub returns-else-are_listable : goal.returns-else-are_listable
returns-else-are_listable c =
    sym (ap (λ w. spec.list_fault (words_view w)) c.in-Listed.is
    ∙ list_fault_is c.in-Listed.values.now _ _ c.is_empty.ensures c.if-is_empty.false (sym c.if-are_listable.false ∙ c.are_listable.ensures))
