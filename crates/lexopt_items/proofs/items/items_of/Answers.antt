use Rattle.lexopt_base.specs.Refusals.{IsErrorOf}
use Rattle.lexopt_base.proofs.Refusals.{err_says}
use Rattle.lexopt_items.specs.Items.{FailsWith, table_view}
use Rattle.lexopt_items.proofs.ReadsItems.{err_alone, is_refused}
use Rattle.lexopt_items.proofs.items.items_of.Goals as goal

pub returns-in-Err-clause-ok : goal.returns-in-Err-clause-ok
returns-in-Err-clause-ok c = err_alone c.error_of.result (IsErrorOf c.in-Err.refusal) _ c.error_of.ensures

pub returns-in-Err-clause-err : goal.returns-in-Err-clause-err
returns-in-Err-clause-err c =
    err_says c.error_of.result (IsErrorOf c.in-Err.refusal) (FailsWith (table_view c.args.table.now) c.args.parser.now) c.error_of.ensures
    (λ e is. is_refused (table_view c.args.table.now) c.args.parser.now c.in-Err.refusal e c.in-Err.ensures.err is)
