use Rattle.std.proofs.Common.{refl, inl}
use Rattle.lexopt_spec.specs.Runs.{value}
use Rattle.lexopt_line_spec.specs.Table.{one}
use Rattle.lexopt_base.proofs.Refusals.{handed_on}
use Rattle.lexopt_items.proofs.ReadsItems.{several_refused, value_refused}
use Rattle.lexopt_items.proofs.values.read_values.Goals as goal

pub returns-in_err-word-in-One-clause-err : goal.returns-in_err-word-in-One-clause-err
returns-in_err-word-in-One-clause-err c =
    handed_on c.from_residual.result c.in_err-word-in-One.field-0.0 _ c.from_residual.ensures.1
    (rw c.in-One.is (value_refused one c.args.parser.now c.take.new.self c.in_err-word-in-One.field-0.0 value refl c.in_err-word-in-One.ensures))

pub returns-in_ok-word-in-One-clause-ok : goal.returns-in_ok-word-in-One-clause-ok
returns-in_ok-word-in-One-clause-ok c = rw c.in-One.is c.in_ok-word-in-One.ensures

pub returns-in-Optional-clause-ok : goal.returns-in-Optional-clause-ok
returns-in-Optional-clause-ok c = rw c.in-Optional.is (inl c.optional_value.ensures)

pub returns-in_err-read_several-in-Several-clause-err : goal.returns-in_err-read_several-in-Several-clause-err
returns-in_err-read_several-in-Several-clause-err c =
    handed_on c.from_residual-in_err-read_several-in-Several.result c.in_err-read_several-in-Several.field-0.0 _ c.from_residual-in_err-read_several-in-Several.ensures.1
    (rw c.in-Several.is (several_refused c.args.parser.now c.read_several.new.parser c.in_err-read_several-in-Several.field-0.0 c.in_err-read_several-in-Several.ensures.err))
