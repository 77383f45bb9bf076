use Rattle.std.proofs.Common.{ap, refl}
use Rattle.lexopt_line_spec.specs.Table.{long, option}
use Rattle.lexopt_line_spec.specs.Speller as rows
use Rattle.lexopt_items.specs.Items.{kind_view}
use Rattle.lexopt_spell.proofs.FormRows.{formed, unformed}
use Rattle.lexopt_spell.proofs.forms.long_form.Goals as goal

pub returns-in-Flag-None : goal.returns-in-Flag-None
returns-in-Flag-None c = λ short_equals x later.
    formed short_equals later (long x) (option (long x)) _ _ _ _ c.name_only.result _ (ap kind_view c.in-Flag-None.is-0) c.in-Flag-None.is-1 c.name_only.ensures (rows.long_flag x)

pub returns-in-Flag-Some : goal.returns-in-Flag-Some
returns-in-Flag-Some c = λ short_equals x later.
    unformed short_equals (long x) (option (long x)) _ _ _ _ _ (ap kind_view c.in-Flag-Some.is-0) c.in-Flag-Some.is-1 (rows.flag_with_value (long x) _)

pub returns-in-One-None : goal.returns-in-One-None
returns-in-One-None c = λ short_equals x later.
    unformed short_equals (long x) (option (long x)) _ _ _ _ _ (ap kind_view c.in-One-None.is-0) c.in-One-None.is-1 (rows.no_value_given (long x))

pub returns-in-One-Some : goal.returns-in-One-Some
returns-in-One-Some c = λ short_equals x later.
    formed short_equals later (long x) (option (long x)) _ _ _ _ c.in_word.result _ (ap kind_view c.in-One-Some.is-0) c.in-One-Some.is-1 c.in_word.ensures (rows.long_one x _)

pub returns-in-Optional-None : goal.returns-in-Optional-None
returns-in-Optional-None c = λ short_equals x later.
    formed short_equals later (long x) (option (long x)) _ _ _ _ c.name_only-in-Optional-None.result _ (ap kind_view c.in-Optional-None.is-0) c.in-Optional-None.is-1 c.name_only-in-Optional-None.ensures (rows.left_out (long x))

pub returns-in-Optional-Some : goal.returns-in-Optional-Some
returns-in-Optional-Some c = λ short_equals x later.
    formed short_equals later (long x) (option (long x)) _ _ _ _ c.in_word-in-Optional-Some.result _ (ap kind_view c.in-Optional-Some.is-0) c.in-Optional-Some.is-1 c.in_word-in-Optional-Some.ensures (rows.long_optional x _)

pub returns-in-Several-default : goal.returns-in-Several-default
returns-in-Several-default c = λ short_equals x later.
    unformed short_equals (long x) (option (long x)) _ _ _ _ _ (ap kind_view c.in-Several-default.is-0) refl (rows.no_list (long x) _)
