use Rattle.std.proofs.Common.{ap, refl}
use Rattle.lexopt_line_spec.specs.Table.{short, option}
use Rattle.lexopt_line_spec.specs.Spelling.{nothing}
use Rattle.lexopt_line_spec.specs.Speller as rows
use Rattle.lexopt_items.specs.Items.{kind_view}
use Rattle.lexopt_spell.specs.declared.forms.After.TheVariants.{Nothing}
use Rattle.lexopt_spell.specs.declared.forms.Place.TheVariants.{Open}
use Rattle.lexopt_spell.proofs.FormRows.{formed, unformed, form_at}
use Rattle.lexopt_spell.proofs.forms.short_form.Goals as goal

pub returns-in-Flag-None : goal.returns-in-Flag-None
returns-in-Flag-None c = λ x later.
    formed c.args.short_equals later (short x) (option (short x)) _ _ _ _ c.name_only.result _ (ap kind_view c.in-Flag-None.is-0) c.in-Flag-None.is-1 c.name_only.ensures (rows.short_flag x)

pub returns-in-Flag-Some : goal.returns-in-Flag-Some
returns-in-Flag-Some c = λ x later.
    unformed c.args.short_equals (short x) (option (short x)) _ _ _ _ _ (ap kind_view c.in-Flag-Some.is-0) c.in-Flag-Some.is-1 (rows.flag_with_value (short x) _)

pub returns-in-One-None : goal.returns-in-One-None
returns-in-One-None c = λ x later.
    unformed c.args.short_equals (short x) (option (short x)) _ _ _ _ _ (ap kind_view c.in-One-None.is-0) c.in-One-None.is-1 (rows.no_value_given (short x))

pub returns-in-One-Some : goal.returns-in-One-Some
returns-in-One-Some c = λ x later.
    formed c.args.short_equals later (short x) (option (short x)) _ _ _ _ (record { after = Nothing; words = c.from_ref.result; place = Open }) _ (ap kind_view c.in-One-Some.is-0) c.in-One-Some.is-1 (ap (λ ws. record { after = nothing; words = ws; place = rows.open_line }) c.from_ref.ensures.value) (rows.short_one x _)

pub returns-in-Optional-None : goal.returns-in-Optional-None
returns-in-Optional-None c = λ x later.
    formed c.args.short_equals later (short x) (option (short x)) _ _ _ _ c.name_only-in-Optional-None.result _ (ap kind_view c.in-Optional-None.is-0) c.in-Optional-None.is-1 c.name_only-in-Optional-None.ensures (rows.left_out (short x))

pub returns-in-Optional-Some : goal.returns-in-Optional-Some
returns-in-Optional-Some c = λ x later.
    form_at c.args.short_equals later (short x) (option (short x)) _ _ _ _ _ (ap kind_view c.in-Optional-Some.is-0) c.in-Optional-Some.is-1 (c.attached_form.ensures x later)

pub returns-in-Several-default : goal.returns-in-Several-default
returns-in-Several-default c = λ x later.
    unformed c.args.short_equals (short x) (option (short x)) _ _ _ _ _ (ap kind_view c.in-Several-default.is-0) refl (rows.no_list (short x) _)
