use Rattle.std.proofs.Common.{sym, ◌∙◌, true≢false}
use Rattle.lexopt_line_spec.proofs.SpellerTests.{all_plain, all_pass}
use Rattle.lexopt_spell.proofs.forms.words_form.Goals as goal

pub returns-then-not-all_plain-clause-not_plain : goal.returns-then-not-all_plain-clause-not_plain
returns-then-not-all_plain-clause-not_plain c = λ all. true≢false (sym (all_pass c.args.values.now all) ∙ sym c.all_plain.ensures ∙ c.if-not-all_plain.true)

pub returns-clause-plain : goal.returns-clause-plain
returns-clause-plain c = all_plain c.args.values.now (sym c.all_plain.ensures ∙ c.if-not-all_plain.false)
