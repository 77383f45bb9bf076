use Rattle.lexopt_options.proofs.Common.{◌++◌, ap, subst, sym, ◌∙◌, IsUtf8, append_cancel_right}
use Rattle.std.proofs.lemmas.Bool.Decides.{Decides-eqb}
use Rattle.std.proofs.lemmas.Slice.Eq.{strip_suffix_is}
use Rattle.lexopt_options.proofs.complete.text_before.Goals as goal

pub returns-in_ok-from_str-in-Ok : goal.returns-in_ok-from_str-in-Ok
returns-in_ok-from_str-in-Ok c =
    let apart = strip_suffix_is Decides-eqb c.args.word.now c.args.value.now c.strip_suffix.result c.strip_suffix.ensures.cases in
    let word = rw c.in-Some.is at apart in
    let same = c.in_ok-from_str-in-Ok.ensures.ok ∙ c.in-Ok.ensures.cases.0 in
    (subst IsUtf8 (sym same) c.in-Ok.ensures.cases.1, word ∙ ap (λ b. b ++ c.args.value.now) (sym same))

pub returns-in-Err : goal.returns-in-Err
returns-in-Err c = λ before utf8 is.
    let apart = strip_suffix_is Decides-eqb c.args.word.now c.args.value.now c.strip_suffix.result c.strip_suffix.ensures.cases in
    let word = rw c.in-Some.is at apart in
    c.in-Err.ensures.cases.0 (subst IsUtf8 (append_cancel_right before c.in-Some.before.now c.args.value.now (sym is ∙ word)) utf8)

pub returns-in-None : goal.returns-in-None
returns-in-None c = λ before utf8 is.
    let apart = strip_suffix_is Decides-eqb c.args.word.now c.args.value.now c.strip_suffix.result c.strip_suffix.ensures.cases in
    (rw c.in-None.is at apart) before is
