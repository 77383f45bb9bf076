use Rattle.lexopt_options.proofs.Common.{ap, refl, sym, ◌∙◌, invalid_argument, positional_view, words_view}
use Rattle.lexopt_options.proofs.Accepted.{accepts_by}
use Rattle.lexopt_options.proofs.taken.refusal.Goals as goal

pub returns-then-is_listed : goal.returns-then-is_listed
returns-then-is_listed g c = accepts_by c.args.positional.now.words c.in-Listed.values c.args.word.now c.is_listed.result c.in-Listed.is (rw c.as_bytes.ensures at c.is_listed.ensures) ∙ c.if-is_listed.true

pub returns-in_ok-clone-in-Listed : goal.returns-in_ok-clone-in-Listed
returns-in_ok-clone-in-Listed g c = (
  accepts_by c.args.positional.now.words c.in-Listed.values c.args.word.now c.is_listed.result c.in-Listed.is (rw c.as_bytes.ensures at c.is_listed.ensures) ∙ c.if-is_listed.false,
  λ d i at. (i, ap (λ v. invalid_argument i v) (sym c.in_ok-clone-in-Listed.ensures.cases), (positional_view c.args.positional.now, at, refl, ap words_view c.in-Listed.is)),
)
