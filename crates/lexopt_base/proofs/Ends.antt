-- The clause of `next` about the line after it, from the line that is known in the proof.
use Rattle.std.proofs.Common.{◌≡◌, None, Some, refl, sym, subst}
use Rattle.std.specs.Prelude.{Result, Option, ⊤}
use Rattle.std.specs.Borrow.{MutBor}
use mathlib.Core.List.{[], ◌∷◌}
use seplogic.Ra.Ura.{Ura}
use base.Logic.{ent, ex, sep, emp}
use contract.Monad.{fact, fact_i}
use base.Fml.{fres}
use types.Logic.{Logic, sem}
use types.Kit.{‵, raw, ◌$◌, ◌∵◌, !, qed, done, fpack, fpick, show, use0}
use denote.Follow.{such_by, follows_by}
use Rattle.lexopt_spec.specs.UnreadLine.{UnreadLine}
use Rattle.lexopt_spec.specs.Steps.{Reply, Next}
use Rattle.lexopt_base.specs.Replies.{RepliesWith, next_reply}
use Rattle.lexopt_base.specs.Ends.{LineAfterNext}
use Rattle.lexopt_words.specs.declared.error.Arg.{Arg}
use Rattle.lexopt_words.specs.declared.error.Error.{Error}
use Rattle.lexopt_base.specs.contracts.parser.Parser.{the_row as R}

-- the reply of what was found is the reply of what is lent
pub told_of : (u w : UnreadLine) (found said : Option Reply) → RepliesWith Next u found w → ((reply : Reply) → found ≡ Some reply → said ≡ Some reply) → RepliesWith Next u said w
told_of u w None said gives same = absurd gives
told_of u w (Some reply) said gives same = subst (λ (t : Option Reply). RepliesWith Next u t w) (sym (same reply refl)) gives

module _ {M : Type 1} {𝓤 : Ura M} (𝓛 : Logic 𝓤) (s : MutBor UnreadLine) (r : Result (Option Arg) Error) where
  pub ends_after : (w : UnreadLine) → RepliesWith Next s.now (next_reply r) w → ent 𝓤 (sem 𝓛 (fres s.ghost_name (R.coded.code w))) (sem 𝓛 (LineAfterNext s r))
  unfolding such_by follows_by
  ends_after w step =
      qed 𝓛 (‵ (fres s.ghost_name (R.coded.code w)) ∷ []) ∵
      fpack ! ((p : (UnreadLine → UnreadLine) × UnreadLine) × ((z : UnreadLine) → ⊤) × RepliesWith Next s.now (next_reply r) p.1) (λ p. fres s.ghost_name (R.coded.code p.0.1)) (((λ z. w), w), (λ z. tt), step) $ done !

  pub ends_said : ent 𝓤 (sem 𝓛 (LineAfterNext s r)) (ex 𝓤 (λ (v : UnreadLine). sep 𝓤 (fact 𝓤 (RepliesWith Next s.now (next_reply r) v)) (sem 𝓛 (fres s.ghost_name (R.coded.code v)))))
  unfolding such_by follows_by
  ends_said =
      qed 𝓛 (‵ (LineAfterNext s r) ∷ []) ∵ fpick ! (λ p.
      show ! (λ (v : UnreadLine). sep 𝓤 (fact 𝓤 (RepliesWith Next s.now (next_reply r) v)) (sem 𝓛 (fres s.ghost_name (R.coded.code v)))) p.0.1 $
      use0 𝓛 (raw (fact 𝓤 (RepliesWith Next s.now (next_reply r) p.0.1))) (fact_i 𝓤 (RepliesWith Next s.now (next_reply r) p.0.1) (emp 𝓤) p.2) $ done !)
