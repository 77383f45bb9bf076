-- Replies that steps give, as results of calls.
use Rattle.std.proofs.Common.{◌≡◌, Option, Some, None, IsSome, Result, Ok, Err, IfOk, refl, sym, subst, ◌∙◌}
use Rattle.std.specs.declared.alloc.AllocError.{AllocError}
use Rattle.lexopt_spec.specs.UnreadLine.{UnreadLine}
use Rattle.lexopt_spec.specs.Steps.{Reply}
use Rattle.lexopt_base.specs.Replies.{RepliesWith}
use Rattle.lexopt_calls.specs.declared.reply.Reply as replies
use Rattle.lexopt_calls.specs.Replies.{reply_view}

-- a call gives some reply
pub given : (Answers : UnreadLine → Reply → UnreadLine → Type 0) (u : UnreadLine) (reply : Option Reply) (after : UnreadLine)
    → RepliesWith Answers u reply after → (r : Reply) × Answers u r after × (reply ≡ Some r)
given Answers u None after h = absurd h
given Answers u (Some r) after h = (r, h, refl)

pub some_reply : (Answers : UnreadLine → Reply → UnreadLine → Type 0) (u : UnreadLine) (reply : Option Reply) (after : UnreadLine)
    → RepliesWith Answers u reply after → IsSome reply
some_reply Answers u None after h = absurd h
some_reply Answers u (Some r) after h = refl

-- the reply for a refusal is the one that the call gave
pub refusal_given : (Answers : UnreadLine → Reply → UnreadLine → Type 0) (u : UnreadLine) (reply : Option Reply) (r : Reply) (after : UnreadLine)
    → RepliesWith Answers u reply after → reply ≡ Some r → Answers u r after
refusal_given Answers u reply r after h is = subst (λ (o : Option Reply). RepliesWith Answers u o after) is h

-- the copy of a reply is equal to it
pub copied : (copy : Result replies.Reply AllocError) (reply : Option Reply) (r : Reply) → reply ≡ Some r → IfOk copy (λ x. reply ≡ Some (reply_view x))
    → IfOk copy (λ x. reply_view x ≡ r)
copied (Ok x) reply r is same = let e : Some (reply_view x) ≡ Some r = sym same ∙ is in cc
copied (Err e) reply r is same = tt

-- all items were asked for, so the whole call was made
pub all_told : {X E : Type 0} (answer : Result X E) (P Q : Type 0) (R : X → Type 0) → (P → Q) → IfOk answer (λ x. P × R x) → IfOk answer (λ x. Q × R x)
all_told (Ok x) P Q R more told = (more told.0, told.1)
all_told (Err e) P Q R more told = tt

-- a fact can be added to a clause about a result
pub told_also : {X E : Type 0} (answer : Result X E) (Q : Type 0) (R : X → Type 0) → Q → IfOk answer R → IfOk answer (λ x. Q × R x)
told_also (Ok x) Q R holds told = (holds, told)
told_also (Err e) Q R holds told = tt
