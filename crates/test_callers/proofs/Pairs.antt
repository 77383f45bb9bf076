-- Two replies of two calls.
use Rattle.std.proofs.Common.{◌≡◌, List, [], ◌∷◌, ◌++◌, map, Option, Some, ap, subst, ◌∙◌}
use Rattle.std.specs.Option.{option_to_list}
use Rattle.lexopt_spec.specs.UnreadLine.{UnreadLine}
use Rattle.lexopt_spec.specs.Runs.{Call, Run}
use Rattle.lexopt_calls.specs.declared.reply.Reply.{Reply}
use Rattle.lexopt_calls.specs.Replies.{reply_view}

no_others : (u v : UnreadLine) (a b : Call) (front : List Reply) (x y : Reply) → Run u (a ∷ b ∷ []) (map reply_view ((front ++ x ∷ []) ++ y ∷ [])) v
    → Run u (a ∷ b ∷ []) (reply_view x ∷ reply_view y ∷ []) v
no_others u v a b [] x y run = run
no_others u v a b (z ∷ []) x y run = absurd run.2.2
no_others u v a b (z ∷ w ∷ []) x y run = absurd run.2.2
no_others u v a b (z ∷ w ∷ q ∷ front) x y run = absurd run.2.2

-- two calls have two replies: the last and the one before it
pub two_replies : (u v : UnreadLine) (a b : Call) (front before replies : List Reply) (first last : Option Reply) (x y : Reply)
    → Run u (a ∷ b ∷ []) (map reply_view replies) v → replies ≡ before ++ option_to_list last → before ≡ front ++ option_to_list first
    → first ≡ Some x → last ≡ Some y → Run u (a ∷ b ∷ []) (reply_view x ∷ reply_view y ∷ []) v
two_replies u v a b front before replies first last x y run after at is_first is_last =
    no_others u v a b front x y
    (subst (λ (l : List Reply). Run u (a ∷ b ∷ []) (map reply_view l) v)
    (after ∙ ap (λ o. before ++ option_to_list o) is_last ∙ ap (λ l. l ++ y ∷ []) (at ∙ ap (λ o. front ++ option_to_list o) is_first)) run)
