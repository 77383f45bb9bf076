-- `call_next` lends the parser to `next` for a new lifetime, copies the reply while that lasts, and
-- ends it. So the parser has the line that the clause of `next` states.
use Rattle.std.proofs.Common.{◌≡◌, ℕ, Some, refl}
use Rattle.std.specs.Prelude.{IfOk, IsSome}
use Rattle.std.proofs.raw_atomic.Walks.{proved}
use mathlib.Core.List.{List, [], ◌∷◌}
use base.Fraction.{full_share}
use base.Logic.{id⊢, emp}
use base.Fml.{ftrue, flft, fres}
use mir.Syntax.{named}
use contract.Monad.{fact, fact_i}
use contract.Running.{tables}
use types.Kit.{‵, raw, ◌⊛◌, some, later, ◌$◌, ◌∵◌, !, qed, done, move, keep, drop, use0, use1, use2, use3, split, join, pick, await, suffices}
use types.Tokens.{lft_new, lft_end}
use types.Run.{enter, of_opd, addr, stop, no_more, and_then, returns}
use types.ByLocal.{alloc_all, pass_all, free_all, look_at, get, through, sets, lands_as}
use denote.RattleType.{RattleType}
use denote.Exit.{yes}
use denote.Laws.{Is, shows}
use denote.Param.Laws.{Laws}
use denote.Ref.{MutBor, MutRef, mut_vals, mut_Tells}
use denote.Signature.{plain, named_lft}
use denote.Steps.{nothing, heard, peeks}
use denote.Lend.{lends_again, comes_back, LentAgain}
use denote.Struct.Laws.{val, tells}
use denote.Triple.Call.{calls_at}
use denote.Triple.Clauses.{lasts, Lasts}
use denote.Triple.Spec.{triple_of}
use denote.Triple.Table.{framed}
use denote.Triple.Walked.{Stays, stay_dropped, stay_ref, Goes-dropped, Goes-ref, ends_at, says}
use Rattle.std.specs.contracts.result.Result as Result-type
use Rattle.std.specs.contracts.option.Option as Option-type
use Rattle.std.specs.contracts.alloc.Global as Global-type
use Rattle.std.specs.contracts.alloc.AllocError as AllocError-type
use Rattle.std.proofs.result.Result.TheLaws as Result-laws
use Rattle.std.proofs.option.Option.TheLaws as Option-laws
use Rattle.std.proofs.alloc.Global.TheLaws as Global-laws
use Rattle.std.proofs.alloc.AllocError.TheLaws as AllocError-laws
use Rattle.lexopt_base.specs.contracts.parser.Parser.{the_row as R}
use Rattle.lexopt_words.specs.contracts.error.Arg as Arg-type
use Rattle.lexopt_words.specs.contracts.error.Error as Error-type
use Rattle.lexopt_words.proofs.error.Arg.TheLaws as Arg-laws
use Rattle.lexopt_words.proofs.error.Error.TheLaws as Error-laws
use Rattle.lexopt_spec.specs.UnreadLine.{UnreadLine}
use Rattle.lexopt_spec.specs.Steps.{Next}
use Rattle.lexopt_base.specs.Replies.{IsReplyOfNext, RepliesWith, next_reply}
use Rattle.lexopt_base.specs.Ends.{LineAfterNext}
use Rattle.lexopt_base.proofs.Ends.{ends_said}
use Rattle.lexopt_base.specs.contracts.parser.Parser.next as next
use Rattle.lexopt_base.proofs.parser.Parser.next.Met.{met as next_met}
use Rattle.lexopt_calls.specs.Replies.{reply_view}
use Rattle.lexopt_calls.specs.contracts.reply.Reply as Reply-type
use Rattle.lexopt_calls.proofs.reply.Reply.TheLaws as Reply-laws
use Rattle.lexopt_calls.proofs.StepReplies.{copied as copied_reply, given, some_reply}
use Rattle.lexopt_calls.specs.contracts.replay.copy_reply as copied
use Rattle.lexopt_calls.proofs.replay.copy_reply.Met.{met as copied_met}
use Rattle.lexopt_calls.specs.contracts.replay.call_next as f
use Rattle.lexopt_calls.proofs.replay.call_next.Statement.{statement}
use Rattle.lexopt_calls.proofs.replay.call_next.Code as code

abbrev Al : RattleType
Al = Global-type.the_row

abbrev stayed : Stays f.ended.signature.params f.ended.kept
stayed = (stay_dropped (plain (λ _. Al)) yes, (stay_ref (0 ∷ []) tt (plain (λ _. R)), tt))

-- the result type of `call_next`
abbrev Tr : RattleType
Tr = Result-type.the_row Reply-type.the_row AllocError-type.the_row

Tr-laws : Laws Tr
Tr-laws = Result-laws.the_row_laws Reply-type.the_row AllocError-type.the_row Reply-laws.the_row_laws AllocError-laws.the_row_laws

pub call_next_spec : {M : Type 1} → statement M
call_next_spec 𝓤 𝓛 𝓜 𝓡 wired =
    let c = f.clauses 𝓛 𝓜.mem 𝓡.returns in
    let al_val = λ (x : Al.Denot). val Global-type.the_type Global-laws.the_laws x in
    proved 𝓛 f.ended stayed c 𝓜 𝓡 (Goes-dropped 𝓛 1 (plain (λ _. Al)) yes (λ κs x w. refl), (Goes-ref 𝓛 1 0 tt (plain (λ _. R)), tt))
    f.Key.name code.function (code.unfolded 𝓤 𝓛.H 𝓜 𝓡 wired)
    (λ κs. ((λ x. al_val x ∷ []), (mut_vals, tt))) (λ κs. (tells Global-type.the_type Global-laws.the_laws, (mut_Tells (named 0) κs.0 R, tt))) (λ κs qs bounds a _ are.
    let κ = κs.0 in let q = qs.0 in let al = a.0 in let va = al_val al in
    let r = a.1.0 in let b = r.ref_ptr.0 in let o = r.ref_ptr.1 in let γ = r.ghost_name in let vs = mut_vals r in
    let Ref = λ (κ' : List ℕ) (x : MutBor UnreadLine). (MutRef (named 0) κ' R).own_val x vs in
    let typed_al = ((Global-laws.the_row_laws.lawful 𝓛).typed al (va ∷ []) are.0).0 in
    qed 𝓛 (((‵ (flft κ q) ⊛ ‵ ftrue) ⊛ (‵ (Al.own_val al (va ∷ [])) ⊛ (‵ (Ref κ r) ⊛ ‵ ftrue))) ∷ ‵ ftrue ∷ []) ∵
    split ! $ split ! $ move ! (2 ∷ []) $ split ! $ move ! (1 ∷ []) $ split ! $ keep ! (0 ∷ 2 ∷ 3 ∷ []) $
    enter ! _ _ _ _ _ $ alloc_all ! (λ l. pass_all ! refl (typed_al, ((tt, tt), tt)) $
    -- [the parser; the allocator; the token of κ]
    sets ! (addr ! (through ! refl (stop !))) refl (tt, tt) $
    lft_new ! tt (λ α. move ! (1 ∷ 3 ∷ []) $
    use2 𝓛 (later (some (λ (δ : ℕ). ‵ (Ref (α ∷ []) (record r { ghost_name = δ })) ⊛ ‵ (LentAgain R κ (α ∷ []) q γ b o δ r.now))))
    (lends_again 𝓛 R (named 0) κ (α ∷ []) q γ b o (named 0) r.now) $ await ! tt $ pick ! (λ δ. split ! $
    -- [the loan; what the lender keeps; the token of α; the allocator]
    let lent : MutBor UnreadLine = record r { ghost_name = δ } in
    let N = triple_of 𝓛 next.signature (next.spec 𝓛 𝓜.mem 𝓡.returns) in
    let z : N.Ghost = (((α ∷ [], tt), (full_share, tt), tt, (lent, tt), (vs, tt)), tt) in
    let Or : RattleType = Result-type.the_row (Option-type.the_row (Arg-type.the_row (named_lft 1 0 tt (α ∷ [], tt)))) Error-type.the_row in
    let Or-laws : Laws Or = Result-laws.the_row_laws (Option-type.the_row (Arg-type.the_row (named_lft 1 0 tt (α ∷ [], tt)))) Error-type.the_row
    (Option-laws.the_row_laws (Arg-type.the_row (named_lft 1 0 tt (α ∷ [], tt))) (Arg-laws.the_row_laws (named_lft 1 0 tt (α ∷ [], tt)))) Error-laws.the_row_laws in
    nothing ! $ move ! (1 ∷ 0 ∷ []) $ join ! $ nothing ! $ move ! (3 ∷ 0 ∷ []) $ join ! $ join ! $
    nothing ! $ move ! (1 ∷ 0 ∷ []) $ use2 𝓛 (raw (N.pre z)) (id⊢ 𝓤 _) $
    calls_at ! (framed 𝓤 𝓛.H 𝓜 (tables 𝓤 𝓛.H 𝓜 𝓡 𝓡.env)) N (next_met 𝓤 𝓛 𝓜 𝓡 (code.calls-lexopt_base::parser::Parser::next 𝓡.env wired)) z
    (and_then ! (get ! refl) (no_more !)) (λ u.
    use1 𝓛 (later (some (λ (y : Or.Denot). ((‵ (flft (α ∷ []) full_share) ⊛ ‵ ftrue) ⊛ ‵ (Or.own_val y (u ∷ []))) ⊛
    some (λ (ws : Lasts next.ended z.0.0 z.0.3). ‵ (lasts next.ended z.0.0 z.0.3 ws) ⊛ (‵ (LineAfterNext lent y) ⊛ raw (fact 𝓤 (IsReplyOfNext r.now (next_reply y)))))))) (id⊢ 𝓤 _) $
    await ! tt $ pick ! (λ y. split ! $ split ! $ split ! $ move ! (2 ∷ []) $
    -- [the reply; the token of α; nothing; the rest; what the lender keeps; the allocator]
    move ! (3 ∷ []) $ pick ! (λ ws. split ! $ drop ! $ split ! $ move ! (1 ∷ []) $ heard ! _ (λ can.
    -- [what `next` ensures; the reply; the token of α; nothing; what the lender keeps; the
    -- allocator]
    move ! (1 ∷ []) $ peeks ! Or (Is Or) (shows 𝓛 Or) y (u ∷ []) (λ is.
    let typed = ((Or-laws.lawful 𝓛).typed y (u ∷ []) is).0 in
    lands_as ! refl refl typed $ sets ! (of_opd ! (get ! refl)) refl typed $
    let C = triple_of 𝓛 copied.signature (copied.spec 𝓛 𝓜.mem 𝓡.returns) in
    let zc : C.Ghost = (((α ∷ [], tt), (full_share, tt), tt, (al, (y, tt)), (va ∷ [], (u ∷ [], tt))), tt) in
    let Asked = IsSome (next_reply y) in
    -- [the reply; what `next` ensures; the token of α; nothing; what the lender keeps; the
    -- allocator]
    nothing ! $ move ! (1 ∷ 0 ∷ []) $ join ! $ move ! (5 ∷ 0 ∷ []) $ join ! $ nothing ! $ move ! (3 ∷ 0 ∷ []) $ join ! $ join ! $
    use0 𝓛 (raw (fact 𝓤 Asked)) (fact_i 𝓤 Asked (emp 𝓤) (some_reply Next r.now (next_reply y) can.0 can.1)) $ move ! (1 ∷ 0 ∷ []) $ use2 𝓛 (raw (C.pre zc)) (id⊢ 𝓤 _) $
    calls_at ! (framed 𝓤 𝓛.H 𝓜 (tables 𝓤 𝓛.H 𝓜 𝓡 𝓡.env)) C (copied_met 𝓤 𝓛 𝓜 𝓡 (code.calls-lexopt_calls::replay::copy_reply 𝓡.env wired)) zc
    (and_then ! (get ! refl) (and_then ! (get ! refl) (no_more !))) (λ v.
    use1 𝓛 (later (some (λ (t : Tr.Denot). ((‵ (flft (α ∷ []) full_share) ⊛ ‵ ftrue) ⊛ ‵ (Tr.own_val t (v ∷ []))) ⊛
    some (λ (ws : Lasts copied.ended zc.0.0 zc.0.3). ‵ (lasts copied.ended zc.0.0 zc.0.3 ws) ⊛ raw (fact 𝓤 (IfOk t (λ x. next_reply y ≡ Some (reply_view x)))))))) (id⊢ 𝓤 _) $
    await ! tt $ pick ! (λ t. split ! $ split ! $ split ! $ lft_end ! tt $ move ! (2 ∷ []) $
    peeks ! Tr (Is Tr) (shows 𝓛 Tr) t (v ∷ []) (λ is'.
    lands_as ! refl refl (((Tr-laws.lawful 𝓛).typed t (v ∷ []) is').0) $ move ! (3 ∷ []) $ pick ! (λ ws'. split ! $ drop ! $ heard ! _ (λ same.
    move ! (3 ∷ []) $
    use1 𝓛 (some (λ (w : UnreadLine). raw (fact 𝓤 (RepliesWith Next r.now (next_reply y) w)) ⊛ ‵ (fres δ (R.coded.code w)))) (ends_said 𝓛 lent y) $ pick ! (λ w. split ! $ heard ! _ (λ steps.
    -- [the loan's last value; the copy; α is over; nothing; nothing; what the lender keeps]
    move ! (2 ∷ 5 ∷ 0 ∷ []) $ use3 𝓛 (later (‵ (Ref κ (record r { now = w })) ⊛ ‵ (flft κ q)))
    (comes_back 𝓛 R (named 0) κ (α ∷ []) q γ b o δ r.now w) $ await ! tt $ split ! $
    returns ! (look_at ! 0 refl) $ free_all ! refl $ keep ! (0 ∷ 1 ∷ 2 ∷ []) $
    -- [the parser; the token of κ; the copy]
    suffices ! _ (ends_at 𝓛 f.ended stayed c ((κs, qs, bounds, a, (va ∷ [], (vs, tt))), tt) v t (tt, (w, tt)) (tt, (tt, tt))) $
    let made = given Next r.now (next_reply y) w steps in
    says ! (made.0, made.1, copied_reply t (next_reply y) made.0 made.2 same) $
    nothing ! $ move ! (1 ∷ 0 ∷ []) $ join ! $ nothing ! $ join ! $ nothing ! $ move ! (2 ∷ 0 ∷ []) $ join ! $ done !))))))))))))))))
