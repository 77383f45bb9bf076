-- `next` calls `advance`, and then lends the parser for reading only. So it leaves the line that
-- `advance` left.
use Rattle.std.proofs.Common.{◌≡◌, ℕ, Some, refl}
use Rattle.std.proofs.raw_atomic.Walks.{proved}
use mathlib.Core.List.{List, [], ◌∷◌}
use base.Fraction.{full_share}
use base.Logic.{id⊢}
use base.Fml.{ftrue, flft, fres}
use mir.Syntax.{named, erased}
use mir.Val.{Val, vptr}
use contract.Monad.{fact}
use contract.Running.{tables}
use contract.BorrowLft.{⊑_static}
use ghost.Rules.{span}
use types.Kit.{‵, raw, ◌⊛◌, some, later, ◌$◌, ◌∵◌, !, qed, done, move, keep, drop, use1, use2, use3, split, join, fsplit, fjoin, feq_i, pick, await, suffices, frame, group}
use types.Tokens.{lft_new, lft_end}
use types.Run.{enter, of_opd, addr, stop, no_more, and_then, returns}
use types.ByLocal.{alloc_all, pass_all, free_all, look_at, get, through, sets, lands_as}
use denote.RattleType.{RattleType}
use denote.Exit.{no}
use denote.Laws.{Is, shows}
use denote.Param.Laws.{Laws}
use denote.Ref.{Bor, MutBor, MutRef, mut_vals, mut_Tells}
use denote.Signature.{plain, mut_ref_to, named_lft}
use denote.Steps.{nothing, heard, peeks}
use denote.Lend.{lends_again, comes_back, LentAgain}
use denote.Triple.Call.{calls_at}
use denote.Triple.Clauses.{lasts, Lasts}
use denote.Triple.Spec.{triple_of}
use denote.Triple.Table.{framed}
use denote.Triple.Walked.{Stays, stay_dropped, Goes-spent_ref, ends_at, says}
use borrow.Table.Owned as owned
use borrow.Rule.Reshare.{ref_Share}
use Rattle.std.specs.contracts.result.Result as Result-type
use Rattle.std.specs.contracts.option.Option as Option-type
use Rattle.std.proofs.result.Result.TheLaws as Result-laws
use Rattle.std.proofs.option.Option.TheLaws as Option-laws
use Rattle.lexopt_base.specs.contracts.parser.Parser.{the_row as R}
use Rattle.lexopt_base.specs.contracts.parser.Found as Found-type
use Rattle.lexopt_base.specs.contracts.refusal.Refusal as Refusal-type
use Rattle.lexopt_words.specs.contracts.error.Arg as Arg-type
use Rattle.lexopt_words.specs.contracts.error.Error as Error-type
use Rattle.lexopt_base.proofs.parser.Parser.TheLaws as R-laws
use Rattle.lexopt_base.proofs.parser.Found.TheLaws as Found-laws
use Rattle.lexopt_base.proofs.refusal.Refusal.TheLaws as Refusal-laws
use Rattle.lexopt_words.proofs.error.Arg.TheLaws as Arg-laws
use Rattle.lexopt_words.proofs.error.Error.TheLaws as Error-laws
use Rattle.lexopt_spec.specs.UnreadLine.{UnreadLine}
use Rattle.lexopt_spec.specs.Steps.{Reply, Next}
use Rattle.lexopt_base.specs.Replies.{RepliesWith, next_reply}
use Rattle.lexopt_base.specs.Found.{advance_reply}
use Rattle.lexopt_base.specs.Ends.{LineAfterNext}
use Rattle.lexopt_base.proofs.Ends.{ends_after, told_of}
use Rattle.lexopt_base.specs.contracts.parser.Parser.next as f
use Rattle.lexopt_base.specs.contracts.parser.Parser.advance as g
use Rattle.lexopt_base.specs.contracts.parser.Parser.lend as h
use Rattle.lexopt_base.proofs.parser.Parser.advance.Met.{met as advance_met}
use Rattle.lexopt_base.proofs.parser.Parser.lend.Met.{met as lend_met}
use Rattle.lexopt_base.proofs.parser.Parser.next.Statement.{statement}
use Rattle.lexopt_base.proofs.parser.Parser.next.Code as code

abbrev stayed : Stays f.ended.signature.params f.ended.kept
stayed = (stay_dropped (mut_ref_to (0 ∷ []) tt (plain (λ _. R))) no, tt)

-- the result type of `advance`, and its laws
abbrev Fr : RattleType
Fr = Result-type.the_row Found-type.the_row Refusal-type.the_row

Fr-laws : Laws Fr
Fr-laws = Result-laws.the_row_laws Found-type.the_row Refusal-type.the_row Found-laws.the_row_laws Refusal-laws.the_row_laws

pub next_spec : {M : Type 1} → statement M
next_spec 𝓤 𝓛 𝓜 𝓡 wired =
    let c = f.clauses 𝓛 𝓜.mem 𝓡.returns in
    proved 𝓛 f.ended stayed c 𝓜 𝓡 (Goes-spent_ref 𝓛 1 (0 ∷ []) tt (plain (λ _. R)), tt)
    f.Key.name code.function (code.unfolded 𝓤 𝓛.H 𝓜 𝓡 wired)
    (λ κs. (mut_vals, tt)) (λ κs. (mut_Tells (named 0) κs.0 R, tt)) (λ κs qs bounds a _ are.
    let κ = κs.0 in let q = qs.0 in let r = a.0 in let b = r.ref_ptr.0 in let o = r.ref_ptr.1 in let γ = r.ghost_name in let vs = mut_vals r in
    let Ref = λ (κ' : List ℕ) (x : MutBor UnreadLine). (MutRef (named 0) κ' R).own_val x vs in
    let Or : RattleType = Result-type.the_row (Option-type.the_row (Arg-type.the_row (named_lft 1 0 tt κs))) Error-type.the_row in
    let Or-laws : Laws Or = Result-laws.the_row_laws (Option-type.the_row (Arg-type.the_row (named_lft 1 0 tt κs))) Error-type.the_row
    (Option-laws.the_row_laws (Arg-type.the_row (named_lft 1 0 tt κs)) (Arg-laws.the_row_laws (named_lft 1 0 tt κs))) Error-laws.the_row_laws in
    qed 𝓛 (((‵ (flft κ q) ⊛ ‵ ftrue) ⊛ ‵ (Ref κ r) ⊛ ‵ ftrue) ∷ ‵ ftrue ∷ []) ∵
    split ! $ split ! $ move ! (2 ∷ []) $ split ! $ keep ! (0 ∷ 2 ∷ []) $
    enter ! _ _ _ _ _ $ alloc_all ! (λ l. pass_all ! refl ((tt, tt), tt) $
    -- [self; the token of κ]
    sets ! (addr ! (through ! refl (stop !))) refl (tt, tt) $
    lft_new ! tt (λ α. move ! (1 ∷ 2 ∷ []) $
    use2 𝓛 (later (some (λ (δ : ℕ). ‵ (Ref (α ∷ []) (record r { ghost_name = δ })) ⊛ ‵ (LentAgain R κ (α ∷ []) q γ b o δ r.now))))
    (lends_again 𝓛 R (named 0) κ (α ∷ []) q γ b o (named 0) r.now) $ await ! tt $ pick ! (λ δ. split ! $
    -- [the loan; what the lender keeps; the token of α]
    let G = triple_of 𝓛 g.signature (g.spec 𝓛 𝓜.mem 𝓡.returns) in
    let z : G.Ghost = (((α ∷ [], tt), (full_share, tt), tt, (record r { ghost_name = δ }, tt), (vs, tt)), tt) in
    nothing ! $ move ! (1 ∷ 0 ∷ []) $ join ! $ nothing ! $ move ! (3 ∷ 0 ∷ []) $ join ! $ join ! $
    nothing ! $ move ! (1 ∷ 0 ∷ []) $ use2 𝓛 (raw (G.pre z)) (id⊢ 𝓤 _) $
    calls_at ! (framed 𝓤 𝓛.H 𝓜 (tables 𝓤 𝓛.H 𝓜 𝓡 𝓡.env)) G (advance_met 𝓤 𝓛 𝓜 𝓡 (code.calls-lexopt_base::parser::Parser::advance 𝓡.env wired)) z
    (and_then ! (get ! refl) (no_more !)) (λ v.
    use1 𝓛 (later (some (λ (x : Fr.Denot). ((‵ (flft (α ∷ []) full_share) ⊛ ‵ ftrue) ⊛ ‵ (Fr.own_val x (v ∷ []))) ⊛
    some (λ (ws : UnreadLine × Unit {0}). ‵ (lasts g.ended z.0.0 z.0.3 ws) ⊛ raw (fact 𝓤 (RepliesWith Next r.now (advance_reply ws.0.last x) ws.0)))))) (id⊢ 𝓤 _) $
    await ! tt $ pick ! (λ x. split ! $ split ! $ split ! $ lft_end ! tt $ move ! (2 ∷ []) $
    -- [what was found; α is over; nothing; the rest; what the lender keeps]
    peeks ! Fr (Is Fr) (shows 𝓛 Fr) x (v ∷ []) (λ is.
    let typed = ((Fr-laws.lawful 𝓛).typed x (v ∷ []) is).0 in
    lands_as ! refl refl typed $ move ! (3 ∷ []) $ pick ! (λ ws. split ! $ move ! (1 ∷ []) $ heard ! _ (λ steps. fsplit ! $ fsplit ! $
    let w = ws.0 in
    -- [the loan's last value; its borrow; nothing; what was found; α is over; nothing; what the
    -- lender keeps]
    move ! (4 ∷ 6 ∷ 0 ∷ []) $ use3 𝓛 (later (‵ (Ref κ (record r { now = w })) ⊛ ‵ (flft κ q)))
    (comes_back 𝓛 R (named 0) κ (α ∷ []) q γ b o δ r.now w) $ await ! tt $ split ! $
    -- [self; the token of κ; the loan's borrow; nothing; what was found; nothing]
    sets ! (addr ! (through ! refl (stop !))) refl (tt, tt) $
    sets ! (of_opd ! (get ! refl)) refl typed $
    fsplit ! $ move ! (1 ∷ 2 ∷ []) $
    use2 𝓛 (later (‵ ((owned.ShrRef erased κ R).own_val (record { ref_ptr = (b, o); now = w })) ⊛ (‵ (fres γ (R.coded.code w)) ⊛ ‵ (flft κ q))))
    (ref_Share 𝓛 R b o γ w R-laws.the_row_laws.shr_laws κ q (λ y κ' ts b' o' inside. R-laws.the_row_laws.shares 𝓛 y κ' ts b' o' (⊑_static (span ts)))) $ await ! tt $ split ! $ move ! (1 ∷ []) $ split ! $
    -- [the last value of self; the token of κ; what is shared; self's pointer; the loan's borrow;
    -- nothing; what was found; nothing]
    move ! (2 ∷ []) $ feq_i ! (List Val) (vptr b o ∷ []) (vptr b o ∷ []) refl $ fjoin ! $
    let H = triple_of 𝓛 h.signature (h.spec 𝓛 𝓜.mem 𝓡.returns) in
    let lent : Bor UnreadLine = record { ref_ptr = (b, o); now = w } in
    let zz : H.Ghost = (((κ, tt), (q, tt), tt, (lent, (x, tt)), (vptr b o ∷ [], (v ∷ [], tt))), tt) in
    -- [the `&`; the last value; the token; self's pointer; the loan's borrow; nothing; what was
    -- found; nothing]
    nothing ! $ move ! (7 ∷ 0 ∷ []) $ join ! $ move ! (1 ∷ 0 ∷ []) $ join ! $ nothing ! $ move ! (3 ∷ 0 ∷ []) $ join ! $ join ! $
    nothing ! $ move ! (1 ∷ 0 ∷ []) $ use2 𝓛 (raw (H.pre zz)) (id⊢ 𝓤 _) $
    calls_at ! (framed 𝓤 𝓛.H 𝓜 (tables 𝓤 𝓛.H 𝓜 𝓡 𝓡.env)) H (lend_met 𝓤 𝓛 𝓜 𝓡 (code.calls-lexopt_base::parser::Parser::lend 𝓡.env wired)) zz
    (and_then ! (get ! refl) (and_then ! (get ! refl) (no_more !))) (λ u.
    use1 𝓛 (later (some (λ (y : Or.Denot). ((‵ (flft κ q) ⊛ ‵ ftrue) ⊛ ‵ (Or.own_val y (u ∷ []))) ⊛
    some (λ (ws' : Lasts h.ended zz.0.0 zz.0.3). ‵ (lasts h.ended zz.0.0 zz.0.3 ws') ⊛ raw (fact 𝓤 ((reply : Reply) → advance_reply w.last x ≡ Some reply → next_reply y ≡ Some reply)))))) (id⊢ 𝓤 _) $
    await ! tt $ pick ! (λ y. split ! $ split ! $ split ! $ move ! (2 ∷ []) $
    -- [the result; the token of κ; nothing; the rest; the last value of self; ..]
    peeks ! Or (Is Or) (shows 𝓛 Or) y (u ∷ []) (λ is'.
    lands_as ! refl refl (((Or-laws.lawful 𝓛).typed y (u ∷ []) is').0) $ move ! (3 ∷ []) $ pick ! (λ ws'. split ! $ drop ! $ heard ! _ (λ same.
    returns ! (look_at ! 0 refl) $ free_all ! refl $ keep ! (0 ∷ 1 ∷ 3 ∷ []) $ move ! (2 ∷ []) $
    let told : RepliesWith Next r.now (next_reply y) w = told_of r.now w (advance_reply w.last x) (next_reply y) steps same in
    use1 𝓛 (‵ (LineAfterNext r y)) (ends_after 𝓛 r y w told) $
    -- [the clause; the result; the token of κ]
    suffices ! _ (ends_at 𝓛 f.ended stayed c ((κs, qs, bounds, a, (vs, tt)), tt) u y (tt, tt) (tt, tt)) $
    move ! (1 ∷ []) $ nothing ! $ nothing ! $ join ! $ nothing ! $ move ! (4 ∷ 0 ∷ []) $ join ! $ move ! (0 ∷ 1 ∷ 2 ∷ []) $ group ! 3 $ frame ! $ says ! (w, told) $ done !))))))))))))))
