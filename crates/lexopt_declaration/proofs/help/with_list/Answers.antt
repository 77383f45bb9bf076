use Rattle.std.proofs.Common.{arith, ◌≡◌, ◌==◌, ◌++◌, ◌∷◌, [], ℕ, List, Bool, true, false, true≢false, if◌then◌else◌, codes, length, map, refl, sym, ap, ◌∙◌}
use Rattle.std.proofs.lemmas.Result.{IfOk-weaker}
use Rattle.lexopt_options_spec.specs.Declaration.{listed}
use Rattle.std.specs.Borrow.{Bor}
use Rattle.std.proofs.lemmas.Bool.Decides.{nat_tests}
use Rattle.lexopt_options_spec.specs.Help.{escaped_text, is_sentence, list_after, list_text, with_list}
use Rattle.lexopt_declaration.specs.Models.{words_view}
use Rattle.lexopt_declaration.proofs.help.with_list.Goals as goal

-- the list of these values, each escaped
abbrev escaped_list : List (Bor (List ℕ)) → List ℕ
escaped_list values = list_text (map (λ (v : Bor (List ℕ)). escaped_text v.now) values)

shown : (values : List (Bor (List ℕ))) → map (λ (v : Bor (List ℕ)). escaped_text v.now) values ≡ map escaped_text (map (λ (v : Bor (List ℕ)). v.now) values)
shown [] = refl
shown (v ∷ vs) = ap (λ l. escaped_text v.now ∷ l) (shown vs)

with_help : (help : List ℕ) (values : List (Bor (List ℕ))) (none : Bool) → none ≡ (length help == 0) → none ≡ false
    → list_after help (escaped_list values) ≡ with_list help (listed (map (λ (v : Bor (List ℕ)). v.now) values))
with_help [] values none is some = absurd (true≢false (sym is ∙ some))
with_help (b ∷ bs) values none is some = ap (λ l. list_after (b ∷ bs) (list_text l)) (shown values)

without_help : (help : List ℕ) (values : List (Bor (List ℕ))) (none : Bool) → none ≡ (length help == 0) → none ≡ true
    → codes "one of " ++ escaped_list values ≡ with_list help (listed (map (λ (v : Bor (List ℕ)). v.now) values))
without_help [] values none is empty = ap (λ l. codes "one of " ++ list_text l) (shown values)
without_help (b ∷ bs) values none is empty = absurd (grind (arith, nat_tests, is, empty))

chosen : (help values : List ℕ) (ends b : Bool) → ends ≡ is_sentence help → ends ≡ b
    → (if b then help ++ (codes " One of " ++ (values ++ codes ".")) else help ++ (codes ": one of " ++ values)) ≡ list_after help values
chosen help values ends b is holds =
    ap (λ e. if e then help ++ (codes " One of " ++ (values ++ codes ".")) else help ++ (codes ": one of " ++ values)) (sym holds ∙ is)

pub returns-in-Listed : goal.returns-in-Listed
returns-in-Listed c =
    IfOk-weaker c.format.result _ _
    (λ text is. is ∙ without_help c.args.help.now _ c.is_empty.result c.is_empty.ensures c.if-is_empty.true ∙ ap (λ w. with_list c.args.help.now (words_view w)) (sym c.in-Listed.is))
    c.format.ensures.ok

pub returns-in-Listed-2 : goal.returns-in-Listed-2
returns-in-Listed-2 c =
    IfOk-weaker c.format-in-Listed-2.result _ _
    (λ text is. is ∙ chosen c.args.help.now (escaped_list _) c.is_sentence.result true c.is_sentence.ensures c.if-is_sentence.true
    ∙ with_help c.args.help.now _ c.is_empty.result c.is_empty.ensures c.if-is_empty.false ∙ ap (λ w. with_list c.args.help.now (words_view w)) (sym c.in-Listed-2.is))
    c.format-in-Listed-2.ensures.ok

pub returns-in-Listed-3 : goal.returns-in-Listed-3
returns-in-Listed-3 c =
    IfOk-weaker c.format-in-Listed-3.result _ _
    (λ text is. is ∙ chosen c.args.help.now (escaped_list _) c.is_sentence.result false c.is_sentence.ensures c.if-is_sentence.false
    ∙ with_help c.args.help.now _ c.is_empty.result c.is_empty.ensures c.if-is_empty.false ∙ ap (λ w. with_list c.args.help.now (words_view w)) (sym c.in-Listed-3.is))
    c.format-in-Listed-3.ensures.ok
