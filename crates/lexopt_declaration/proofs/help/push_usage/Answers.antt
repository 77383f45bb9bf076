use Rattle.std.proofs.Common.{◌≡◌, ◌≤◌, ◌∷◌, [], ◌++◌, ◌∙◌, ◌-◌, List, ℕ, Bor, map, take, drop, length, get_or, refl, sym, ap, subst, append_assoc, codes, arith}
use Rattle.std.proofs.lemmas.List.{take_all}
use Rattle.std.proofs.lemmas.Result.{IfOk-weaker}
use Rattle.std.specs.List.{AllZip, flat_map}
use Rattle.lexopt_options_spec.specs.Declaration.{Declaration}
use Rattle.lexopt_options_spec.specs.Help.{IsUsageLine, first_usage, words_of}
use Rattle.lexopt_declaration.specs.Declarations.{declaration_view}
use Rattle.lexopt_declaration.proofs.help.push_usage.Goals as goal

first_given : (d : Declaration) (texts : List (Bor (List ℕ))) (x : Bor (List ℕ)) → 1 ≤ length texts → first_usage d (map (λ (text : Bor (List ℕ)). text.now) texts) ≡ d.program ∷ words_of (get_or texts 0 x).now
first_given d [] x some = absurd (omega arith)
first_given d (text ∷ texts) x some = refl

others_given : (texts : List (Bor (List ℕ))) → drop 1 (map (λ (text : Bor (List ℕ)). text.now) texts) ≡ map (λ (text : Bor (List ℕ)). text.now) (take (length texts - 1) (drop 1 texts))
others_given [] = ap (map (λ (text : Bor (List ℕ)). text.now)) (sym (take_all (length {A = Bor (List ℕ)} [] - 1) [] (omega arith)))
others_given (text ∷ texts) = ap (map (λ (text : Bor (List ℕ)). text.now)) (sym (take_all (length (text ∷ texts) - 1) texts (omega arith)))

in_parts : (before start first others one two three : List ℕ) → one ≡ before ++ start → two ≡ one ++ first → three ≡ two ++ others → three ≡ before ++ (start ++ first ++ others)
in_parts before start first others one two three e f g = g ∙ ap (λ l. l ++ others) (f ∙ ap (λ l. l ++ first) e) ∙ simp append_assoc

pub returns : goal.returns
returns g c =
    let f = c.in_ok-push_own_usage.ensures in
    let texts = c.args.declaration.now.usage.now in
    IfOk-weaker c.push_other_usages.result _ _
    (λ _ o. (
      codes "Usage: " ++ f.0 ++ flat_map (λ line. codes "  or:  " ++ line) o.0,
      record {
        first = f.0;
        others = o.0;
        first_line = subst (λ ws. IsUsageLine c.args.width ws f.0) (sym (first_given (declaration_view c.args.declaration.now) texts _ c.in-len1-up.len_at_least)) f.1;
        other_lines = subst (λ os. AllZip (λ own. IsUsageLine c.args.width (c.args.declaration.now.program.now ∷ words_of own)) os o.0) (sym (others_given texts)) o.1;
        written = refl;
      },
      in_parts _ _ f.0 _ _ _ _ c.in_ok-push_str.ensures.bytes f.2 o.2,
    ))
    c.push_other_usages.ensures
