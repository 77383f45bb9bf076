use Rattle.std.proofs.Common.{◌≡◌, ◌<◌, ◌-◌, ◌==◌, not, Bool, true, false, ℕ, List, Bor, length, map, refl, sym, ap, subst, ◌∙◌, arith}
use Rattle.std.proofs.lemmas.List.{length-map, take_all}
use Rattle.std.proofs.lemmas.List.Concat.{concat_is}
use Rattle.std.specs.List.{AllZip}
use Rattle.lexopt_options_spec.specs.Declaration.{Positional}
use Rattle.lexopt_options_spec.specs.Help.{IsEntry, Wraps, described, entry, help_column, positional_text, told, words_of}
use Rattle.lexopt_declaration.specs.Models.{positional_view, words_view}
use Rattle.lexopt_options_spec.proofs.Wrapping.{listed_kept, listed_left_out}
use Rattle.lexopt_declaration.proofs.help.positional_entries.Goals as goal

has_word : (words : List (Bor (List ℕ))) (texts : List (List ℕ)) (b value : Bool) → map (λ (w : Bor (List ℕ)). w.now) words ≡ texts → b ≡ (length words == 0) → b ≡ value → not (length texts == 0) ≡ not value
has_word words texts b value same is so =
    ap (λ (ws : List (List ℕ)). not (length ws == 0)) (sym same) ∙ ap (λ n. not (n == 0)) (length-map words (λ (w : Bor (List ℕ)). w.now)) ∙ ap not (sym is ∙ so)

pub loop-positional-preserved-then-is_empty : goal.loop-positional-preserved-then-is_empty
loop-positional-preserved-then-is_empty g c =
    let same = c.as_str.ensures.value ∙ c.in_ok-told.ensures in
    let words = ap (map (λ (w : Bor (List ℕ)). w.now)) c.as_slice-words.ensures.value ∙ c.in_ok-words.ensures ∙ ap words_of same in
    listed_left_out positional_view _ _ _ c.args.positionals.now c.loop-positional.positional-index _ _ c.loop-positional-test.true (λ p. not (length (words_of (positional_text p)) == 0))
    (subst (λ p. not (length (words_of (told p.hides_list p.help.now (words_view p.words))) == 0) ≡ false) c.positional-item.is (has_word _ _ _ true words c.is_empty.ensures c.if-is_empty.true)) c.loop-positional.invariant

pub loop-positional-preserved : goal.loop-positional-preserved
loop-positional-preserved g c =
    let e = c.in_ok-push_labelled.ensures in
    let same = c.as_str.ensures.value ∙ c.in_ok-told.ensures in
    let words = ap (map (λ (w : Bor (List ℕ)). w.now)) c.as_slice-words.ensures.value ∙ c.in_ok-words.ensures ∙ ap words_of same in
    let within : c.loop-positional.positional-index < length c.args.positionals.now = omega arith in
    listed_kept positional_view _ _ _ c.args.positionals.now c.loop-positional.positional-index _ _ within (λ p. not (length (words_of (positional_text p)) == 0)) _ (entry (help_column c.args.width) c.positional-item.result.placeholder.now e.0)
    (subst (λ p. not (length (words_of (told p.hides_list p.help.now (words_view p.words))) == 0) ≡ true) c.positional-item.is (has_word _ _ _ false words c.is_empty.ensures c.if-is_empty.false))
    c.loop-positional.invariant
    (subst (λ p. IsEntry c.args.width p.placeholder.now (told p.hides_list p.help.now (words_view p.words)) (entry (help_column c.args.width) c.positional-item.result.placeholder.now e.0)) c.positional-item.is
    (record { lines = e.0; wrapped = subst (λ (ws : List (List ℕ)). Wraps (c.args.width - help_column c.args.width) ws e.0) words e.1; written = refl }))
    e.2

pub returns : goal.returns
returns g c =
    let l = c.loop-positional.invariant in
    let all = take_all c.loop-positional.positional-index c.args.positionals.now (omega (arith, c.loop-positional-test.false)) in
    (l.texts, subst (λ ps. AllZip (λ (p : Positional). IsEntry c.args.width p.placeholder (positional_text p)) (described (map positional_view ps)) l.texts) all l.each, l.text_is ∙ sym (concat_is l.texts))
