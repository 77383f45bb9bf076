-- The word of a long option is cut at its first `=`.
use Rattle.std.proofs.Common.{◌≡◌, ℕ, ◌+◌, ◌-◌, ◌<◌, ◌≤◌, ◌==◌, true, List, length, take, drop, get_or, refl, sym, ap, subst, ◌∙◌, arith, length-drop}
use Rattle.std.proofs.lemmas.Bool.{eqb-true, eq-eqb}
use Rattle.std.proofs.lemmas.List.{drop-drop, get_or_default}
use Rattle.lexopt_spec.specs.UnreadLine.{equals, joined, no_tail}
use Rattle.lexopt_spec.specs.Steps.{IsLongOption}
use Rattle.lexopt_spec.proofs.LineLemmas.{long_cut, long_uncut}
use Rattle.lexopt_base.specs.Models.{IsLongRead}
use Rattle.lexopt_base.specs.declared.parser.State.TheVariants.{Ready, PendingValue}

-- the byte at this place is `=`
abbrev IsEquals : List ℕ → ℕ → Type 0
IsEquals text i = (get_or text i 0 == equals) ≡ true

pub name_cut : (word text : List ℕ) (i : ℕ) → 2 ≤ length word → text ≡ drop 2 word → i < length text → IsEquals text i → ((k : ℕ) → 0 ≤ k → k < i → IsEquals text k → ⊥)
    → IsLongRead word (take i text) (PendingValue (2 + i + 1))
name_cut word text i long is within here before =
    let left = length-drop 2 word in
    let size : length text ≡ length word - 2 = ap length is ∙ left in
    let cut = long_cut text i within (get_or_default text i equals 0 within ∙ eqb-true _ equals here)
    (λ k below same. let inside : k < length text = omega arith in
    before k (omega arith) below (eq-eqb _ equals (sym (get_or_default text k equals 0 inside) ∙ same))) in
    let rest : drop (i + 1) text ≡ drop (2 + i + 1) word = ap (drop (i + 1)) is ∙ drop-drop (i + 1) 2 word ∙ ap (λ n. drop n word) (omega arith) in
    record {
      option = subst (λ (l : List ℕ). IsLongOption l (take i text) (joined (drop (2 + i + 1) word))) is
          (subst (λ (l : List ℕ). IsLongOption text (take i text) (joined l)) rest cut);
      ended = refl;
      placed = (omega arith, omega arith);
    }

pub name_uncut : (word text : List ℕ) → text ≡ drop 2 word → ((k : ℕ) → 0 ≤ k → k < length text → IsEquals text k → ⊥) → IsLongRead word text Ready
name_uncut word text is none = record {
  option = subst (λ (l : List ℕ). IsLongOption l text no_tail) is
      (long_uncut text (λ k below same. none k (omega arith) below (eq-eqb _ equals (sym (get_or_default text k equals 0 below) ∙ same))));
  ended = refl;
  placed = tt;
}
