-- Positionals whose lists cannot be declared.
use Rattle.std.proofs.Common.{◌≡◌, ℕ, ◌+◌, ◌<◌, ◌≤◌, ◌&&◌, Bool, true, false, true≢false, List, [], ◌∷◌, map, length, take, get_or, if◌then◌else◌, Option, Some, None, option_map, is_none, refl, sym, ap, ◌∙◌, arith}
use Rattle.std.specs.List.{list_all}
use Rattle.std.proofs.lemmas.List.{get_or-map, length-map, take-map, take_all}
use Rattle.std.proofs.lemmas.List.Folds.{list_all_more}
use Rattle.std.proofs.lemmas.Option.{slice_get-get_or}
use Rattle.lexopt_options_spec.specs.Declaration as spec
use Rattle.lexopt_options_spec.specs.Declaration.{IsFirstBadList, are_listable, bad_list, is_listable, list_fault, files, directories, text, listed}
use Rattle.lexopt_declaration.specs.declared.declaration.Positional.{Positional}
use Rattle.lexopt_runtime_options.specs.declared.faults.Reason.{Reason}
use Rattle.lexopt_declaration.specs.Models.{positional_view, words_view}
use Rattle.lexopt_runtime_options.specs.Faults.{reason_view}

one_reason : (b : Bool) → is_none (if b then None else Some bad_list) ≡ false → (if b then None else Some bad_list) ≡ Some bad_list
one_reason true is = absurd (true≢false is)
one_reason false is = refl

-- there is no other reason for a list
bad_list_is : (words : spec.Words) → is_none (list_fault words) ≡ false → list_fault words ≡ Some bad_list
bad_list_is files is = absurd (true≢false is)
bad_list_is directories is = absurd (true≢false is)
bad_list_is text is = absurd (true≢false is)
bad_list_is (listed []) is = refl
bad_list_is (listed (v ∷ vs)) is = one_reason (list_all is_listable (v ∷ vs)) is

none_viewed : (f : Option Reason) → is_none (option_map reason_view f) ≡ is_none f
none_viewed None = refl
none_viewed (Some reason) = refl

module _ {P : Type 0} (ps : List (Positional P)) (i : ℕ) (d : Positional P) (f : Option Reason) (within : i < length ps) (is : option_map reason_view f ≡ list_fault (words_view (get_or ps i d).words)) where
  pub bad_here : is_none f ≡ false → are_listable (map positional_view (take i ps)) ≡ true → IsFirstBadList (map positional_view ps) i
  bad_here some so = record {
    positional = positional_view (get_or ps i d);
    here = slice_get-get_or (map positional_view ps) i (positional_view d) (omega (arith, length-map ps positional_view)) ∙ ap (λ x. Some x) (get_or-map positional_view ps i d (positional_view d) within);
    bad = bad_list_is (words_view (get_or ps i d).words) (ap is_none (sym is) ∙ none_viewed f ∙ some);
    before = ap are_listable (take-map positional_view i ps) ∙ so;
  }

  pub good_here : is_none f ≡ true → are_listable (map positional_view (take i ps)) ≡ true → are_listable (map positional_view (take (i + 1) ps)) ≡ true
  good_here none so =
      let test : spec.Positional → Bool = λ p. is_none (list_fault p.words) in
      ap are_listable (sym (take-map positional_view (i + 1) ps))
      ∙ list_all_more test (map positional_view ps) i (positional_view d) (omega (arith, length-map ps positional_view))
      ∙ ap (λ b. b && test (get_or (map positional_view ps) i (positional_view d))) (ap are_listable (take-map positional_view i ps) ∙ so)
      ∙ ap test (get_or-map positional_view ps i d (positional_view d) within)
      ∙ ap is_none (sym is) ∙ none_viewed f ∙ none

pub all_listable : {P : Type 0} (ps : List (Positional P)) (i : ℕ) → length ps ≤ i → are_listable (map positional_view (take i ps)) ≡ true → are_listable (map positional_view ps) ≡ true
all_listable ps i past so = sym (ap (λ l. are_listable (map positional_view l)) (take_all i ps past)) ∙ so
