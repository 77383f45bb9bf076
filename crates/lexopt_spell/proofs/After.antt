-- The items after an item: the calls that look ahead, and the rules.
use Rattle.std.proofs.Common.{◌≡◌, ◌↔◌, IsTrue, ℕ, suc, ◌+◌, ◌-◌, ◌<◌, ◌≤◌, not, Bool, true, false, List, [], ◌∷◌, length, map, take, drop, get_or, length-drop, add-one, refl, sym, ap, subst, ◌∙◌, arith, true≢false}
use Rattle.std.specs.List.{list_all}
use Rattle.std.proofs.Math.Seq.{drop-cons, take-length}
use Rattle.std.proofs.lemmas.List.Folds.{list_all-map}
use Rattle.lexopt_line_spec.specs.Table.{Item, option, many, positional}
use Rattle.lexopt_line_spec.specs.Speller.{is_positional, ArePositionals, ArePositionalThenOption, NeedSeparator}
use Rattle.lexopt_line_spec.proofs.SpellerTests.{all_plain, all_pass}
use Rattle.lexopt_line_spec.proofs.SpellerPlaces.{all_positional}
use Rattle.lexopt_line_spec.proofs.SpellerRows.{positionals_pass, words_plain}
use Rattle.lexopt_spell.specs.Models.{is_plain_item}

-- a list from a place on, as the code slices it
abbrev pub from_on : {X : Type 0} → ℕ → List X → List X
from_on n xs = take (length xs - n) (drop n xs)

pub from_on_is : {X : Type 0} (n : ℕ) (xs : List X) → from_on n xs ≡ drop n xs
from_on_is n xs = ap (λ m. take m (drop n xs)) (sym (length-drop n xs)) ∙ take-length (drop n xs)

pub at_item : {X : Type 0} (f : X → Item) (xs : List X) (i : ℕ) (x : X) → i < length xs → x ≡ get_or xs i x → map f (drop i xs) ≡ f x ∷ map f (from_on (i + 1) xs)
at_item f xs i x within is =
    ap (map f) (drop-cons xs i x within) ∙ ap (λ y. f y ∷ map f (drop (suc i) xs)) (sym is) ∙ ap (λ n. f x ∷ map f (drop n xs)) (sym (add-one i))
    ∙ ap (λ l. f x ∷ map f l) (sym (from_on_is (i + 1) xs))

-- ---- the items that are left

passes_not : (b : Bool) → ¬ (b ≡ true) → not b ≡ true
passes_not true none = absurd (none refl)
passes_not false none = refl

positional_word : (item : Item) → is_positional item ≡ true → (w : List ℕ) × (item ≡ positional w)
positional_word (option name value) is = absurd (true≢false (sym is))
positional_word (many name values) is = absurd (true≢false (sym is))
positional_word (positional w) is = (w, refl)

-- the first item is a positional, and the others decide
then_option : (item : Item) (items : List Item) (b : Bool) → is_positional item ≡ true → b ≡ list_all is_positional items → IsTrue (not b) ↔ ArePositionalThenOption (item ∷ items)
then_option item items b first others = (
  λ some.
      let w = positional_word item first in
      (w.0, items, ap (λ i. i ∷ items) w.1, λ are. true≢false (sym some ∙ ap not (others ∙ positionals_pass items are))),
  λ are. passes_not b (λ all.
      let e : item ∷ items ≡ positional are.0 ∷ are.1 = are.2 in
      let same : items ≡ are.1 = cc in are.3 (subst ArePositionals same (all_positional items (sym others ∙ all)))),
)

pub others_asked : {X : Type 0} (f : X → Item) (xs : List X) (x : X) (b : Bool) → 1 ≤ length xs → x ≡ get_or xs 0 x → is_positional (f x) ≡ true
    → b ≡ list_all (λ y. is_positional (f y)) (from_on 1 xs) → IsTrue (not b) ↔ ArePositionalThenOption (map f xs)
others_asked f [] x b some is first asked = absurd (omega (arith, some))
others_asked f (y ∷ ys) x b some is first asked =
    then_option (f y) (map f ys) b (ap (λ z. is_positional (f z)) (sym is) ∙ first)
    (asked ∙ ap (list_all (λ y. is_positional (f y))) (from_on_is 1 (y ∷ ys)) ∙ sym (list_all-map is_positional f ys))

-- all items are positionals, and whether they are plain decides
pub row_asked : {X : Type 0} (f : X → Item) (xs : List X) (b : Bool) → list_all (λ y. is_positional (f y)) xs ≡ true → b ≡ list_all (λ y. is_plain_item (f y)) xs
    → IsTrue (not b) ↔ NeedSeparator (map f xs)
row_asked f xs b all asked =
    let are = all_positional (map f xs) (list_all-map is_positional f xs ∙ all) in
    let plain : b ≡ list_all is_plain_item (map f xs) = asked ∙ sym (list_all-map is_plain_item f xs) in (
      λ some. (are.0, are.1, λ good. true≢false (sym some ∙ ap not (plain ∙ ap (list_all is_plain_item) are.1 ∙ words_plain are.0 ∙ all_pass are.0 good))),
      λ need. passes_not b (λ good. need.2 (all_plain need.0 (sym (words_plain need.0) ∙ sym (ap (list_all is_plain_item) need.1) ∙ sym plain ∙ good))),
    )

-- one item is not a positional
pub no_row : {X : Type 0} (f : X → Item) (xs : List X) (b : Bool) → b ≡ false → list_all (λ y. is_positional (f y)) xs ≡ false → IsTrue b ↔ NeedSeparator (map f xs)
no_row f xs b off some = (
  λ on. absurd (true≢false (sym on ∙ off)),
  λ need. absurd (true≢false (sym (positionals_pass (map f xs) (need.0, need.1)) ∙ list_all-map is_positional f xs ∙ some)),
)
