-- The items that a line shows after an option of several values, and those that it shows after
-- `values` gave all of them.
use Rattle.std.proofs.Common.{◌≡◌, ◌↔◌, ℕ, Bool, false, List, [], ◌∷◌, ◌++◌, refl, sym, ap, subst, ◌∙◌, arith}
use Rattle.lexopt_spec.specs.UnreadLine.{Tail, no_tail, UnreadLine, pending, IsLine, IsPlain, IsNormalIn, IsPlainFront}
use Rattle.lexopt_spec.specs.Steps.{Reply}
use Rattle.lexopt_line_spec.specs.Table.{Name, Item, many, Kind, several, kind, Table}
use Rattle.lexopt_line_spec.specs.Spelling as how
use Rattle.lexopt_line_spec.specs.Spelling.{After, nothing, attached, Completes, SeveralValues, joined_several, attached_several, several_words}
use Rattle.lexopt_spec.proofs.PlainFronts.{front_same}
use Rattle.lexopt_line_spec.proofs.FullValues.{FullStep, joined_one, attached_first, words_alone, nothing_given}
use Rattle.lexopt_line_spec.proofs.Unread.{PartsShow, after_of, ShowsAfter, Leads, ValueShows}
use Rattle.lexopt_line_spec.proofs.OptionalLaw.{none_tail}

as_open : (ended : Bool) (words front left : List (List ℕ)) → ended ≡ false → IsPlainFront ended words front left → IsPlainFront false words front left
as_open ended words front left open_line is = subst (λ (e : Bool). IsPlainFront e words front left) open_line is

first_normal : (w : List ℕ) (ws l : List (List ℕ)) → l ≡ w ∷ ws → IsPlain false w → IsNormalIn false l
first_normal w ws l is plain = subst (IsNormalIn false) (sym is) plain

-- ---- the law

open_law : (t : Table) (name : Name) (u : UnreadLine) (values : List (List ℕ)) (left : List (List ℕ)) (items : List Item) → kind t name ≡ several
    → SeveralValues name (after_of (pending u)) u.words (many name values) left
    → ((item : Item) (l : List (List ℕ)) → SeveralValues name (after_of (pending u)) u.words item l → (item ≡ many name values) × (l ≡ left))
    → ShowsAfter t name u items ↔ Leads t (many name values) (record u { tail = no_tail; words = left }) items
open_law t name u values left items k completes only = (
  λ s.
      let is = only s.item s.left (subst (λ (x : Kind). Completes x name (after_of (pending u)) u.words s.item s.left) k s.completes) in
      record {
        others = s.others;
        shows = subst (λ (ws : List (List ℕ)). PartsShow t u.short_equals no_tail u.ended ws s.others) is.1 s.line;
        items_are = s.items_are ∙ ap (λ x. x ∷ s.others) is.0;
      },
  λ l. record {
    left = left;
    item = many name values;
    others = l.others;
    completes = subst (λ (x : Kind). Completes x name (after_of (pending u)) u.words (many name values) left) (sym k) completes;
    line = l.shows;
    items_are = l.items_are;
  },
)

only_joined : (name : Name) (after : After) (words l : List (List ℕ)) (item : Item) (value : List ℕ) → after ≡ how.joined value → SeveralValues name after words item l
    → (item ≡ many name (value ∷ [])) × (l ≡ words)
only_joined name after words l item value is (joined_several v b i left) =
    let e : how.joined value ≡ how.joined v = sym is ∙ b in let same : v ≡ value = cc in (i ∙ ap (λ x. many name (x ∷ [])) same, left)
only_joined name after words l item value is (attached_several v front b f i) = absurd (let e : how.joined value ≡ attached v = sym is ∙ b in cc)
only_joined name after words l item value is (several_words front b f some i) = absurd (let e : how.joined value ≡ nothing = sym is ∙ b in cc)

only_attached : (name : Name) (after : After) (words front left l : List (List ℕ)) (item : Item) (value : List ℕ) → after ≡ attached value → IsPlainFront false words front left
    → SeveralValues name after words item l → (item ≡ many name (value ∷ front)) × (l ≡ left)
only_attached name after words front left l item value is f (joined_several v b i m) = absurd (let e : attached value ≡ how.joined v = sym is ∙ b in cc)
only_attached name after words front left l item value is f (attached_several v other b g i) =
    let e : attached value ≡ attached v = sym is ∙ b in
    let same : v ≡ value = cc in
    let fronts = front_same false words other l front left g f in
    (i ∙ ap (λ x. many name (x ∷ other)) same ∙ ap (λ ws. many name (value ∷ ws)) fronts.0, fronts.1)
only_attached name after words front left l item value is f (several_words other b g some i) = absurd (let e : attached value ≡ nothing = sym is ∙ b in cc)

only_words : (name : Name) (after : After) (words front left l : List (List ℕ)) (item : Item) → after ≡ nothing → IsPlainFront false words front left
    → SeveralValues name after words item l → (item ≡ many name front) × (l ≡ left)
only_words name after words front left l item is f (joined_several v b i m) = absurd (let e : nothing ≡ how.joined v = sym is ∙ b in cc)
only_words name after words front left l item is f (attached_several v other b g i) = absurd (let e : nothing ≡ attached v = sym is ∙ b in cc)
only_words name after words front left l item is f (several_words other b g some i) =
    let fronts = front_same false words other l front left g f in
    (i ∙ ap (many name) fronts.0, fronts.1)

none_there : (name : Name) (after : After) (words l : List (List ℕ)) (item : Item) → after ≡ nothing → ¬ IsNormalIn false words → SeveralValues name after words item l → ⊥
none_there name after words l item is none (joined_several v b i m) = let e : nothing ≡ how.joined v = sym is ∙ b in cc
none_there name after words l item is none (attached_several v other b g i) = let e : nothing ≡ attached v = sym is ∙ b in cc
none_there name after words l item is none (several_words [] b g some i) = some refl
none_there name after words l item is none (several_words (w ∷ ws) b g some i) = none (first_normal w (ws ++ l) words g.words_are (g.plain 0 [] (omega arith)))

pub several_law : (t : Table) (name : Name) (u v : UnreadLine) (r : Reply) (items : List Item) → kind t name ≡ several → IsLine u → u.ended ≡ false → FullStep u r v
    → ShowsAfter t name u items ↔ ValueShows t name r v items
several_law t name u v r items k line open_line (joined_one value is r_is v_is) =
    subst (λ (s : Reply). ShowsAfter t name u items ↔ ValueShows t name s v items) (sym r_is)
    (subst (λ (w : UnreadLine). ShowsAfter t name u items ↔ Leads t (many name (value ∷ [])) w items) (sym v_is)
    (open_law t name u (value ∷ []) u.words items k (joined_several value (ap after_of is) refl refl)
    (λ item l. only_joined name (after_of (pending u)) u.words l item value (ap after_of is))))
several_law t name u v r items k line open_line (attached_first value front left is f r_is v_is) =
    let g = as_open u.ended u.words front left open_line f in
    subst (λ (s : Reply). ShowsAfter t name u items ↔ ValueShows t name s v items) (sym r_is)
    (subst (λ (w : UnreadLine). ShowsAfter t name u items ↔ Leads t (many name (value ∷ front)) w items) (sym v_is)
    (open_law t name u (value ∷ front) left items k (attached_several value front (ap after_of is) g refl)
    (λ item l. only_attached name (after_of (pending u)) u.words front left l item value (ap after_of is) g)))
several_law t name u v r items k line open_line (words_alone front left is f some r_is v_is) =
    let g = as_open u.ended u.words front left open_line f in
    let tail : u.tail ≡ no_tail = none_tail u.short_equals u.tail u.last u.ended line is in
    subst (λ (s : Reply). ShowsAfter t name u items ↔ ValueShows t name s v items) (sym r_is)
    (subst (λ (w : UnreadLine). ShowsAfter t name u items ↔ Leads t (many name front) w items)
    (ap (λ (x : Tail). record u { tail = x; words = left }) (sym tail) ∙ sym v_is)
    (open_law t name u front left items k (several_words front (ap after_of is) g some refl)
    (λ item l. only_words name (after_of (pending u)) u.words front left l item (ap after_of is) g)))
several_law t name u v r items k line open_line (nothing_given is none r_is v_is) =
    subst (λ (s : Reply). ShowsAfter t name u items ↔ ValueShows t name s v items) (sym r_is) (
      λ s. none_there name (after_of (pending u)) u.words s.left s.item (ap after_of is) (subst (λ (e : Bool). ¬ IsNormalIn e u.words) open_line none)
          (subst (λ (x : Kind). Completes x name (after_of (pending u)) u.words s.item s.left) k s.completes),
      λ h. absurd h,
    )
