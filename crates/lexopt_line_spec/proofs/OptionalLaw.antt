-- The items that a line shows after an option of one value or none, and those that it shows after
-- `optional_value`.
use Rattle.std.proofs.Common.{◌≡◌, ◌↔◌, ℕ, Bool, true, false, List, [], ◌∷◌, Option, Some, None, refl, sym, ap, subst, ◌∙◌}
use Rattle.lexopt_spec.specs.UnreadLine.{Tail, no_tail, joined, rest, LastOption, UnreadLine, pending, pending_in, IsLine, TailFits}
use Rattle.lexopt_spec.specs.Steps.{Reply, OptionalStep, optional_pending, optional_none}
use Rattle.lexopt_line_spec.specs.Table.{Name, Item, option, Kind, optional, kind, Table}
use Rattle.lexopt_line_spec.specs.Spelling as spelling
use Rattle.lexopt_line_spec.specs.Spelling.{After, nothing, attached, Completes, OptionalValue, no_optional, attached_optional, joined_optional}
use Rattle.lexopt_line_spec.proofs.HandedItems.{is_some_rest}
use Rattle.lexopt_line_spec.proofs.Unread.{PartsShow, after_of, ShowsAfter, Leads, ValueShows}

-- if nothing is pending, nothing is left of a word
pub none_tail : (short_equals : Bool) (tail : Tail) (last : LastOption) (ended : Bool) → TailFits tail last ended → pending_in short_equals tail ≡ None → tail ≡ no_tail
none_tail short_equals no_tail last ended stands is = refl
none_tail short_equals (joined v) last ended stands is = absurd (let e : Some (v, true) ≡ None = is in cc)
none_tail short_equals (rest []) last ended stands is = absurd (stands.2 refl)
none_tail short_equals (rest (b ∷ bs)) last ended stands is = absurd (is_some_rest short_equals b bs is)

value_of : Option (List ℕ × Bool) → Option (List ℕ)
value_of None = None
value_of (Some p) = Some p.0

own : (name : Name) (p : Option (List ℕ × Bool)) (after : After) (words left : List (List ℕ)) (item : Item) → after ≡ after_of p → OptionalValue name after words item left
    → (item ≡ option name (value_of p)) × (left ≡ words)
unfolding value_of
own name None after words left item is (no_optional b i l) = (i, l)
own name (Some (v, true)) after words left item is (no_optional b i l) = absurd (let e : spelling.joined v ≡ nothing = sym is ∙ b in cc)
own name (Some (v, false)) after words left item is (no_optional b i l) = absurd (let e : attached v ≡ nothing = sym is ∙ b in cc)
own name None after words left item is (attached_optional w b i l) = absurd (let e : nothing ≡ attached w = sym is ∙ b in cc)
own name (Some (v, true)) after words left item is (attached_optional w b i l) = absurd (let e : spelling.joined v ≡ attached w = sym is ∙ b in cc)
own name (Some (v, false)) after words left item is (attached_optional w b i l) =
    let e : attached v ≡ attached w = sym is ∙ b in let same : w ≡ v = cc in (i ∙ ap (λ x. option name (Some x)) same, l)
own name None after words left item is (joined_optional w b i l) = absurd (let e : nothing ≡ spelling.joined w = sym is ∙ b in cc)
own name (Some (v, true)) after words left item is (joined_optional w b i l) =
    let e : spelling.joined v ≡ spelling.joined w = sym is ∙ b in let same : w ≡ v = cc in (i ∙ ap (λ x. option name (Some x)) same, l)
own name (Some (v, false)) after words left item is (joined_optional w b i l) = absurd (let e : attached v ≡ spelling.joined w = sym is ∙ b in cc)

with_own : (name : Name) (p : Option (List ℕ × Bool)) (words : List (List ℕ)) → OptionalValue name (after_of p) words (option name (value_of p)) words
unfolding value_of
with_own name None words = no_optional refl refl refl
with_own name (Some (v, true)) words = joined_optional v refl refl refl
with_own name (Some (v, false)) words = attached_optional v refl refl refl

law : (t : Table) (name : Name) (u : UnreadLine) (items : List Item) → kind t name ≡ optional
    → ShowsAfter t name u items ↔ Leads t (option name (value_of (pending u))) (record u { tail = no_tail }) items
law t name u items k = (
  λ s.
      let is = own name (pending u) (after_of (pending u)) u.words s.left s.item refl
      (subst (λ (x : Kind). Completes x name (after_of (pending u)) u.words s.item s.left) k s.completes) in
      record {
        others = s.others;
        shows = subst (λ (ws : List (List ℕ)). PartsShow t u.short_equals no_tail u.ended ws s.others) is.1 s.line;
        items_are = s.items_are ∙ ap (λ x. x ∷ s.others) is.0;
      },
  λ l. record {
    left = u.words;
    item = option name (value_of (pending u));
    others = l.others;
    completes = subst (λ (x : Kind). Completes x name (after_of (pending u)) u.words (option name (value_of (pending u))) u.words) (sym k) (with_own name (pending u) u.words);
    line = l.shows;
    items_are = l.items_are;
  },
)

pub optional_law : (t : Table) (name : Name) (u v : UnreadLine) (r : Reply) (items : List Item) → kind t name ≡ optional → IsLine u → OptionalStep u r v
    → ShowsAfter t name u items ↔ ValueShows t name r v items
unfolding value_of
optional_law t name u v r items k line (optional_pending value by is r_is v_is) =
    subst (λ (s : Reply). ShowsAfter t name u items ↔ ValueShows t name s v items) (sym r_is)
    (subst (λ (w : UnreadLine). ShowsAfter t name u items ↔ Leads t (option name (Some value)) w items) (sym v_is)
    (subst (λ (p : Option (List ℕ × Bool)). ShowsAfter t name u items ↔ Leads t (option name (value_of p)) (record u { tail = no_tail }) items) is (law t name u items k)))
optional_law t name u v r items k line (optional_none is r_is v_is) =
    let tail : u.tail ≡ no_tail = none_tail u.short_equals u.tail u.last u.ended line is in
    subst (λ (s : Reply). ShowsAfter t name u items ↔ ValueShows t name s v items) (sym r_is)
    (subst (λ (w : UnreadLine). ShowsAfter t name u items ↔ Leads t (option name None) w items)
    (ap (λ (x : Tail). record u { tail = x }) (sym tail) ∙ sym v_is)
    (subst (λ (p : Option (List ℕ × Bool)). ShowsAfter t name u items ↔ Leads t (option name (value_of p)) (record u { tail = no_tail }) items) is (law t name u items k)))
