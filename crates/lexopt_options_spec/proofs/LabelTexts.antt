-- The texts by which labels show their forms.
use Rattle.lexopt_options_spec.proofs.Common.{◌≡◌, ℕ, List, [], ◌∷◌, ◌++◌, ◌⊎◌, inl, inr, Option, Some, None, codes, encode_utf8, refl, sym, ap, subst, ◌∙◌, append_assoc, append-nil, equals, Beside}
use Rattle.lexopt_options_spec.proofs.Common.{Declared, a_flag, LabelForm, short_flag, short_one, short_optional, short_optional_value, short_several, long_flag, long_one, long_optional}
use Rattle.lexopt_options_spec.proofs.Common.{long_optional_value, long_several, flag_beside, negated_flag}
use Rattle.lexopt_line_spec.specs.Table.{short, long, Name, Item, option, many, Kind, flag, one, optional, several}
use Rattle.lexopt_line_spec.specs.Spelling.{no_value, attached_value, joined_value, next_word, no_optional, attached_optional, joined_optional, joined_several, attached_several, several_words}
use Rattle.lexopt_options_spec.specs.Help.{label, label_of, short_word, in_brackets, if_alone, after_long, before_long, before_alone, long_shown, CanSay, HasOnly, ShowsName}

-- ---- the text of a name

abbrev short_text : Kind → ℕ → Option (List ℕ) → List ℕ → List ℕ
short_text flag c after value = short_word c []
short_text one c after value = short_word c (if_alone after (codes " " ++ value))
short_text optional c after value = short_word c (in_brackets value)
short_text several c after value = short_word c (if_alone after (codes " " ++ value ++ codes "..."))

abbrev long_text : Beside → Kind → List ℕ → List ℕ → List ℕ
long_text b flag name value = long_shown b name
long_text b one name value = long_shown b name ++ equals ∷ value
long_text b optional name value = long_shown b name ++ in_brackets (equals ∷ value)
long_text b several name value = long_shown b name ++ (codes " " ++ value ++ codes "...")

after_name : (b : Beside) (k : Kind) (name value : List ℕ) → long_text b k name value ≡ long_shown b name ++ after_long k value
after_name b flag name value = sym (append-nil (long_shown b name))
after_name b k name value = refl

short_alone : (b : Beside) (k : Kind) (c : ℕ) (value : List ℕ) → label_of b (Some c) None k value ≡ short_text k c None value
short_alone b flag c value = refl
short_alone b k c value = refl

short_before : (k : Kind) (c : ℕ) (name value : List ℕ) → short_text k c (Some name) value ≡ short_word c (before_long k value)
short_before flag c name value = refl
short_before k c name value = refl

long_alone : (b : Beside) (k : Kind) (name value : List ℕ) → label_of b None (Some name) k value ≡ before_alone b ++ long_text b k name value
long_alone b k name value = ap (λ text. before_alone b ++ text) (sym (after_name b k name value))

with_both : (b : Beside) (k : Kind) (c : ℕ) (name value : List ℕ) → label_of b (Some c) (Some name) k value ≡ short_text k c (Some name) value ++ codes ", " ++ long_text b k name value
with_both b k c name value = sym
    (ap (λ text. (text ++ codes ", ") ++ long_text b k name value) (short_before k c name value)
    ∙ ap (λ text. (short_word c (before_long k value) ++ codes ", ") ++ text) (after_name b k name value))

-- ---- what an option can spell

-- the items that an option of this kind spells, with this value
abbrev OneOf : Kind → Name → List ℕ → Item → Type 0
OneOf flag name value item = item ≡ option name None
OneOf one name value item = item ≡ option name (Some value)
OneOf optional name value item = (item ≡ option name None) ⊎ (item ≡ option name (Some value))
OneOf several name value item = item ≡ many name (value ∷ [])

with_value : (name : Name) (value v : List ℕ) (item : Item) → item ≡ option name (Some v) → HasOnly value item → item ≡ option name (Some value)
with_value name value v item is only = let e : v ≡ value = subst (λ (x : Item). HasOnly value x) is only in is ∙ ap (λ x. option name (Some x)) e

with_values : (name : Name) (value : List ℕ) (values : List (List ℕ)) (item : Item) → item ≡ many name values → HasOnly value item → item ≡ many name (value ∷ [])
with_values name value values item is only = let e : values ≡ value ∷ [] = subst (λ (x : Item). HasOnly value x) is only in is ∙ ap (λ x. many name x) e

one_of : (k : Kind) (name : Name) (value : List ℕ) (item : Item) → CanSay k name item → HasOnly value item → OneOf k name value item
one_of flag name value item (after, words, left, no_value at is rest) only = is
one_of one name value item (after, words, left, attached_value v at is rest) only = with_value name value v item is only
one_of one name value item (after, words, left, joined_value v at is rest) only = with_value name value v item is only
one_of one name value item (after, words, left, next_word v at is rest) only = with_value name value v item is only
one_of optional name value item (after, words, left, no_optional at is rest) only = inl is
one_of optional name value item (after, words, left, attached_optional v at is rest) only = inr (with_value name value v item is only)
one_of optional name value item (after, words, left, joined_optional v at is rest) only = inr (with_value name value v item is only)
one_of several name value item (after, words, left, joined_several v at is rest) only = with_values name value (v ∷ []) item is only
one_of several name value item (after, words, left, attached_several v front at plain is) only = with_values name value (v ∷ front) item is only
one_of several name value item (after, words, left, several_words front at plain some is) only = with_values name value front item is only

-- ---- the label, by its names

module _ (o : Declared) where
  abbrev short_shown : ℕ → List ℕ
  short_shown c = short_text o.kind c o.long_name o.placeholder

  abbrev name_shown : List ℕ → List ℕ
  name_shown name = long_text o.beside o.kind name o.placeholder

  is_short : (c : ℕ) → o.short_name ≡ Some c → o.long_name ≡ None → label o ≡ short_shown c
  is_short c named none = rw (named, none) (short_alone o.beside o.kind c o.placeholder)

  is_long : (name : List ℕ) → o.short_name ≡ None → o.long_name ≡ Some name → label o ≡ before_alone o.beside ++ name_shown name
  is_long name none named = rw (none, named) (long_alone o.beside o.kind name o.placeholder)

  is_both : (c : ℕ) (name : List ℕ) → o.short_name ≡ Some c → o.long_name ≡ Some name → label o ≡ short_shown c ++ codes ", " ++ name_shown name
  is_both c name short_named long_named = rw (short_named, long_named) (with_both o.beside o.kind c name o.placeholder)

  -- ---- what each name shows

  abbrev Shown : List ℕ → Item → Type 0
  Shown text item = (words : List (List ℕ)) × LabelForm o text words item

  shown_as : (text : List ℕ) (is item : Item) → item ≡ is → Shown text is → Shown text item
  shown_as text is item same shown = subst (λ (x : Item). Shown text x) (sym same) shown

  short_by : (c : ℕ) (k : Kind) → o.short_name ≡ Some c → o.kind ≡ k → (item : Item) → OneOf k (short c) o.placeholder item → Shown (short_text k c o.long_name o.placeholder) item
  short_by c flag named is item same = shown_as _ _ item same (_, short_flag c named is)
  short_by c one named is item same = shown_as _ _ item same (_, short_one c named is)
  short_by c optional named is item (inl same) = shown_as _ _ item same (_, short_optional c named is)
  short_by c optional named is item (inr same) = shown_as _ _ item same (_, short_optional_value c named is)
  short_by c several named is item same = shown_as _ _ item same (_, short_several c named is)

  long_by : (name : List ℕ) (k : Kind) → o.long_name ≡ Some name → o.kind ≡ k → (item : Item) → OneOf k (long name) o.placeholder item → Shown (long_text o.beside k name o.placeholder) item
  long_by name flag named is item same = shown_as _ _ item same (_, long_flag name named is)
  long_by name one named is item same = shown_as _ _ item same (_, long_one name named is)
  long_by name optional named is item (inl same) = shown_as _ _ item same (_, long_optional name named is)
  long_by name optional named is item (inr same) = shown_as _ _ item same (_, long_optional_value name named is)
  long_by name several named is item same = shown_as _ _ item same (_, long_several name named is)

  short_shows : (c : ℕ) → o.short_name ≡ Some c → ShowsName o (short c) (short_shown c)
  short_shows c named = λ item can only. short_by c o.kind named refl item (one_of o.kind (short c) o.placeholder item can only)

  long_shows : (name : List ℕ) → o.long_name ≡ Some name → ShowsName o (long name) (name_shown name)
  long_shows name named = λ item can only. long_by name o.kind named refl item (one_of o.kind (long name) o.placeholder item can only)

  pub shows_short : (c : ℕ) → o.short_name ≡ Some c → o.long_name ≡ None → ShowsName o (short c) (label o)
  shows_short c named none = subst (ShowsName o (short c)) (sym (is_short c named none)) (short_shows c named)

  pub shows_long : (name : List ℕ) → o.short_name ≡ None → o.long_name ≡ Some name → (shown : List ℕ) × ShowsName o (long name) shown × (label o ≡ before_alone o.beside ++ shown)
  shows_long name none named = (name_shown name, long_shows name named, is_long name none named)

  pub shows_both : (c : ℕ) (name : List ℕ) → o.short_name ≡ Some c → o.long_name ≡ Some name
      → (first : List ℕ) × (second : List ℕ) × ShowsName o (short c) first × ShowsName o (long name) second × (label o ≡ first ++ codes ", " ++ second)
  shows_both c name short_named long_named =
      (short_shown c, name_shown name, short_shows c short_named, long_shows name long_named, is_both c name short_named long_named)

  -- ---- where each form occurs

  abbrev Occurs : List ℕ → Type 0
  Occurs text = (before : List ℕ) × (after : List ℕ) × (label o ≡ before ++ text ++ after)

  short_occurs : (c : ℕ) (k : Kind) → o.short_name ≡ Some c → o.kind ≡ k → Occurs (short_text k c o.long_name o.placeholder)
  short_occurs c k named is = subst (λ (x : Kind). Occurs (short_text x c o.long_name o.placeholder)) is (by o.long_name refl)
    where
      by : (other : Option (List ℕ)) → o.long_name ≡ other → Occurs (short_shown c)
      by None none = ([], [], is_short c named none ∙ sym (append-nil (short_shown c)))
      by (Some name) long_named = ([], codes ", " ++ name_shown name, is_both c name named long_named ∙ append_assoc (short_shown c) (codes ", ") (name_shown name))

  -- the text of a long name is the end of the label
  long_ends : (name : List ℕ) → o.long_name ≡ Some name → (before : List ℕ) × (label o ≡ before ++ name_shown name)
  long_ends name named = by o.short_name refl
    where
      by : (other : Option ℕ) → o.short_name ≡ other → (before : List ℕ) × (label o ≡ before ++ name_shown name)
      by None none = (before_alone o.beside, is_long name none named)
      by (Some c) short_named = (short_shown c ++ codes ", ", is_both c name short_named named)

  long_stands : (name : List ℕ) (k : Kind) → o.long_name ≡ Some name → o.kind ≡ k → Occurs (long_text o.beside k name o.placeholder)
  long_stands name k named is =
      let ends = long_ends name named in
      subst (λ (x : Kind). Occurs (long_text o.beside x name o.placeholder)) is (ends.0, [], ends.1 ∙ sym (append-nil (ends.0 ++ name_shown name)))

  -- the long name itself, with what is shown of its negation
  name_stands : (name : List ℕ) → o.long_name ≡ Some name → Occurs (long_shown o.beside name)
  name_stands name named =
      let ends = long_ends name named in
      (ends.0, after_long o.kind o.placeholder, ends.1 ∙ ap (λ text. ends.0 ++ text) (after_name o.beside o.kind name o.placeholder) ∙ sym (append_assoc ends.0 (long_shown o.beside name) (after_long o.kind o.placeholder)))

  flag_stands : (c : ℕ) (name : List ℕ) → o.beside ≡ a_flag c → o.short_name ≡ None → o.long_name ≡ Some name → Occurs (short_word c [])
  flag_stands c name is none named = (
    [],
    codes ", " ++ name_shown name,
    is_long name none named ∙ ap (λ b. before_alone b ++ name_shown name) is
        ∙ append_assoc (codes "-" ++ encode_utf8 c) (codes ", ") (name_shown name)
        ∙ ap (λ e. codes "-" ++ e ++ (codes ", " ++ name_shown name)) (sym (append-nil (encode_utf8 c))),
  )

  pub form_occurs : (shown : List ℕ) (words : List (List ℕ)) (item : Item) → LabelForm o shown words item → Occurs shown
  form_occurs shown words item (short_flag c named is) = short_occurs c flag named is
  form_occurs shown words item (short_one c named is) = short_occurs c one named is
  form_occurs shown words item (short_optional c named is) = short_occurs c optional named is
  form_occurs shown words item (short_optional_value c named is) = short_occurs c optional named is
  form_occurs shown words item (short_several c named is) = short_occurs c several named is
  form_occurs shown words item (long_flag name named is) = long_stands name flag named is
  form_occurs shown words item (long_one name named is) = long_stands name one named is
  form_occurs shown words item (long_optional name named is) = long_stands name optional named is
  form_occurs shown words item (long_optional_value name named is) = long_stands name optional named is
  form_occurs shown words item (long_several name named is) = long_stands name several named is
  form_occurs shown words item (flag_beside c name is none named) = flag_stands c name is none named
  form_occurs shown words item (negated_flag name is named) = subst (λ b. Occurs (long_shown b name)) is (name_stands name named)
