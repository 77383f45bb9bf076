-- Words, put on lines one after another.
use Rattle.std.proofs.Common.{◌≡◌, ◌≤◌, ◌<◌, ℕ, ◌+◌, ◌-◌, true, false, cond, nat_lt, List, [], ◌∷◌, ◌++◌, length, take, refl, sym, ap, subst, ◌∙◌, arith, inl, inr, append-nil, append_assoc, length-append, ltb-true, ltb-false, Bool, Bor, map, get_or}
use Rattle.std.proofs.lemmas.List.{map-append, map_more, take_more, flat_map_more}
use Rattle.std.proofs.lemmas.List.Elements.{filter-append}
use Rattle.std.proofs.lemmas.List.Sums.{sum_by-append}
use Rattle.std.proofs.lemmas.Grind.{flat_map-append}
use Rattle.std.specs.List.{AllZip, filter, flat_map, sum_by}
use Rattle.lexopt_options_spec.specs.Help.{columns, blank, blanks, line_feed, Line, line_text, line_columns, Fits, AllFit, AreFull, Wraps, below}

-- ---- the columns of a line

line_columns-more : (line : Line) (word : List ℕ) → 0 < length line → line_columns (line ++ word ∷ []) ≡ line_columns line + 1 + columns word
line_columns-more line word some =
    let s : sum_by columns (line ++ word ∷ []) ≡ sum_by columns line + sum_by columns (word ∷ []) = sum_by-append columns line (word ∷ []) in
    let n : length (line ++ word ∷ []) ≡ length line + length (word ∷ []) = length-append line (word ∷ []) in
    omega arith

line_columns-one : (word : List ℕ) → line_columns (word ∷ []) ≡ columns word
line_columns-one word = omega arith

-- ---- the text of a line

line_text-more : (line : Line) (word : List ℕ) → 0 < length line → line_text (line ++ word ∷ []) ≡ line_text line ++ blank ∷ word
line_text-more [] word some = absurd (omega arith)
line_text-more (x ∷ []) word some = refl
line_text-more (x ∷ y ∷ more) word some = ap (λ l. x ++ blank ∷ l) (line_text-more (y ∷ more) word (omega arith)) ∙ sym (append_assoc x (blank ∷ line_text (y ∷ more)) (blank ∷ word))

further-last : (column : ℕ) (lines : List Line) (last : Line) (more : List ℕ) (grown : Line) → line_text grown ≡ line_text last ++ more
    → flat_map (λ (line : Line). (line_feed ∷ blanks column) ++ line_text line) (lines ++ grown ∷ []) ≡ flat_map (λ (line : Line). (line_feed ∷ blanks column) ++ line_text line) (lines ++ last ∷ []) ++ more
further-last column [] last more grown same =
    let start = line_feed ∷ blanks column in
    append-nil (start ++ line_text grown) ∙ ap (λ l. start ++ l) same ∙ sym (append_assoc start (line_text last) more) ∙ ap (λ l. l ++ more) (sym (append-nil (start ++ line_text last)))
further-last column (x ∷ xs) last more grown same =
    let start = line_feed ∷ blanks column in
    let others = flat_map (λ (line : Line). (line_feed ∷ blanks column) ++ line_text line) (xs ++ last ∷ []) in
    ap (λ l. (start ++ line_text x) ++ l) (further-last column xs last more grown same) ∙ sym (append_assoc (start ++ line_text x) others more)

-- the last line grows
below-last : (column : ℕ) (front : List Line) (last : Line) (more : List ℕ) (grown : Line) → line_text grown ≡ line_text last ++ more
    → below column (front ++ grown ∷ []) ≡ below column (front ++ last ∷ []) ++ more
below-last column [] last more grown same = append-nil (line_text grown) ∙ same ∙ ap (λ l. l ++ more) (sym (append-nil (line_text last)))
below-last column (x ∷ xs) last more grown same =
    ap (λ l. line_text x ++ l) (further-last column xs last more grown same)
    ∙ sym (append_assoc (line_text x) (flat_map (λ (line : Line). (line_feed ∷ blanks column) ++ line_text line) (xs ++ last ∷ [])) more)

-- one more line
below-more : (column : ℕ) (front : List Line) (last : Line) → 0 < length front → below column (front ++ last ∷ []) ≡ below column front ++ ((line_feed ∷ blanks column) ++ line_text last)
below-more column [] last some = absurd (omega arith)
below-more column (x ∷ xs) last some =
    let start = line_feed ∷ blanks column in
    let others = flat_map (λ (line : Line). (line_feed ∷ blanks column) ++ line_text line) xs in
    ap (λ l. line_text x ++ l) (flat_map-append (λ (line : Line). (line_feed ∷ blanks column) ++ line_text line) xs (last ∷ []) ∙ ap (λ l. others ++ l) (append-nil (start ++ line_text last)))
    ∙ sym (append_assoc (line_text x) others (start ++ line_text last))

-- ---- lines that fit and are full

AllFit-append : (limit : ℕ) (xs ys : List Line) → AllFit limit xs → AllFit limit ys → AllFit limit (xs ++ ys)
AllFit-append limit [] ys f g = g
AllFit-append limit (x ∷ xs) ys f g = (f.0, AllFit-append limit xs ys f.1 g)

AllFit-front : (limit : ℕ) (xs ys : List Line) → AllFit limit (xs ++ ys) → AllFit limit xs
AllFit-front limit [] ys f = tt
AllFit-front limit (x ∷ xs) ys f = (f.0, AllFit-front limit xs ys f.1)

AllFit-last : (limit : ℕ) (xs : List Line) (y : Line) → AllFit limit (xs ++ y ∷ []) → Fits limit y
AllFit-last limit [] y f = f.0
AllFit-last limit (x ∷ xs) y f = AllFit-last limit xs y f.1

-- a line that gets longer begins as before
AreFull-grows : (limit : ℕ) (front : List Line) (last : Line) (word : List ℕ) → 0 < length last → AreFull limit (front ++ last ∷ []) → AreFull limit (front ++ (last ++ word ∷ []) ∷ [])
AreFull-grows limit [] last word some full = tt
AreFull-grows limit (x ∷ []) [] word some full = absurd (omega arith)
AreFull-grows limit (x ∷ []) (w ∷ ws) word some full = full
AreFull-grows limit (x ∷ y ∷ more) last word some full = (full.0, AreFull-grows limit (y ∷ more) last word some full.1)

AreFull-more : (limit : ℕ) (front : List Line) (last : Line) (word : List ℕ) → limit < line_columns (last ++ word ∷ []) → AreFull limit (front ++ last ∷ []) → AreFull limit ((front ++ last ∷ []) ++ (word ∷ []) ∷ [])
AreFull-more limit [] last word none full = (none, tt)
AreFull-more limit (x ∷ []) last word none full = (full.0, (none, tt))
AreFull-more limit (x ∷ y ∷ more) last word none full = (full.0, AreFull-more limit (y ∷ more) last word none full.1)

in_order-more : (front : List Line) (last : Line) → flat_map (λ (line : Line). line) (front ++ last ∷ []) ≡ flat_map (λ (line : Line). line) front ++ last
in_order-more front last = flat_map-append (λ (line : Line). line) front (last ∷ []) ∙ ap (λ l. flat_map (λ (line : Line). line) front ++ l) (append-nil last)

-- ---- the words that are written

-- after these bytes come the words, on lines, with this much room left on the last
pub record Written (limit column : ℕ) (before : List ℕ) (words : List (List ℕ)) (room : ℕ) (text : List ℕ) : Type 0 where
  pub front : List Line
  pub last : Line
  pub wrapped : Wraps limit words (front ++ last ∷ [])
  pub room_is : room ≡ limit - line_columns last
  pub text_is : text ≡ before ++ below column (front ++ last ∷ [])

pub first_written : (limit column : ℕ) (before word : List ℕ) → Written limit column before (word ∷ []) (limit - columns word) (before ++ word)
first_written limit column before word = record {
  front = [];
  last = word ∷ [];
  wrapped = record { in_order = refl; fit = (record { words = omega arith; narrow = inr refl }, tt); full = tt };
  room_is = ap (λ n. limit - n) (sym (line_columns-one word));
  text_is = ap (λ l. before ++ l) (sym (append-nil word));
}

fits_more : (limit column : ℕ) (before : List ℕ) (words : List (List ℕ)) (room : ℕ) (text word : List ℕ) → Written limit column before words room text → columns word < room
    → Written limit column before (words ++ word ∷ []) (room - (columns word + 1)) (text ++ blank ∷ word)
fits_more limit column before words room text word w fits =
    let last_fits = AllFit-last limit w.front w.last w.wrapped.fit in
    let some : 0 < length w.last = last_fits.words in
    let c = line_columns-more w.last word some in
    let wide : line_columns (w.last ++ word ∷ []) ≤ limit = omega (arith, w.room_is) in
    let some_more : 0 < length (w.last ++ word ∷ []) = omega (arith, length-append w.last (word ∷ [])) in
    record {
      front = w.front;
      last = w.last ++ word ∷ [];
      wrapped = record {
        in_order = in_order-more w.front (w.last ++ word ∷ []) ∙ sym (append_assoc (flat_map (λ (line : Line). line) w.front) w.last (word ∷ []))
            ∙ ap (λ l. l ++ word ∷ []) (sym (in_order-more w.front w.last) ∙ w.wrapped.in_order);
        fit = AllFit-append limit w.front ((w.last ++ word ∷ []) ∷ []) (AllFit-front limit w.front (w.last ∷ []) w.wrapped.fit)
            (record { words = some_more; narrow = inl wide }, tt);
        full = AreFull-grows limit w.front w.last word some w.wrapped.full;
      };
      room_is = omega (arith, w.room_is);
      text_is = ap (λ l. l ++ blank ∷ word) w.text_is ∙ append_assoc before (below column (w.front ++ w.last ∷ [])) (blank ∷ word)
          ∙ ap (λ l. before ++ l) (sym (below-last column w.front w.last (blank ∷ word) (w.last ++ word ∷ []) (line_text-more w.last word some)));
    }

breaks_more : (limit column : ℕ) (before : List ℕ) (words : List (List ℕ)) (room : ℕ) (text word : List ℕ) → Written limit column before words room text → room ≤ columns word
    → Written limit column before (words ++ word ∷ []) (limit - columns word) (text ++ (line_feed ∷ blanks column ++ word))
breaks_more limit column before words room text word w none =
    let last_fits = AllFit-last limit w.front w.last w.wrapped.fit in
    let some : 0 < length w.last = last_fits.words in
    let c = line_columns-more w.last word some in
    let over : limit < line_columns (w.last ++ word ∷ []) = omega (arith, w.room_is) in
    record {
      front = w.front ++ w.last ∷ [];
      last = word ∷ [];
      wrapped = record {
        in_order = in_order-more (w.front ++ w.last ∷ []) (word ∷ []) ∙ ap (λ l. l ++ word ∷ []) w.wrapped.in_order;
        fit = AllFit-append limit (w.front ++ w.last ∷ []) ((word ∷ []) ∷ []) w.wrapped.fit (record { words = omega arith; narrow = inr refl }, tt);
        full = AreFull-more limit w.front w.last word over w.wrapped.full;
      };
      room_is = ap (λ n. limit - n) (sym (line_columns-one word));
      text_is = ap (λ l. l ++ (line_feed ∷ blanks column ++ word)) w.text_is ∙ append_assoc before (below column (w.front ++ w.last ∷ [])) (line_feed ∷ blanks column ++ word)
          ∙ ap (λ l. before ++ l) (sym (below-more column (w.front ++ w.last ∷ []) (word ∷ []) (omega (arith, length-append w.front (w.last ∷ [])))));
    }

-- one more word, on the last line if it has room
pub word_written : (limit column : ℕ) (before : List ℕ) (words : List (List ℕ)) (room : ℕ) (text word : List ℕ) → Written limit column before words room text
    → Written limit column before (words ++ word ∷ []) (cond (nat_lt (columns word) room) (room - (columns word + 1)) (limit - columns word))
    (text ++ cond (nat_lt (columns word) room) (blank ∷ word) (line_feed ∷ blanks column ++ word))
word_written limit column before words room text word w =
    elim (nat_lt (columns word) room) as (λ b. nat_lt (columns word) room ≡ b
    → Written limit column before (words ++ word ∷ []) (cond b (room - (columns word + 1)) (limit - columns word)) (text ++ cond b (blank ∷ word) (line_feed ∷ blanks column ++ word))) [
      | true ↦ λ is. fits_more limit column before words room text word w (ltb-true _ _ is)
      | false ↦ λ is. breaks_more limit column before words room text word w (ltb-false _ _ is)
    ] refl

written_as : (limit column : ℕ) (before : List ℕ) (words ws : List (List ℕ)) (room left : ℕ) (text t : List ℕ) → Written limit column before words room text → ws ≡ words → left ≡ room → t ≡ text
    → Written limit column before ws left t
written_as limit column before words ws room left text t w e f g =
    subst (λ (l : List (List ℕ)). Written limit column before l left t) (sym e)
    (record { front = w.front; last = w.last; wrapped = w.wrapped; room_is = f ∙ w.room_is; text_is = g ∙ w.text_is })

-- the first word is written
pub written_start : (limit column : ℕ) (before first : List ℕ) (needed room : ℕ) (text : List ℕ) → needed ≡ columns first → room ≡ limit - needed → text ≡ before ++ first
    → Written limit column before (first ∷ []) room text
written_start limit column before first needed room text e f g =
    written_as limit column before (first ∷ []) (first ∷ []) (limit - columns first) room (before ++ first) text (first_written limit column before first) refl (f ∙ ap (λ n. limit - n) e) g

-- one more word is written
pub written_next : (limit column : ℕ) (before first : List ℕ) (others : List (Bor (List ℕ))) (i : ℕ) (d : Bor (List ℕ)) (room left : ℕ) (text t : List ℕ) → i < length others
    → Written limit column before (first ∷ map (λ (w : Bor (List ℕ)). w.now) (take i others)) room text
    → t ≡ text ++ cond (nat_lt (columns (get_or others i d).now) room) (blank ∷ (get_or others i d).now) (line_feed ∷ blanks column ++ (get_or others i d).now)
    → left ≡ cond (nat_lt (columns (get_or others i d).now) room) (room - (columns (get_or others i d).now + 1)) (limit - columns (get_or others i d).now)
    → Written limit column before (first ∷ map (λ (w : Bor (List ℕ)). w.now) (take (i + 1) others)) left t
written_next limit column before first others i d room left text t within w g f =
    let words = first ∷ map (λ (x : Bor (List ℕ)). x.now) (take i others) in
    let e = take_more others i d within in
    written_as limit column before (words ++ (get_or others i d).now ∷ []) (first ∷ map (λ (x : Bor (List ℕ)). x.now) (take (i + 1) others)) _ left _ t (word_written limit column before words room text (get_or others i d).now w)
    (ap (λ (l : List (Bor (List ℕ))). first ∷ map (λ (x : Bor (List ℕ)). x.now) l) e ∙ ap (λ l. first ∷ l) (map-append (λ (x : Bor (List ℕ)). x.now) (take i others) (get_or others i d ∷ []))) f g

-- ---- words can be put on lines

all_written : (limit column : ℕ) (before : List ℕ) (words more : List (List ℕ)) (room : ℕ) (text : List ℕ) → Written limit column before words room text → (lines : List Line) × Wraps limit (words ++ more) lines
all_written limit column before words [] room text w =
    (w.front ++ w.last ∷ [], subst (λ (l : List (List ℕ)). Wraps limit l (w.front ++ w.last ∷ [])) (sym (append-nil words)) w.wrapped)
all_written limit column before words (m ∷ more) room text w =
    let others = all_written limit column before (words ++ m ∷ []) more _ _ (word_written limit column before words room text m w) in
    (others.0, subst (λ (l : List (List ℕ)). Wraps limit l others.0) (append_assoc words (m ∷ []) more) others.1)

pub some_wrapping : (limit : ℕ) (words : List (List ℕ)) → (lines : List Line) × Wraps limit words lines
some_wrapping limit [] = ([], record { in_order = refl; fit = tt; full = tt })
some_wrapping limit (word ∷ words) = all_written limit 0 [] (word ∷ []) words _ _ (first_written limit 0 [] word)

-- ---- texts one after another

-- these bytes, and then a text for each of these, added in this way
pub record Listed {X : Type 0} (Is : X → List ℕ → Type 0) (put : List ℕ → List ℕ) (before : List ℕ) (xs : List X) (text : List ℕ) : Type 0 where
  pub texts : List (List ℕ)
  pub each : AllZip Is xs texts
  pub text_is : text ≡ before ++ flat_map put texts

AllZip-more : {X : Type 0} (Is : X → List ℕ → Type 0) (xs : List X) (ts : List (List ℕ)) (x : X) (t : List ℕ) → AllZip Is xs ts → Is x t → AllZip Is (xs ++ x ∷ []) (ts ++ t ∷ [])
AllZip-more Is [] [] x t all is = (is, tt)
AllZip-more Is (z ∷ zs) (y ∷ ys) x t all is = (all.0, AllZip-more Is zs ys x t all.1 is)
AllZip-more Is xs ts x t all is = absurd all

pub one_listed : {X : Type 0} (Is : X → List ℕ → Type 0) (put : List ℕ → List ℕ) (before : List ℕ) (xs : List X) (text : List ℕ) (x : X) (t : List ℕ) → Listed Is put before xs text → Is x t
    → Listed Is put before (xs ++ x ∷ []) (text ++ put t)
one_listed Is put before xs text x t l is = record {
  texts = l.texts ++ t ∷ [];
  each = AllZip-more Is xs l.texts x t l.each is;
  text_is = ap (λ bs. bs ++ put t) l.text_is ∙ flat_map_more put before l.texts t;
}

-- the elements that pass a test, with one more
pub filtered_more : {O X : Type 0} (view : O → X) (all : List O) (i : ℕ) (d : O) → i < length all → (test : X → Bool) (b : Bool) → test (view (get_or all i d)) ≡ b
    → filter test (map view (take (i + 1) all)) ≡ filter test (map view (take i all)) ++ cond b (view (get_or all i d) ∷ []) []
filtered_more view all i d within test b is =
    ap (filter test) (map_more view all i d within) ∙ filter-append test (map view (take i all)) (view (get_or all i d) ∷ [])
    ∙ ap (λ (c : Bool). filter test (map view (take i all)) ++ cond c (view (get_or all i d) ∷ []) []) is

module _ {O X : Type 0} (view : O → X) (Is : X → List ℕ → Type 0) (put : List ℕ → List ℕ) (before : List ℕ) (all : List O) (i : ℕ) (d : O) (text : List ℕ) (within : i < length all) where
  -- one more
  pub listed_next : (t more : List ℕ) → Listed Is put before (map view (take i all)) text → Is (view (get_or all i d)) more → t ≡ text ++ put more
      → Listed Is put before (map view (take (i + 1) all)) t
  listed_next t more l is same =
      subst (λ (xs : List X). Listed Is put before xs t) (sym (map_more view all i d within))
      (subst (λ (bs : List ℕ). Listed Is put before (map view (take i all) ++ view (get_or all i d) ∷ []) bs) (sym same) (one_listed Is put before (map view (take i all)) text (view (get_or all i d)) more l is))

  -- one more that passes the test
  pub listed_kept : (test : X → Bool) (t more : List ℕ) → test (view (get_or all i d)) ≡ true → Listed Is put before (filter test (map view (take i all))) text → Is (view (get_or all i d)) more → t ≡ text ++ put more
      → Listed Is put before (filter test (map view (take (i + 1) all))) t
  listed_kept test t more passes l is same =
      subst (λ (xs : List X). Listed Is put before xs t) (sym (filtered_more view all i d within test true passes))
      (subst (λ (bs : List ℕ). Listed Is put before (filter test (map view (take i all)) ++ view (get_or all i d) ∷ []) bs) (sym same)
      (one_listed Is put before (filter test (map view (take i all))) text (view (get_or all i d)) more l is))

  -- one more that does not pass the test
  pub listed_left_out : (test : X → Bool) → test (view (get_or all i d)) ≡ false → Listed Is put before (filter test (map view (take i all))) text
      → Listed Is put before (filter test (map view (take (i + 1) all))) text
  listed_left_out test fails l =
      subst (λ (xs : List X). Listed Is put before xs text) (sym (filtered_more view all i d within test false fails ∙ append-nil (filter test (map view (take i all))))) l
