-- A declaration has one help.
use Rattle.std.proofs.Common.{◌≡◌, ◌≤◌, ◌<◌, ◌⊎◌, ℕ, ◌+◌, ◌-◌, suc, zero, cond, List, [], ◌∷◌, ◌++◌, length, take, drop, refl, sym, ap, subst, ◌∙◌, arith, inl, inr, append_assoc, length-append, codes, ⊎_elim}
use Rattle.std.proofs.lemmas.Bool.{cases_lt, le-leb, lt-leb}
use Rattle.std.proofs.lemmas.List.{append_cancel_left, take-append-le, take-append-drop}
use Rattle.std.proofs.lemmas.List.Sums.{sum_by-append}
use Rattle.std.proofs.Math.Seq.{take-append_seam}
use Rattle.std.specs.Prelude.{Contains}
use Rattle.std.specs.List.{AllZip, concat, flat_map, sum_by}
use Rattle.lexopt_options_spec.specs.Declaration.{Declared, Declaration, Detail, Positional}
use Rattle.lexopt_options_spec.specs.Help.{columns, help_column, blanks, Line, line_columns, Fits, AllFit, AreFull, Wraps, below, gap, entry, label, words_of, heading_lines, option_text, options_part, positional_text, IsEntry, IsOption, IsUsage, IsUsageLine, IsParagraph, IsHelp, first_usage, usage_column, paragraph, described, entered, set_apart, shown_epilogue, line_feed}
use Rattle.lexopt_options_spec.proofs.Wrapping.{some_wrapping}

abbrev words_in : List Line → List (List ℕ)
words_in lines = flat_map (λ (line : Line). line) lines

-- a longer line has at least as many columns
wider : (front more : Line) → line_columns front ≤ line_columns (front ++ more)
wider front more =
    let s : sum_by columns (front ++ more) ≡ sum_by columns front + sum_by columns more = sum_by-append columns front more in
    let n : length (front ++ more) ≡ length front + length more = length-append front more in
    omega arith

-- the first words of a line
front_of : (front : Line) (word : List ℕ) (rest : List (List ℕ)) (line : Line) (others : List (List ℕ)) → front ++ word ∷ rest ≡ line ++ others → length front < length line
    → (more : Line) × (line ≡ (front ++ word ∷ []) ++ more)
front_of front word rest line others same shorter =
    let one : length (front ++ word ∷ []) ≡ length front + length (word ∷ []) = length-append front (word ∷ []) in
    let n = length (front ++ word ∷ []) in
    let within : n ≤ length line = omega arith in
    let left : take n (front ++ word ∷ rest) ≡ front ++ word ∷ [] = ap (take n) (sym (append_assoc front (word ∷ []) rest)) ∙ take-append_seam (front ++ word ∷ []) rest in
    let right : take n (line ++ others) ≡ take n line = take-append-le n line others within in
    let e : take n line ≡ front ++ word ∷ [] = sym right ∙ sym (ap (take n) same) ∙ left in
    (drop n line, sym (take-append-drop n line) ∙ ap (λ l. l ++ drop n line) e)

not_both : (limit : ℕ) (l : Line) (w : List ℕ) (m : Line) → limit < line_columns (l ++ w ∷ []) → line_columns (l ++ w ∷ []) ≤ line_columns m → (line_columns m ≤ limit) ⊎ (length m ≡ 1) → 0 < length l → length l < length m → ⊥
not_both limit l w m over wide fits some shorter = grind arith

full_tail : (limit : ℕ) (l : Line) (ls : List Line) → AreFull limit (l ∷ ls) → AreFull limit ls
full_tail limit l [] full = tt
full_tail limit l (m ∷ ms) full = full.1

-- if both begin with the same words, a full line has at least as many words as one that fits
not_shorter : (limit : ℕ) (l : Line) (ls : List Line) (m : Line) (others : List (List ℕ)) → AllFit limit (l ∷ ls) → AreFull limit (l ∷ ls) → Fits limit m → l ++ words_in ls ≡ m ++ others → length l < length m → ⊥
not_shorter limit l [] m others fit full fits same shorter =
    let a : length (l ++ []) ≡ length l + length {A = List ℕ} [] = length-append l [] in
    let b : length (m ++ others) ≡ length m + length others = length-append m others in
    let c : length (l ++ []) ≡ length (m ++ others) = ap length same in
    absurd (omega arith)
not_shorter limit l ([] ∷ ls) m others fit full fits same shorter = absurd (omega (arith, fit.1.0.words))
not_shorter limit l ((w ∷ ws) ∷ ls) m others fit full fits same shorter =
    let p = front_of l w (ws ++ words_in ls) m others same shorter in
    let wide : line_columns (l ++ w ∷ []) ≤ line_columns m = subst (λ (x : Line). line_columns (l ++ w ∷ []) ≤ line_columns x) (sym p.1) (wider (l ++ w ∷ []) p.0) in
    not_both limit l w m full.0 wide fits.narrow fit.0.words shorter

one_wrapping : (limit : ℕ) (ls ms : List Line) → words_in ls ≡ words_in ms → AllFit limit ls → AllFit limit ms → AreFull limit ls → AreFull limit ms → ls ≡ ms
one_wrapping limit [] [] same f g h k = refl
one_wrapping limit [] (m ∷ ms) same f g h k = absurd (omega (arith, g.0.words, ap length same ∙ length-append m (words_in ms)))
one_wrapping limit (l ∷ ls) [] same f g h k = absurd (omega (arith, f.0.words, ap length same, length-append l (words_in ls)))
one_wrapping limit (l ∷ ls) (m ∷ ms) same f g h k =
    let a : length l ≡ length m = (let no_less = not_shorter limit l ls m (words_in ms) f h g.0 same in let no_more = not_shorter limit m ms l (words_in ls) g k f.0 (sym same) in omega (arith, no_less, no_more)) in
    let e : l ≡ m = sym (take-append_seam l (words_in ls)) ∙ ap (take (length l)) same ∙ ap (λ n. take n (m ++ words_in ms)) a ∙ take-append_seam m (words_in ms) in
    let rest : words_in ls ≡ words_in ms = append_cancel_left m (words_in ls) (words_in ms) (ap (λ (x : Line). x ++ words_in ls) (sym e) ∙ same) in
    ap (λ (x : Line). x ∷ ls) e ∙ ap (λ (x : List Line). m ∷ x) (one_wrapping limit ls ms rest f.1 g.1 (full_tail limit l ls h) (full_tail limit m ms k))

same_lines : (limit : ℕ) (words : List (List ℕ)) (ls ms : List Line) → Wraps limit words ls → Wraps limit words ms → ls ≡ ms
same_lines limit words ls ms a b = one_wrapping limit ls ms (a.in_order ∙ sym b.in_order) a.fit b.fit a.full b.full

one_usage_line : (width : ℕ) (words : List (List ℕ)) (s t : List ℕ) → IsUsageLine width words s → IsUsageLine width words t → s ≡ t
one_usage_line width words s t a b =
    a.written ∙ ap (λ (l : List Line). below usage_column l ++ line_feed ∷ []) (same_lines (width - usage_column) words a.lines b.lines a.wrapped b.wrapped) ∙ sym b.written

one_entry : (width : ℕ) (shown help s t : List ℕ) → IsEntry width shown help s → IsEntry width shown help t → s ≡ t
one_entry width shown help s t a b =
    a.written ∙ ap (entry (help_column width) shown) (same_lines (width - help_column width) (words_of help) a.lines b.lines a.wrapped b.wrapped) ∙ sym b.written

one_option : (detail : Detail) (width : ℕ) (o : Declared) (s t : List ℕ) → IsOption detail width o s → IsOption detail width o t → s ≡ t
one_option detail width o s t a b = a.written ∙ ap (λ l. heading_lines o.heading ++ l) (one_entry width (label o) (option_text detail o) a.own b.own a.is_entry b.is_entry) ∙ sym b.written

one_paragraph : (width : ℕ) (content s t : List ℕ) → IsParagraph width content s → IsParagraph width content t → s ≡ t
one_paragraph width content s t a b = a.written ∙ ap paragraph (same_lines width (words_of content) a.lines b.lines a.wrapped b.wrapped) ∙ sym b.written

-- if each has only one text, all have only one
same_texts : {X : Type 0} (Is : X → List ℕ → Type 0) → ((x : X) (s t : List ℕ) → Is x s → Is x t → s ≡ t) → (xs : List X) (ss ts : List (List ℕ)) → AllZip Is xs ss → AllZip Is xs ts → ss ≡ ts
same_texts Is one [] [] [] a b = refl
same_texts Is one (x ∷ xs) (s ∷ ss) (t ∷ ts) a b = ap (λ (e : List ℕ). e ∷ ss) (one x s t a.0 b.0) ∙ ap (λ (es : List (List ℕ)). t ∷ es) (same_texts Is one xs ss ts a.1 b.1)
same_texts Is one xs ss ts a b = search

pub one_usage : (d : Declaration) (width : ℕ) (s t : List ℕ) → IsUsage width d s → IsUsage width d t → s ≡ t
one_usage d width s t a b =
    let first = one_usage_line width (first_usage d d.usage) a.first b.first a.first_line b.first_line in
    let others = same_texts (λ own. IsUsageLine width (d.program ∷ words_of own)) (λ own. one_usage_line width (d.program ∷ words_of own)) (drop 1 d.usage) a.others b.others a.other_lines b.other_lines in
    cc (a.written, b.written)

pub one_help : (detail : Detail) (d : Declaration) (width : ℕ) (s t : List ℕ) → IsHelp detail d width s → IsHelp detail d width t → s ≡ t
one_help detail d width s t a b =
    let usage = one_usage d width a.usage b.usage a.usage_first b.usage_first in
    let about = one_paragraph width d.about a.about b.about a.about_next b.about_next in
    let positionals = same_texts (λ (p : Positional). IsEntry width p.placeholder (positional_text p)) (λ p. one_entry width p.placeholder (positional_text p)) (described d.positionals) a.positionals b.positionals a.each_positional b.each_positional in
    let options = same_texts (IsOption detail width) (one_option detail width) (entered d.options) a.options b.options a.each_option b.each_option in
    let epilogue = same_texts (IsParagraph width) (one_paragraph width) (shown_epilogue detail d.epilogue) a.epilogue b.epilogue a.each_paragraph b.each_paragraph in
    cc (a.written, b.written)

-- ---- a declaration has a help

some_usage_line : (width : ℕ) (words : List (List ℕ)) → (text : List ℕ) × IsUsageLine width words text
some_usage_line width words =
    let w = some_wrapping (width - usage_column) words in
    (below usage_column w.0 ++ line_feed ∷ [], record { lines = w.0; wrapped = w.1; written = refl })

some_entry : (width : ℕ) (shown help : List ℕ) → (text : List ℕ) × IsEntry width shown help text
some_entry width shown help =
    let w = some_wrapping (width - help_column width) (words_of help) in
    (entry (help_column width) shown w.0, record { lines = w.0; wrapped = w.1; written = refl })

some_option : (detail : Detail) (width : ℕ) (o : Declared) → (text : List ℕ) × IsOption detail width o text
some_option detail width o =
    let e = some_entry width (label o) (option_text detail o) in
    (heading_lines o.heading ++ e.0, record { own = e.0; is_entry = e.1; written = refl })

some_paragraph : (width : ℕ) (content : List ℕ) → (text : List ℕ) × IsParagraph width content text
some_paragraph width content =
    let w = some_wrapping width (words_of content) in
    (paragraph w.0, record { lines = w.0; wrapped = w.1; written = refl })

-- if each has a text, all have one
some_texts : {X : Type 0} (Is : X → List ℕ → Type 0) → ((x : X) → (text : List ℕ) × Is x text) → (xs : List X) → (texts : List (List ℕ)) × AllZip Is xs texts
some_texts Is some [] = ([], tt)
some_texts Is some (x ∷ xs) =
    let t = some x in
    let ts = some_texts Is some xs in
    (t.0 ∷ ts.0, (t.1, ts.1))

pub some_usage : (d : Declaration) (width : ℕ) → (text : List ℕ) × IsUsage width d text
some_usage d width =
    let f = some_usage_line width (first_usage d d.usage) in
    let os = some_texts (λ own. IsUsageLine width (d.program ∷ words_of own)) (λ own. some_usage_line width (d.program ∷ words_of own)) (drop 1 d.usage) in (
      codes "Usage: " ++ f.0 ++ flat_map (λ line. codes "  or:  " ++ line) os.0,
      record { first = f.0; others = os.0; first_line = f.1; other_lines = os.1; written = refl },
    )

pub some_help : (detail : Detail) (d : Declaration) (width : ℕ) → (text : List ℕ) × IsHelp detail d width text
some_help detail d width =
    let u = some_usage d width in
    let a = some_paragraph width d.about in
    let ps = some_texts (λ (p : Positional). IsEntry width p.placeholder (positional_text p)) (λ p. some_entry width p.placeholder (positional_text p)) (described d.positionals) in
    let os = some_texts (IsOption detail width) (some_option detail width) (entered d.options) in
    let es = some_texts (IsParagraph width) (some_paragraph width) (shown_epilogue detail d.epilogue) in (
      u.0 ++ a.0 ++ set_apart (concat ps.0) ++ options_part (concat os.0) ++ flat_map set_apart es.0,
      record {
        usage = u.0;
        about = a.0;
        positionals = ps.0;
        options = os.0;
        epilogue = es.0;
        usage_first = u.1;
        about_next = a.1;
        each_positional = ps.1;
        each_option = os.1;
        each_paragraph = es.1;
        written = refl;
      },
    )

-- ---- widths

fits_at : (limit : ℕ) (lines : List Line) (line : Line) → AllFit limit lines → Contains lines line → Fits limit line
fits_at limit [] line fit there = absurd (omega (arith, there.1))
fits_at limit (l ∷ ls) line fit (zero, within, is) = subst (λ (x : Line). Fits limit x) is fit.0
fits_at limit (l ∷ ls) line fit (suc k, within, is) = fits_at limit ls line fit.1 (k, omega arith, is)

narrow_by : (width column wide n : ℕ) → column ≤ width → (wide ≤ width - column) ⊎ (n ≡ 1) → (column + wide ≤ width) ⊎ (n ≡ 1)
narrow_by width column wide n within (inl fits) = inl (omega arith)
narrow_by width column wide n within (inr one) = inr one

-- if the width is less than the column, no line has two words
no_room : (width column : ℕ) (line : Line) → width < column → 0 < length line → (line_columns line ≤ width - column) ⊎ (length line ≡ 1) → length line ≡ 1
no_room width column line over some (inl narrow) = omega arith
no_room width column line over some (inr one) = one

-- a line that begins at this column ends within the width, or is one word
narrow_or_one : (width column : ℕ) (line : Line) → Fits (width - column) line → (column + line_columns line ≤ width) ⊎ (length line ≡ 1)
narrow_or_one width column line fits = ⊎_elim
    (λ over. inr (no_room width column line over fits.words fits.narrow))
    (λ within. narrow_by width column (line_columns line) (length line) within fits.narrow)
    (cases_lt width column)

pub narrow_entry : (width : ℕ) (shown help text : List ℕ) (e : IsEntry width shown help text) (line : Line) → Contains e.lines line → (help_column width + line_columns line ≤ width) ⊎ (length line ≡ 1)
narrow_entry width shown help text e line there = narrow_or_one width (help_column width) line (fits_at (width - help_column width) e.lines line e.wrapped.fit there)

pub narrow_usage : (width : ℕ) (words : List (List ℕ)) (text : List ℕ) (u : IsUsageLine width words text) (line : Line) → Contains u.lines line → (usage_column + line_columns line ≤ width) ⊎ (length line ≡ 1)
narrow_usage width words text u line there = narrow_or_one width usage_column line (fits_at (width - usage_column) u.lines line u.wrapped.fit there)

pub narrow_paragraph : (width : ℕ) (content text : List ℕ) (p : IsParagraph width content text) (line : Line) → Contains p.lines line → (line_columns line ≤ width) ⊎ (length line ≡ 1)
narrow_paragraph width content text p line there = (fits_at width p.lines line p.wrapped.fit there).narrow

pub gap_same_line : (column : ℕ) (text : List ℕ) → columns text + 4 ≤ column → (n : ℕ) × (2 ≤ n) × (gap column text ≡ blanks n) × (2 + columns text + n ≡ column)
gap_same_line column text room =
    (column - (columns text + 2), omega arith, ap (λ b. cond b (blanks (column - (columns text + 2))) (line_feed ∷ blanks column)) (le-leb _ _ room), omega arith)

pub gap_next_line : (column : ℕ) (text : List ℕ) → column < columns text + 4 → gap column text ≡ line_feed ∷ blanks column
gap_next_line column text none = ap (λ b. cond b (blanks (column - (columns text + 2))) (line_feed ∷ blanks column)) (lt-leb _ _ none)
