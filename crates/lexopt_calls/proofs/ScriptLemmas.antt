-- Scripts, one line and one byte at a time.
use Rattle.std.proofs.Common.{◌≡◌, ◌≢◌, ℕ, ◌+◌, ◌<◌, ◌≤◌, Bool, true, false, ◌==◌, ◌||◌, List, [], ◌∷◌, ◌++◌, length, get_or, take, drop, Option, Some, None, refl, sym, ap, ◌∙◌, arith, append_assoc, append-nil}
use Rattle.std.specs.List.{filter_map, cons_option}
use Rattle.std.specs.Option.{option_map, option_to_list}
use Rattle.std.proofs.Math.Bool.{or-false, or_assoc}
use Rattle.std.proofs.lemmas.Bool.{ne_eqb, eq-eqb, cond-false, cond-true}
use Rattle.bstr.specs.Utf8.{decoded}
use Rattle.std.proofs.lemmas.List.{at_drop_more, at_drop_all, take_all}
use Rattle.lexopt_line_spec.specs.Table.{Table}
use Rattle.lexopt_calls.specs.Script.{backslash, lines_of, in_front, unescaped, after_backslash, one_character, Command, Entry, Meaning, nothing, word, entry, command, bad, meaning, reads_words, is_reading, is_bad, first_bad, bad_line, word_of, entry_of, command_of, words_of, commands_of, table_with, table_of}

-- ---- a text

pub unescaped-plain : (b : ℕ) (bs : List ℕ) → b ≢ backslash → unescaped (b ∷ bs) ≡ in_front b (unescaped bs)
unescaped-plain b bs plain = cond-false (b == backslash) (after_backslash bs) (in_front b (unescaped bs)) (ne_eqb b backslash plain)

append-in_front : (done : List ℕ) (b : ℕ) (more : Option (List ℕ)) → option_map (λ bs. done ++ bs) (in_front b more) ≡ option_map (λ bs. (done ++ b ∷ []) ++ bs) more
append-in_front done b None = refl
append-in_front done b (Some bs) = ap Some (sym (append_assoc done (b ∷ []) bs))

-- one more byte of a text of a script
pub unescaped_step : (done new rest after : List ℕ) (b : ℕ) (all : Option (List ℕ)) → unescaped rest ≡ in_front b (unescaped after) → new ≡ done ++ b ∷ []
    → option_map (λ bs. done ++ bs) (unescaped rest) ≡ all → option_map (λ bs. new ++ bs) (unescaped after) ≡ all
unescaped_step done new rest after b all is is_new so_far =
    rw is_new (sym (append-in_front done b (unescaped after)) ∙ ap (option_map (λ bs. done ++ bs)) (sym is) ∙ so_far)

-- the first piece is a character, and has all the bytes
pub whole_character : (bs : List ℕ) (n c : ℕ) → (decoded bs).size ≡ n → n ≡ length bs → (decoded bs).char ≡ Some c → Some c ≡ one_character bs
whole_character bs n c size all char =
    let same : length (take (decoded bs).size bs) ≡ length bs =
    ap length (ap (λ k. take k bs) (size ∙ all) ∙ take_all (length bs) bs (omega arith)) in
    sym char ∙ sym (cond-true (length (take (decoded bs).size bs) == length bs) (decoded bs).char None (eq-eqb _ _ same))

-- ---- the first lines of a script

-- one of these commands reads the words
abbrev pub called : List Command → Bool
called [] = false
called (c ∷ cs) = reads_words c || called cs

pub called-append : (cs : List Command) (m : Meaning) → called (cs ++ option_to_list (command_of m)) ≡ (called cs || is_reading m)
called-append [] nothing = refl
called-append [] (word bytes) = refl
called-append [] (entry e) = refl
called-append [] (command c) = or-false (reads_words c)
called-append [] bad = refl
called-append (c ∷ cs) m = ap (λ b. reads_words c || b) (called-append cs m) ∙ sym (or_assoc (reads_words c) (called cs) (is_reading m))

table-cons_option : (t : Table) (o : Option Entry) (es : List Entry) → table_with (table_with t (option_to_list o)) es ≡ table_with t (cons_option o es)
table-cons_option t None es = refl
table-cons_option t (Some e) es = refl

append-cons_option : {X : Type 0} (done : List X) (o : Option X) (xs : List X) → (done ++ option_to_list o) ++ xs ≡ done ++ cons_option o xs
append-cons_option done None xs = ap (λ l. l ++ xs) (append-nil done)
append-cons_option done (Some x) xs = append_assoc done (x ∷ []) xs

-- the first `n` lines have these words, this table and these commands, and none is bad
pub record ReadsTo (script : List ℕ) (n : ℕ) (words : List (List ℕ)) (t : Table) (commands : List Command) : Type 0 where
  pub words_are : words ++ filter_map (λ line. word_of (meaning line)) (drop n (lines_of script)) ≡ words_of script
  pub table_is : table_with t (filter_map (λ line. entry_of (meaning line)) (drop n (lines_of script))) ≡ table_of script
  pub commands_are : commands ++ filter_map (λ line. command_of (meaning line)) (drop n (lines_of script)) ≡ commands_of script
  pub none_bad : first_bad (n + 1) (called commands) (drop n (lines_of script)) ≡ bad_line script

next_line : (lines : List (List ℕ)) (n : ℕ) (line : List ℕ) → n < length lines → line ≡ get_or lines n line → drop n lines ≡ line ∷ drop (n + 1) lines
next_line lines n line within is = at_drop_more (λ l. l) lines n line within ∙ ap (λ l. l ∷ drop (n + 1) lines) (sym is)

pub ReadsTo-more : (script : List ℕ) (n n' : ℕ) (words words' : List (List ℕ)) (t t' : Table) (commands commands' : List Command) (line : List ℕ) (m : Meaning)
    → n < length (lines_of script) → line ≡ get_or (lines_of script) n line → meaning line ≡ m → is_bad (called commands) m ≡ false
    → n' ≡ n + 1 → words' ≡ words ++ option_to_list (word_of m) → t' ≡ table_with t (option_to_list (entry_of m))
    → commands' ≡ commands ++ option_to_list (command_of m) → ReadsTo script n words t commands → ReadsTo script n' words' t' commands'
ReadsTo-more script n n' words words' t t' commands commands' line m within is says good is_n is_words is_table is_commands so_far =
    let lines = lines_of script in
    let left = next_line lines n line within is in
    let later = drop (n + 1) lines in
    let fine = ap (is_bad (called commands)) says ∙ good in
    rw (is_n, is_words, is_table, is_commands, ← says)
    record {
      words_are = append-cons_option words (word_of (meaning line)) (filter_map (λ l. word_of (meaning l)) later)
          ∙ ap (λ ls. words ++ filter_map (λ l. word_of (meaning l)) ls) (sym left) ∙ so_far.words_are;
      table_is = table-cons_option t (entry_of (meaning line)) (filter_map (λ l. entry_of (meaning l)) later)
          ∙ ap (λ ls. table_with t (filter_map (λ l. entry_of (meaning l)) ls)) (sym left) ∙ so_far.table_is;
      commands_are = append-cons_option commands (command_of (meaning line)) (filter_map (λ l. command_of (meaning l)) later)
          ∙ ap (λ ls. commands ++ filter_map (λ l. command_of (meaning l)) ls) (sym left) ∙ so_far.commands_are;
      none_bad = ap (λ b. first_bad (n + 1 + 1) b later) (called-append commands (meaning line))
          ∙ sym (cond-false (is_bad (called commands) (meaning line)) (Some (n + 1)) (first_bad (n + 1 + 1) (called commands || is_reading (meaning line)) later) fine)
          ∙ ap (first_bad (n + 1) (called commands)) (sym left) ∙ so_far.none_bad;
    }

pub ReadsTo-bad : (script : List ℕ) (n : ℕ) (words : List (List ℕ)) (t : Table) (commands : List Command) (line : List ℕ) (m : Meaning)
    → n < length (lines_of script) → line ≡ get_or (lines_of script) n line → meaning line ≡ m → is_bad (called commands) m ≡ true
    → ReadsTo script n words t commands → bad_line script ≡ Some (n + 1)
ReadsTo-bad script n words t commands line m within is says wrong so_far =
    let lines = lines_of script in
    let later = drop (n + 1) lines in
    sym so_far.none_bad ∙ ap (first_bad (n + 1) (called commands)) (next_line lines n line within is)
    ∙ cond-true (is_bad (called commands) (meaning line)) (Some (n + 1)) (first_bad (n + 1 + 1) (called commands || is_reading (meaning line)) later)
    (ap (is_bad (called commands)) says ∙ wrong)

pub ReadsTo-end : (script : List ℕ) (n : ℕ) (words : List (List ℕ)) (t : Table) (commands : List Command) → length (lines_of script) ≤ n
    → ReadsTo script n words t commands → (words ≡ words_of script) × (t ≡ table_of script) × (commands ≡ commands_of script) × (bad_line script ≡ None)
ReadsTo-end script n words t commands all so_far =
    let lines = lines_of script in
    let none = at_drop_all (λ l. l) lines n all in (
      sym (append-nil words) ∙ ap (λ ls. words ++ filter_map (λ l. word_of (meaning l)) ls) (sym none) ∙ so_far.words_are,
      ap (λ ls. table_with t (filter_map (λ l. entry_of (meaning l)) ls)) (sym none) ∙ so_far.table_is,
      sym (append-nil commands) ∙ ap (λ ls. commands ++ filter_map (λ l. command_of (meaning l)) ls) (sym none) ∙ so_far.commands_are,
      sym so_far.none_bad ∙ ap (first_bad (n + 1) (called commands)) none,
    )
