-- What the reading of a whole line means.
use Rattle.lexopt_options.proofs.Common.{append_assoc, ◌≡◌, ◌≤◌, ◌<◌, ◌-◌, ℕ, suc, length, take, arith, true, false, List, [], ◌∷◌, ◌++◌, refl, sym, ap, subst, ◌∙◌, list_any, is_some, false≢true}
use Rattle.lexopt_options.proofs.Common.{UnreadLine, Next, start, Declaration, is_sound, Means, MeansFront, are_accepted, most, positional_count, positional_words, AreTaken, IsNotTaken, least}
use Rattle.lexopt_options.proofs.Common.{some_places, all_but_last, first_asked, ReadsUpTo, Stops, required_placeholder, Bor, Names, Options, Line, declaration_of, options_of, positionals_of}
use Rattle.lexopt_options.proofs.Common.{AreParsedAs, asked_view, IsLineOf, IsLineRead, LineMeans, AreNames, IsMistake, has_list}
use Rattle.lexopt_spec.specs.Steps as steps
use Rattle.lexopt_line_spec.specs.Spelling as spelling
use Rattle.lexopt_options_spec.specs.Declaration.{has}
use Rattle.lexopt_options_spec.specs.Legal as legal
use Rattle.lexopt_options_spec.proofs.Taken.{words_count, zero_within}
use Rattle.lexopt_options_spec.specs.Stops as stops
use Rattle.lexopt_options_spec.specs.Stops.{IsFirstClash}
use Rattle.lexopt_options_spec.proofs.Fronts.{front_later, nothing_parsed, one_front, whole_front}
use Rattle.lexopt_options.specs.declared.mistake.Mistake.{Mistake}
use Rattle.lexopt_options.specs.declared.mistake.Mistake.TheVariants as mistake
use Rattle.lexopt_options.specs.declared.refused.Line.TheVariants as line
use Rattle.lexopt_declaration.specs.declared.declaration.Declared as declared
use Rattle.lexopt_options.specs.declared.parsed.Parsed.{Parsed}
use Rattle.lexopt_options.proofs.Keys.{asked_here}
use Rattle.lexopt_options.specs.Reading.{AreSeen, IsFirstUnseen, IsRight, IsWrong}
use Rattle.lexopt_options.specs.Reading.{AllSeen}
use Rattle.lexopt_options.proofs.Defaults.{as_read, required_noted}
use Rattle.lexopt_options.proofs.Seen.{absent_apart, apart_so, clash_so, none_required}
use Rattle.lexopt_options.proofs.TakenWords.{all_taken}

counted_so : (d : Declaration) (l : List legal.Parsed) (words : List (List ℕ)) → positional_words l ≡ words → positional_count l ≡ length words
counted_so d l words is = sym (words_count l) ∙ ap length is

pub line_parsed : (d : Declaration) (words : List (List ℕ)) (l : List legal.Parsed) (v w : UnreadLine) (own : List (List ℕ)) (seen : List ℕ) → is_sound d.options ≡ true
    → ReadsUpTo d (start d.short_equals words) l v → positional_words l ≡ own → AreSeen d.options l seen → Next v steps.end w → IsRight d own seen → are_accepted d.options l ≡ true → Means d words l
line_parsed d words l v w own seen sound read words_are are_seen ends right accepted = record {
  whole = record {
    front = whole_front d words l v w sound read ends;
    enough = subst (λ n. least d.positionals ≤ n) (sym (counted_so d l own words_are)) right.enough;
    complete = λ i is. sym (are_seen i (required_noted d.options i is)) ∙ right.all i is;
    accepted = accepted;
    taken = subst (AreTaken d.positionals) (sym words_are) right.taken;
  };
  apart = apart_so d.options l seen are_seen right.apart;
}

-- no words mean the empty list, if nothing has to be in a line and no option has a default
pub no_words : {F V P M S : Type 0} (o : Options F V P M S) (parsed : List (Parsed F V P M S)) → parsed ≡ [] → least (declaration_of o).positionals ≤ 0
    → list_any (λ p. has_list p) (positionals_of o) ≡ false → list_any (λ p. p.required) (options_of o) ≡ false
    → list_any (λ p. is_some p.default) (options_of o) ≡ false → LineMeans o [] parsed
no_words o parsed none few lists required defaults =
    let d = declaration_of o in
    let within = zero_within (most d.positionals) in
    let are = (some_places d.positionals 0 within).1 in
    subst (LineMeans o []) (sym none) (
      [],
      record {
        whole = record {
          front = record { items = []; spelled = spelling.no_words; parsed = refl; within = within };
          enough = few;
          complete = λ i is. absurd (false≢true (sym (none_required (options_of o) i required) ∙ is));
          accepted = refl;
          taken = all_taken (positionals_of o) [] lists within;
        };
        apart = absent_apart d.options;
      },
      refl,
      as_read (options_of o) [] [] defaults tt,
      record { places = []; are_places = record { shares = are.shares; are_shares = are.are_shares; placed = refl }; have = tt },
    )

-- ---- what is wrong at the end

-- a positional is missing
pub lacks_argument : (d : Declaration) (words : List (List ℕ)) (seen : List ℕ) (placeholder : Bor (List ℕ)) → length words < least d.positionals → placeholder.now ≡ required_placeholder d.positionals (length words)
    → IsWrong d words seen (mistake.MissingArgument placeholder)
lacks_argument d words seen placeholder few is = record {
  why = stops.missing_argument (length words);
  told = (length words, refl, is);
  kept = λ l. refl;
  stops = λ u v l step words_are are_seen.
      let counted = counted_so d l words words_are in
      subst (λ n. Stops d l u (stops.missing_argument n)) counted (stops.too_few v step (subst (λ n. n < least d.positionals) (sym counted) few));
}

-- a word is not accepted
pub refuses_word : (d : Declaration) (words : List (List ℕ)) (seen : List ℕ) (m : Mistake) (index : ℕ) (word : List ℕ) → least d.positionals ≤ length words → IsNotTaken d.positionals words index word
    → IsMistake d m (stops.invalid_argument index word) → IsWrong d words seen m
refuses_word d words seen m index word enough unfit told = record {
  why = stops.invalid_argument index word;
  told = told;
  kept = λ l. refl;
  stops = λ u v l step words_are are_seen.
      stops.not_taken index word v step (subst (λ n. least d.positionals ≤ n) (sym (counted_so d l words words_are)) enough)
      (subst (λ ws. IsNotTaken d.positionals ws index word) (sym words_are) unfit);
}

-- an option is missing
pub lacks_option : (d : Declaration) (words : List (List ℕ)) (seen : List ℕ) (names : Names) (index : ℕ) → least d.positionals ≤ length words → AreTaken d.positionals words → IsFirstUnseen d.options seen index
    → AreNames d.options index names → IsWrong d words seen (mistake.MissingOption names)
lacks_option d words seen names index enough taken first are_names = record {
  why = stops.missing_option index;
  told = (index, refl, are_names);
  kept = λ l. refl;
  stops = λ u v l step words_are are_seen.
      stops.not_complete index v step (subst (λ n. least d.positionals ≤ n) (sym (counted_so d l words words_are)) enough)
      (subst (AreTaken d.positionals) (sym words_are) taken)
      (record { here = first.here; absent = sym (are_seen index (required_noted d.options index first.here)) ∙ first.absent; first = λ i below needed. sym (are_seen i (required_noted d.options i needed)) ∙ first.first i below needed });
}

-- two options exclude each other
pub excludes_option : (d : Declaration) (words : List (List ℕ)) (seen : List ℕ) (names others : Names) (index other : ℕ) → least d.positionals ≤ length words → AreTaken d.positionals words → AllSeen d.options seen
    → IsFirstClash d.options (λ i. has i seen) index other → AreNames d.options index names → AreNames d.options other others → IsWrong d words seen (mistake.Exclusive names others)
excludes_option d words seen names others index other enough taken all clashes are_names others_are = record {
  why = stops.exclusive_options index other;
  told = (index, other, refl, are_names, others_are);
  kept = λ l. refl;
  stops = λ u v l step words_are are_seen.
      stops.not_apart index other v step (subst (λ n. least d.positionals ≤ n) (sym (counted_so d l words words_are)) enough)
      (subst (AreTaken d.positionals) (sym words_are) taken)
      (λ i needed. sym (are_seen i (required_noted d.options i needed)) ∙ all i needed)
      (clash_so d.options l seen index other are_seen clashes);
}

-- ---- what was read before a mistake

pub last_dropped : (l : List legal.Parsed) (s : legal.Parsed) → all_but_last (l ++ s ∷ []) ≡ l
last_dropped (x ∷ y ∷ l) s = ap (λ m. x ∷ m) (last_dropped (y ∷ l) s)
last_dropped l s = refl

pub kept_parsed : {F V P M S : Type 0} (options : List (declared.Declared F V M S)) (l : List legal.Parsed) (xs : List (Parsed F V P M S)) (n : ℕ) → n ≡ length xs - 1 → AreParsedAs options l xs
    → AreParsedAs options (all_but_last l) (take n xs)
kept_parsed options [] [] n is are = rw is tt
kept_parsed options (s ∷ []) (x ∷ []) n is are = rw is tt
kept_parsed options (s ∷ t ∷ l) (x ∷ y ∷ xs) n is are =
    let e : n ≡ suc (length xs) = omega (arith, is) in
    subst (λ k. AreParsedAs options (all_but_last (s ∷ t ∷ l)) (take k (x ∷ y ∷ xs))) (sym e)
    (are.0, kept_parsed options (t ∷ l) (y ∷ xs) (length xs) (omega arith) are.1)
kept_parsed options l xs n is are = search

-- ---- the result of reading a line

-- a line that is read is of the list that its words mean
pub line_of : {F V P M S : Type 0} (o : Options F V P M S) (words : List (List ℕ)) (line : Line F V P M S) → IsLineRead o words line → (l : List legal.Parsed) → Means (declaration_of o) words l → IsLineOf o l line
line_of o words (line.Parsed parsed) (m, other, none, are, keys) l means =
    subst (λ (x : List legal.Parsed). IsLineOf o x (line.Parsed parsed)) (one_front (declaration_of o) words m l other.whole.front means.whole.front) (none, are, keys)
line_of o words (line.Asked asked) read l means =
    let later = front_later (declaration_of o) words (read.before ++ read.parsed ∷ []) read.there read.read l means.whole.front in
    ap (first_asked (declaration_of o).options) (later.1 ∙ append_assoc read.before (read.parsed ∷ []) later.0)
    ∙ asked_here (declaration_of o).options read.before later.0 read.parsed (asked_view asked) read.none_before read.asks
line_of o words (line.Refused refused) read l means = absurd (nothing_parsed (declaration_of o) words read.read read.why read.stops l means)
