-- What a word is, by the state that the words before it leave.
use Rattle.lexopt_options_spec.proofs.Common.{if◌then◌else◌, ◌≡◌, ◌≢◌, ◌≤◌, ◌+◌, ◌==◌, ◌⊎◌, ◌↔◌, ℕ, Bool, true, false, List, [], ◌∷◌, ◌++◌, map, length, Option, Some, None, refl, sym, ap, subst, ◌∙◌}
use Rattle.lexopt_options_spec.proofs.Common.{inl, inr, arith, append_assoc, length-append, true≢false, eqb-true, false≢true, eqb_tells, append-nil, dash, BeginsWith, IsPlain, TailFits}
use Rattle.lexopt_options_spec.proofs.Common.{UnreadLine, start, Table, Declaration, table, Parsed, positional_count, positional_words, most, IsWithin, MeansFront}
use Rattle.lexopt_options_spec.proofs.Common.{EndsWith, Extends, HasRole, IsOpen, argument, value, role_of, State, Says, SaysOpenly, Leaves, leaves_anything, leaves_due, leaves_first, leaves_further}
use Rattle.lexopt_options_spec.proofs.Common.{leaves_ended, LeadsNowhere, opens, is_full, room, role_in}
use Rattle.std.specs.Bool.{IsTrue}
use Rattle.lexopt_options_spec.specs.Legal as legal
use Rattle.lexopt_options_spec.proofs.Fronts.{Rest, rest_of, same_parsed}
use Rattle.lexopt_options_spec.proofs.Growing.{items_calm, longer}
use Rattle.lexopt_options_spec.proofs.Lists.{Ending, has_none, has_last, ending, count_append, same_last}
use Rattle.lexopt_options_spec.proofs.OneRest.{OpenRead, open_read}
use Rattle.lexopt_options_spec.proofs.OpenLines.{dashes}
use Rattle.lexopt_options_spec.proofs.Roles.{dashed_not_plain, not_whole, word_alone}
use Rattle.lexopt_options_spec.proofs.Taken.{words_count}

-- ---- what words say

pub says_front : (d : Declaration) (words : List (List ℕ)) (l : List Parsed) → Says d words l → IsWithin (positional_count l) (most d.positionals) → MeansFront d words l
says_front d words l says within = record { items = says.items; spelled = says.spelled; parsed = says.parsed; within = within }

pub front_says : (d : Declaration) (words : List (List ℕ)) (l : List Parsed) → MeansFront d words l → Says d words l
front_says d words l means = record { items = means.items; spelled = means.spelled; parsed = means.parsed }

-- words say one list
pub says_once : (d : Declaration) (words : List (List ℕ)) (l m : List Parsed) → Says d words l → Says d words m → l ≡ m
says_once d words l m says other = same_parsed d words l m says.items other.items says.spelled other.spelled says.parsed other.parsed

-- one more thing that is no positional
with_other : (d : Declaration) (words : List (List ℕ)) (l : List Parsed) (s : Parsed) → legal.counts s ≡ 0 → IsWithin (positional_count l) (most d.positionals) → Says d words (l ++ s ∷ []) → MeansFront d words (l ++ s ∷ [])
with_other d words l s none within says = says_front d words (l ++ s ∷ []) says (subst (λ n. IsWithin n (most d.positionals)) same within)
  where
    same : positional_count l ≡ positional_count (l ++ s ∷ [])
    same = let a = count_append l (s ∷ []) in omega (arith, a, none)

-- ---- where an option can come

says_open : (d : Declaration) (words : List (List ℕ)) (l : List Parsed) → SaysOpenly d words l → IsWithin (positional_count l) (most d.positionals) → IsOpen d words l
says_open d words l says within = record {
  front = says_front d words l says.says within;
  with_separator = says_front d (words ++ dashes ∷ []) l says.with_separator within;
}

pub open_there : (d : Declaration) (words : List (List ℕ)) (l : List Parsed) (s : State) → Leaves d words l s → IsWithin (positional_count l) (most d.positionals) → opens s ≡ true → IsOpen d words l
open_there d words l s (leaves_anything says plain) within is = says_open d words l says within
open_there d words l s (leaves_further i before values are says plain) within is = says_open d words l says within
open_there d words l s leaves within is = absurd (false≢true is)

pub never_open : (d : Declaration) (words : List (List ℕ)) (l : List Parsed) (s : State) → Leaves d words l s → opens s ≡ false → (m : List Parsed) → IsOpen d words m → ⊥
never_open d words l s (leaves_due i none all) is m is_open = none m is_open.front
never_open d words l s (leaves_first i none plain never) is m is_open = none m is_open.front
never_open d words l s (leaves_ended says all) is m is_open =
    let a = says_once d words l m says (front_says d words m is_open.front) in
    let b = says_once d (words ++ dashes ∷ []) (l ++ legal.positional dashes ∷ []) m (all dashes) (front_says d (words ++ dashes ∷ []) m is_open.with_separator) in
    let e = ap length (a ∙ sym b) in
    let f = length-append l (legal.positional dashes ∷ []) in
    omega (arith, e, f)
never_open d words l s leaves is m is_open = true≢false is

-- ---- what a word is

count_more : (l : List Parsed) (w : List ℕ) → positional_count (l ++ legal.positional w ∷ []) ≡ positional_count l + 1
count_more l w = let a = count_append l (legal.positional w ∷ []) in omega (arith, a)

over : (limit : Option ℕ) (n k : ℕ) → is_full limit n ≡ true → k ≡ n + 1 → IsWithin k limit → ⊥
over None n k full more within = false≢true full
over (Some m) n k full more within = let e : m ≡ n = eqb-true m n full in omega (arith, e, more, within)

below : (limit : Option ℕ) (n k : ℕ) → is_full limit n ≡ false → k ≡ n + 1 → IsWithin n limit → IsWithin k limit
below None n k full more within = tt
below (Some m) n k full more within = at (eqb_tells m n)
  where
    at : (((m == n) ≡ true) × (m ≡ n)) ⊎ (((m == n) ≡ false) × (m ≢ n)) → k ≤ m
    at (inl same) = absurd (true≢false (sym same.0 ∙ full))
    at (inr other) = let e = other.1 in omega (arith, e, more, within)

-- each of the words is a positional
room_there : (d : Declaration) (words : List (List ℕ)) (typed : List ℕ) (l : List Parsed) → IsWithin (positional_count l) (most d.positionals)
    → ((w : List ℕ) → Extends typed w → Says d (words ++ w ∷ []) (l ++ legal.positional w ∷ [])) → HasRole d words typed (room d.positionals (positional_words l))
room_there d words typed l within says = at (is_full (most d.positionals) (length (positional_words l))) refl
  where
    none : is_full (most d.positionals) (positional_count l) ≡ true → HasRole d words typed None
    none full w longer before last takes =
        let same = says_once d (words ++ w ∷ []) (before ++ last ∷ []) (l ++ legal.positional w ∷ []) (front_says d (words ++ w ∷ []) (before ++ last ∷ []) takes.means) (says w longer) in
        absurd (over (most d.positionals) (positional_count l) (positional_count (before ++ last ∷ [])) full (ap positional_count same ∙ count_more l w) takes.means.within)

    one : is_full (most d.positionals) (positional_count l) ≡ false → HasRole d words typed (Some (argument (positional_words l)))
    one free w longer = (
      l,
      legal.positional w,
      record {
        means = says_front d (words ++ w ∷ []) (l ++ legal.positional w ∷ []) (says w longer)
            (below (most d.positionals) (positional_count l) (positional_count (l ++ legal.positional w ∷ [])) free (count_more l w) within);
        whole = refl;
      },
      refl,
    )

    at : (b : Bool) → is_full (most d.positionals) (length (positional_words l)) ≡ b → HasRole d words typed (if b then None else Some (argument (positional_words l)))
    at true full = none (subst (λ n. is_full (most d.positionals) n ≡ true) (words_count l) full)
    at false free = one (subst (λ n. is_full (most d.positionals) n ≡ false) (words_count l) free)

-- these words, with a word after them, mean nothing
no_role : (d : Declaration) (words : List (List ℕ)) (typed : List ℕ) → ((w : List ℕ) → Extends typed w → (m : List Parsed) → ¬ MeansFront d (words ++ w ∷ []) m) → HasRole d words typed None
no_role d words typed none w longer before last takes = absurd (none w longer (before ++ last ∷ []) takes.means)

-- each of the words is a value
value_there : (d : Declaration) (words : List (List ℕ)) (typed : List ℕ) (l : List Parsed) (i : ℕ) (s : List ℕ → Parsed) → IsWithin (positional_count l) (most d.positionals)
    → ((w : List ℕ) → legal.counts (s w) ≡ 0) → ((w : List ℕ) → EndsWith w (s w)) → ((w : List ℕ) → role_of l (s w) ≡ value i)
    → ((w : List ℕ) → Extends typed w → Says d (words ++ w ∷ []) (l ++ s w ∷ [])) → HasRole d words typed (Some (value i))
value_there d words typed l i s within none whole role says w longer = (
  l,
  s w,
  record {
    means = with_other d (words ++ w ∷ []) l (s w) (none w) within (says w longer);
    whole = whole w;
  },
  role w,
)

-- An option can come after these words: a word with a dash first that is longer than what was typed
-- is the separator, or options, and what is read last is shorter than the word.
no_role_where_open : (d : Declaration) (words : List (List ℕ)) (typed : List ℕ) (l : List Parsed) → BeginsWith dash typed → SaysOpenly d words l → HasRole d words typed None
no_role_where_open d words typed l dashed says w longer_word before last takes = at (ending more.rest.later)
  where
    t : Table
    t = table d.options

    own : OpenRead d words l
    own = open_read d words l says.says says.with_separator

    there : UnreadLine
    there = longer (w ∷ []) own.there

    plain : ¬ IsPlain false w
    plain = dashed_not_plain typed w dashed longer_word

    -- with one more word the same is read, and then the word
    more : Rest d l (before ++ last ∷ []) there
    more = rest_of d (words ++ w ∷ []) l (before ++ last ∷ []) own.items takes.means.items there (subst (λ tail. TailFits tail own.there.last own.there.ended) (sym own.none) tt)
        (items_calm t (w ∷ []) (start d.short_equals words) own.there own.items tt (λ empty no_more. plain) own.reads) own.parsed takes.means.spelled takes.means.parsed

    at : Ending more.rest.later → MeansFront d words (before ++ last ∷ [])
    at (has_none none) =
        says_front d words (before ++ last ∷ []) (subst (Says d words) (sym (more.rest.all_are ∙ ap (λ m. l ++ m) none ∙ append-nil l)) says.says) takes.means.within
    at (has_last front s is) =
        let same = (same_last before (l ++ front) last s (more.rest.all_are ∙ ap (λ m. l ++ m) is ∙ sym (append_assoc l front (s ∷ [])))).1 in
        absurd
        (not_whole d.options t w there more.all.there more.items front s
        (word_alone w there (ap (λ ws. ws ++ w ∷ []) own.empty) own.none own.not plain) more.all.reads (more.rest.are ∙ ap (map (λ s. Some s)) is) (subst (EndsWith w) same takes.whole))

pub role_there : (d : Declaration) (words : List (List ℕ)) (typed : List ℕ) (l : List Parsed) (s : State) (dashed : Bool) → (IsTrue dashed ↔ BeginsWith dash typed) → Leaves d words l s
    → IsWithin (positional_count l) (most d.positionals) → HasRole d words typed (role_in d.positionals (positional_words l) dashed s)
role_there d words typed l s dashed tells (leaves_due i none all) within = value_there d words typed l i (λ w. legal.option i (Some w)) within (λ w. refl) (λ w. refl) (λ w. refl) (λ w longer. all w)
role_there d words typed l s dashed tells (leaves_ended says all) within = room_there d words typed l within (λ w longer. all w)
role_there d words typed l s true tells (leaves_anything says plain) within = no_role_where_open d words typed l (tells.0 refl) says
role_there d words typed l s true tells (leaves_first i none plain never) within =
    no_role d words typed (λ w longer m. never w m (dashed_not_plain typed w (tells.0 refl) longer))
role_there d words typed l s true tells (leaves_further i before values are says plain) within = no_role_where_open d words typed l (tells.0 refl) says
role_there d words typed l s false tells (leaves_anything says plain) within = room_there d words typed l within (λ w longer. plain w (longer.plain (λ begins. false≢true (tells.1 begins))))
role_there d words typed l s false tells (leaves_first i none plain never) within =
    value_there d words typed l i (λ w. legal.several i (w ∷ [])) within (λ w. refl) (λ w. ([], refl)) (λ w. refl) (λ w longer. plain w (longer.plain (λ begins. false≢true (tells.1 begins))))
role_there d words typed l s false tells (leaves_further i before values are says plain) within =
    value_there d words typed before i (λ w. legal.several i (values ++ w ∷ [])) (subst (λ n. IsWithin n (most d.positionals)) same within) (λ w. refl) (λ w. (values, refl)) (λ w. refl)
    (λ w longer. plain w (longer.plain (λ begins. false≢true (tells.1 begins))))
  where
    same : positional_count l ≡ positional_count before
    same = let a = count_append before (legal.several i values ∷ []) in let b = ap positional_count are in omega (arith, a, b)

-- ---- where no line leads

pub no_role_nowhere : (d : Declaration) (words : List (List ℕ)) (typed : List ℕ) → LeadsNowhere d words → HasRole d words typed None
no_role_nowhere d words typed nowhere = no_role d words typed (λ w longer m. nowhere.with_more w m)

pub nowhere_open : (d : Declaration) (words : List (List ℕ)) → LeadsNowhere d words → (m : List Parsed) → IsOpen d words m → ⊥
nowhere_open d words nowhere m is_open = nowhere.here m is_open.front
