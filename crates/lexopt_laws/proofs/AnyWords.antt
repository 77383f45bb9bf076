-- Positionals without a list accept any word.
use Rattle.std.proofs.Common.{◌≡◌, ℕ, zero, suc, Bool, true, false, not, cond, List, [], ◌∷◌, length, Some, None, refl, ap, ◌∙◌, arith}
use Rattle.std.proofs.lemmas.Bool.{and_parts, false≢true}
use Rattle.std.specs.List.{list_all}
use Rattle.lexopt_options_spec.specs.Declaration.{Positional, Words, accepts, are_listable, files, directories, text, listed}
use Rattle.lexopt_options_spec.specs.Legal.{IsWithin, most}
use Rattle.lexopt_options_spec.specs.Places.{AreTaken, refused_word, takes_at}
use Rattle.lexopt_options_spec.proofs.Shares.{some_places}
use Rattle.lexopt_options_spec.proofs.Taken.{AreFilled, filled, zero_within}

-- this is a list
abbrev pub is_listed : Words → Bool
is_listed files = false
is_listed directories = false
is_listed text = false
is_listed (listed list) = true

-- none of these positionals has a list
abbrev pub no_lists : List Positional → Bool
no_lists ps = list_all (λ p. not (is_listed p.words)) ps

any_word : (words : Words) (word : List ℕ) → not (is_listed words) ≡ true → accepts words word ≡ true
any_word files word any = refl
any_word directories word any = refl
any_word text word any = refl
any_word (listed list) word any = absurd (false≢true any)

takes_any : (ps : List Positional) (i : ℕ) (word : List ℕ) → no_lists ps ≡ true → takes_at ps i word ≡ true
takes_any [] i word any = refl
takes_any (p ∷ ps) zero word any = any_word p.words word (and_parts (not (is_listed p.words)) (no_lists ps) any).0
takes_any (p ∷ ps) (suc i) word any = takes_any ps i word (and_parts (not (is_listed p.words)) (no_lists ps) any).1

none_refused : (ps : List Positional) (places : List ℕ) (words : List (List ℕ)) → no_lists ps ≡ true → refused_word ps places words ≡ None
none_refused ps [] words any = refl
none_refused ps (i ∷ places) [] any = refl
none_refused ps (i ∷ places) (word ∷ words) any =
    ap (λ b. cond b (refused_word ps places words) (Some (i, word))) (takes_any ps i word any) ∙ none_refused ps places words any

pub any_taken : {ps : List Positional} {words : List (List ℕ)} → no_lists ps ≡ true → IsWithin (length words) (most ps) → AreTaken ps words
any_taken {ps = ps} {words = words} any within =
    let some = some_places ps (length words) within in
    record { places = some.0; are_places = some.1; none = none_refused ps some.0 words any }

pub any_filled : {ps : List Positional} {words : List (List ℕ)} → no_lists ps ≡ true → are_listable ps ≡ true → IsWithin (length words) (most ps) → AreFilled ps words
any_filled {ps = ps} {words = words} any good within =
    let some = some_places ps (length words) within in
    filled ps words good
    (record { count = length words; longer = omega arith; within = within; places = some.0; are_places = some.1; none = none_refused ps some.0 words any })

-- if there are no words, none is refused
none_at_all : (ps : List Positional) (places : List ℕ) → refused_word ps places [] ≡ None
none_at_all ps [] = refl
none_at_all ps (i ∷ places) = refl

pub none_filled : (ps : List Positional) → are_listable ps ≡ true → AreFilled ps []
none_filled ps good =
    let within = zero_within (most ps) in
    let some = some_places ps 0 within in
    filled ps [] good (record { count = 0; longer = omega arith; within = within; places = some.0; are_places = some.1; none = none_at_all ps some.0 })
