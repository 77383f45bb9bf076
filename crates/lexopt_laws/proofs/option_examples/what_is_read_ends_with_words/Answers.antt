use Rattle.std.proofs.Common.{◌≡◌, [], ◌∷◌, Some, None, codes, refl, arith}
use Rattle.lexopt_options_spec.proofs.Lists.{same_last}
use Rattle.lexopt_options_spec.proofs.Lists.{first_same}
use Rattle.lexopt_laws.proofs.option_examples.what_is_read_ends_with_words.Goals as goal

pub returns-clause-value : goal.returns-clause-value
returns-clause-value c = refl

pub returns-clause-last_of_several : goal.returns-clause-last_of_several
returns-clause-last_of_several c = (codes "a" ∷ [], refl)

pub returns-clause-positional : goal.returns-clause-positional
returns-clause-positional c = refl

pub returns-clause-not_without_a_value : goal.returns-clause-not_without_a_value
returns-clause-not_without_a_value c is = let e : None ≡ Some (codes "a") = is in cc

pub returns-clause-not_another_value : goal.returns-clause-not_another_value
returns-clause-not_another_value c is = let e : Some (codes "a") ≡ Some (codes "-oa") = is in cc

pub returns-clause-not_the_first_of_several : goal.returns-clause-not_the_first_of_several
returns-clause-not_the_first_of_several c is =
    let e = (first_same 0x62 0x61 [] [] (same_last (codes "a" ∷ []) is.0 (codes "b") (codes "a") is.1).1).0 in omega (arith, e)

pub returns-clause-not_another_positional : goal.returns-clause-not_another_positional
returns-clause-not_another_positional c is = let e = (first_same 0x62 0x61 [] [] is).0 in omega (arith, e)
