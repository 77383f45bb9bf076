use Rattle.std.proofs.Common.{rules, tests, ◌≡◌, ◌==◌, not, ℕ, List, [], ◌∷◌, length, refl, arith, lit<}
use Rattle.std.proofs.lemmas.Iterator.Consumers.{YieldsList-from_filter, YieldsList-at, map_from_collect}
use Rattle.std.proofs.lemmas.Iterator.Splits.{YieldsList-from_str_split}
use Rattle.std.proofs.lemmas.Bool.Decides.{nat_tests}
use Rattle.lexopt_options_spec.specs.Declaration.{is_empty}
use Rattle.lexopt_declaration.proofs.help.words_of.Goals as goal

empty_by_length : (word : List ℕ) → (length word == 0) ≡ is_empty word
empty_by_length [] = refl
empty_by_length (b ∷ bs) = grind (arith, nat_tests)

pub returns : goal.returns
returns c =
    map_from_collect _ c.collect.ensures.ran
    (YieldsList-from_filter _ (λ word. not (is_empty word))
    (YieldsList-at c.filter.ensures.source (YieldsList-from_str_split 32 c.args.text.now (lit< tt) c.split.ensures.text c.split.ensures.has_more c.split.ensures.pattern))
    c.filter.ensures.closure (λ x b q k. search (rules, tests, empty_by_length)))
