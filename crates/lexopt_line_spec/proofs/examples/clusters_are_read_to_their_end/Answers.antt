use Rattle.std.proofs.Common.{◌≡◌, [], ◌∷◌, codes, refl, inl, inr, true≢false}
use Rattle.lexopt_spec.specs.UnreadLine.{no_tail, rest}
use Rattle.lexopt_spec.specs.Steps.{short, no_memory}
use Rattle.lexopt_line_spec.proofs.Computing.{computing}
use Rattle.lexopt_line_spec.proofs.Worked.{differ, not_contains}
use Rattle.lexopt_line_spec.proofs.examples.clusters_are_read_to_their_end.Goals as goal

pub returns-clause-two_letters : goal.returns-clause-two_letters
unfolding computing
returns-clause-two_letters c = λ replies v reads.
    reads 0x61 (codes "b") (codes "c" ∷ []) refl refl refl (differ 0x61 0x2D refl) (inr (not_contains (codes "b") refl)) refl

pub returns-clause-equals_sign : goal.returns-clause-equals_sign
unfolding computing
returns-clause-equals_sign c = λ replies v reads. (reads 0x61 (codes "=") [] refl refl refl (differ 0x61 0x2D refl) (inl refl) refl).0

pub returns-clause-damage : goal.returns-clause-damage
unfolding computing
returns-clause-damage c = λ replies v reads. (reads 0x61 (0xFF ∷ []) [] refl refl refl (differ 0x61 0x2D refl) (inr (not_contains (0xFF ∷ []) refl)) refl).0

pub returns-clause-nothing_of_a_tail : goal.returns-clause-nothing_of_a_tail
returns-clause-nothing_of_a_tail c = λ replies v b bs words tail. let e : rest (codes "x") ≡ no_tail = tail in cc

pub returns-clause-nothing_after_the_separator : goal.returns-clause-nothing_after_the_separator
returns-clause-nothing_after_the_separator c = λ replies v b bs words tail ended. absurd (true≢false ended)

pub returns-clause-no_other_replies : goal.returns-clause-no_other_replies
unfolding computing
returns-clause-no_other_replies c = λ v reads.
    let e : short 0x61 ∷ no_memory ∷ [] ≡ short 0x61 ∷ short 0x62 ∷ [] =
    (reads 0x61 (codes "b") [] refl refl refl (differ 0x61 0x2D refl) (inr (not_contains (codes "b") refl)) refl).0 in cc
