use Rattle.lexopt_line_spec.proofs.Parts.{part_cut, part_front, part_means, part_suffix, up_to_raw, up_to_try_raw, up_to_values}
use Rattle.std.proofs.Common.{◌≤◌, ◌⊎◌, ℕ, List, length, min, inl, inr, arith}
use Rattle.lexopt_spec.specs.UnreadLine.{UnreadLine}
use Rattle.lexopt_spec.specs.Steps.{items}
use Rattle.lexopt_spec.specs.Runs.{values, raw, try_raw, Step, up_to}
use Rattle.lexopt_laws.proofs.Cuts.{values_at_most, raw_at_most, try_raw_at_most}
use Rattle.lexopt_laws.proofs.laws.calls_cut_short_are_a_part.Goals as goal

pub returns-clause-front : goal.returns-clause-front
returns-clause-front c = λ u v calls more replies run. part_front u v calls more replies run

pub returns-clause-cut : goal.returns-clause-cut
returns-clause-cut c = λ u v w calls more replies call m reply run step. part_cut u v w calls more replies call m reply run step

pub returns-clause-nothing_else : goal.returns-clause-nothing_else
returns-clause-nothing_else c = λ u v calls part. part_means u v calls part

pub returns-clause-fewer : goal.returns-clause-fewer
returns-clause-fewer c = λ m n few. (up_to_values m n few, up_to_raw m n few, up_to_try_raw m n few)

pub returns-clause-no_more : goal.returns-clause-no_more
returns-clause-no_more c = λ m n u v came step. no_more m n u v came step
  where
    within : (m n : ℕ) (came : List (List ℕ)) → length came ≤ min m n → (length came ≤ m) × (length came ≤ n)
    within m n came few = (omega arith, omega arith)

    no_more : (m n : ℕ) (u v : UnreadLine) (came : List (List ℕ)) → Step (up_to m (values n)) u (items came) v ⊎ (Step (up_to m (raw n)) u (items came) v ⊎ Step (up_to m (try_raw n)) u (items came) v)
        → (length came ≤ m) × (length came ≤ n)
    no_more m n u v came (inl step) = within m n came (values_at_most (min m n) u v came step)
    no_more m n u v came (inr (inl step)) = within m n came (raw_at_most (min m n) u v came step)
    no_more m n u v came (inr (inr step)) = within m n came (try_raw_at_most (min m n) u v came step)

pub returns-clause-words : goal.returns-clause-words
returns-clause-words c = λ u v calls part. part_suffix u v calls part
