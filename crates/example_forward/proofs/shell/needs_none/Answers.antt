use Rattle.std.proofs.Common.{◌≡◌, ℕ, ◌<◌, length, List, [], ◌∷◌, refl, ◌∙◌, arith}
use Rattle.std.specs.List.{list_all}
use Rattle.example_forward.specs.Shell.{is_plain, needs_none}
use Rattle.example_forward.proofs.shell.needs_none.Goals as goal

at_a_word : (word : List ℕ) → 0 < length word → list_all is_plain word ≡ needs_none word
at_a_word [] some = absurd (omega arith)
at_a_word (b ∷ bs) some = refl

pub returns-in_default : goal.returns-in_default
returns-in_default c = c.are_plain.ensures ∙ at_a_word c.args.word.now (omega (arith, c.in_default.len_at_least))
