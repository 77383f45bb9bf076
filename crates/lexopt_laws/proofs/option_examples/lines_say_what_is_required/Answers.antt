use Rattle.std.proofs.Common.{[], ◌∷◌, Some, None, codes, refl, lit≤}
use Rattle.lexopt_line_spec.specs.Table as spec
use Rattle.lexopt_line_spec.specs.Table.{short, long, kind}
use Rattle.lexopt_line_spec.specs.Spelling.{nothing, attached, no_value, joined_value, attached_value, nothing_more, no_words}
use Rattle.lexopt_line_spec.proofs.Computing.{computing}
use Rattle.lexopt_line_spec.proofs.Worked.{last_of, value_after, cluster_line, joined_line, plain_line}
use Rattle.lexopt_laws.proofs.WorkedRequired.{has_user, open_without_user}
use Rattle.lexopt_laws.proofs.WorkedMeans.{whole_of}
use Rattle.lexopt_laws.proofs.option_examples.lines_say_what_is_required.Goals as goal

pub returns-clause-character : goal.returns-clause-character
returns-clause-character c = has_user

-- `-v --user=me a`
pub returns-clause-among_others : goal.returns-clause-among_others
unfolding kind computing
returns-clause-among_others c = whole_of refl (spec.option (short 0x76) None ∷ spec.option (long (codes "user")) (Some (codes "me")) ∷ spec.positional (codes "a") ∷ [])
    (cluster_line (codes "v") _ refl (last_of 0x76 [] nothing _ refl (nothing_more refl refl) (no_value refl refl refl))
    (joined_line (codes "user") (codes "me") _ refl (codes "user", (refl, refl)) (joined_value (codes "me") refl refl refl) (plain_line (codes "a") refl no_words)))
    refl (lit≤ tt) (lit≤ tt) refl refl

-- `-ua -ub`
pub returns-clause-twice : goal.returns-clause-twice
unfolding kind computing
returns-clause-twice c = whole_of refl (spec.option (short 0x75) (Some (codes "a")) ∷ spec.option (short 0x75) (Some (codes "b")) ∷ [])
    (cluster_line (codes "ua") _ refl (last_of 0x75 (codes "a") (attached (codes "a")) _ refl (value_after 0x61 [] refl) (attached_value (codes "a") refl refl refl))
    (cluster_line (codes "ub") _ refl (last_of 0x75 (codes "b") (attached (codes "b")) _ refl (value_after 0x62 [] refl) (attached_value (codes "b") refl refl refl)) no_words))
    refl (lit≤ tt) (lit≤ tt) refl refl

pub returns-clause-front : goal.returns-clause-front
returns-clause-front c = open_without_user.front

pub returns-clause-at_least_once : goal.returns-clause-at_least_once
returns-clause-at_least_once c =
    whole_of refl (spec.positional (codes "a") ∷ spec.positional (codes "b") ∷ []) (plain_line (codes "a") refl (plain_line (codes "b") refl no_words)) refl tt (lit≤ tt) refl refl
