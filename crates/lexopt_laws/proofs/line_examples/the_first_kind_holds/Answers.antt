use Rattle.std.proofs.Common.{[], codes, refl}
use Rattle.lexopt_line_spec.specs.Table.{kind}
use Rattle.lexopt_line_spec.specs.Spelling.{nothing, next_word, no_optional, nothing_more, no_words}
use Rattle.lexopt_line_spec.proofs.Computing.{computing}
use Rattle.lexopt_line_spec.proofs.Worked.{last_of, cluster_line, name_line, plain_line}
use Rattle.lexopt_laws.proofs.line_examples.the_first_kind_holds.Goals as goal

-- `-i v`
pub returns-clause-one_before_optional : goal.returns-clause-one_before_optional
unfolding kind computing
returns-clause-one_before_optional c =
    cluster_line (codes "i") _ refl (last_of 0x69 [] nothing _ refl (nothing_more refl refl) (next_word (codes "v") refl refl refl)) no_words

-- `--cmd a b`
pub returns-clause-one_before_several : goal.returns-clause-one_before_several
unfolding kind computing
returns-clause-one_before_several c =
    name_line 0x63 (codes "md") _ refl (codes "cmd", (refl, refl)) (next_word (codes "a") refl refl refl) (plain_line (codes "b") refl no_words)

-- `-d v`
pub returns-clause-optional_before_several : goal.returns-clause-optional_before_several
unfolding kind computing
returns-clause-optional_before_several c =
    cluster_line (codes "d") _ refl (last_of 0x64 [] nothing _ refl (nothing_more refl refl) (no_optional refl refl refl)) (plain_line (codes "v") refl no_words)
