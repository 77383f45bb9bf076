use Rattle.lexopt_line_spec.specs.Readings.{start}
use Rattle.lexopt_line_spec.proofs.Existence.{only_one}
use Rattle.lexopt_laws.proofs.laws.words_show_one_list.Goals as goal

pub returns : goal.returns
returns c = λ t short_equals words l m one other. only_one t (start short_equals words) l m tt one other
