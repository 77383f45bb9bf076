use Rattle.lexopt_line_spec.proofs.Names.{shown_spells, spelled_shows}
use Rattle.lexopt_laws.proofs.laws.whole_names_are_spelled.Goals as goal

pub returns-clause-shows : goal.returns-clause-shows
returns-clause-shows c = λ t short_equals words l spells. spelled_shows t short_equals words l spells

pub returns-clause-spells : goal.returns-clause-spells
returns-clause-spells c = λ t short_equals words l shows whole. shown_spells t short_equals words l shows whole
