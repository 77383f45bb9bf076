use Rattle.lexopt_options_spec.proofs.OneHelp.{narrow_paragraph, narrow_entry, narrow_usage, gap_same_line, gap_next_line}
use Rattle.lexopt_options_spec.proofs.laws.lines_are_in_columns.Goals as goal

pub returns-clause-usage : goal.returns-clause-usage
returns-clause-usage c = λ width d text u line there. narrow_usage width d text u line there

pub returns-clause-paragraph : goal.returns-clause-paragraph
returns-clause-paragraph c = λ width content text p line there. narrow_paragraph width content text p line there

pub returns-clause-entry : goal.returns-clause-entry
returns-clause-entry c = λ width shown help text e line there. narrow_entry width shown help text e line there

pub returns-clause-beside : goal.returns-clause-beside
returns-clause-beside c = λ column text room. gap_same_line column text room

pub returns-clause-below : goal.returns-clause-below
returns-clause-below c = λ column text none. gap_next_line column text none
