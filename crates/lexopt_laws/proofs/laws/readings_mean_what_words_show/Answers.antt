use Rattle.lexopt_line_spec.proofs.WholeLines.{said_shows, shown_said, shown_read}
use Rattle.lexopt_laws.proofs.laws.readings_mean_what_words_show.Goals as goal

pub returns-clause-parsed : goal.returns-clause-parsed
returns-clause-parsed c = λ t short_equals words l reading. said_shows t short_equals words l reading

pub returns-clause-shown : goal.returns-clause-shown
returns-clause-shown c = λ t short_equals words l m final shows reading. shown_said t short_equals words l m final shows reading

pub returns-clause-read : goal.returns-clause-read
returns-clause-read c = λ t short_equals words l shows. shown_read t short_equals words l shows
