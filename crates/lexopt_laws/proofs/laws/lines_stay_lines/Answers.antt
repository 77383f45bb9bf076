use Rattle.std.proofs.Common.{◌≡◌}
use Rattle.lexopt_line_spec.proofs.RunAccounts.{step_line, run_line, value_item_line, word_item_line, word_if_line}
use Rattle.lexopt_laws.proofs.laws.lines_stay_lines.Goals as goal

pub returns-clause-step : goal.returns-clause-step
returns-clause-step c = λ call u v r is step. step_line call u r v is step

pub returns-clause-run : goal.returns-clause-run
returns-clause-run c = λ u v calls replies is run. run_line u calls replies v is run

pub returns-clause-value_item : goal.returns-clause-value_item
returns-clause-value_item c = λ stage now u v item is given. value_item_line stage now u v item is given

pub returns-clause-word_item : goal.returns-clause-word_item
returns-clause-word_item c = λ u v item is given. word_item_line u v item is given

pub returns-clause-next_if : goal.returns-clause-next_if
returns-clause-next_if c = λ answer u v item is taken. word_if_line (λ word parsed. parsed ≡ answer) u v item is taken
