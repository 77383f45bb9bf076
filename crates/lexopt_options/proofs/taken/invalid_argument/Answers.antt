use Rattle.lexopt_options.proofs.Common.{ap, map, sym, ◌-◌, ◌∙◌, positional_view, positionals_of, least, parsed_words}
use Rattle.lexopt_options.proofs.TakenWords.{all_taken, invalid_line, parsed_counted}
use Rattle.lexopt_options.proofs.taken.invalid_argument.Goals as goal

pub returns-then-not-has_lists : goal.returns-then-not-has_lists
returns-then-not-has_lists g c = λ within. all_taken (positionals_of c.args.options.now) _ (sym c.has_lists.ensures ∙ c.if-not-has_lists.true) within

pub returns : goal.returns
returns g c =
    let ps = c.positionals-positionals.result.now in
    let ws = parsed_words c.args.parsed.now in
    invalid_line c.args.options.now ps ws c.spare_of.result c.first_refusal.result c.positionals-positionals.ensures.view
    (c.spare_of.ensures ∙ ap (λ n. n - least (map positional_view ps)) (c.count_of.ensures ∙ parsed_counted c.args.parsed.now)) c.first_refusal.ensures
