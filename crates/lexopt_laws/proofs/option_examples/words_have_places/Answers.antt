use Rattle.std.proofs.Common.{[], ◌∷◌, refl, lit≤}
use Rattle.lexopt_options_spec.proofs.Shares.{greedy_are_shares}
use Rattle.lexopt_laws.specs.Sample.{dest, files, mode, new, old, sources, target}
use Rattle.lexopt_laws.proofs.option_examples.words_have_places.Goals as goal

pub returns-clause-last_first : goal.returns-clause-last_first
returns-clause-last_first c = record { shares = 0 ∷ 1 ∷ []; are_shares = greedy_are_shares (old ∷ new ∷ []) 0 (lit≤ tt); placed = refl }

pub returns-clause-both : goal.returns-clause-both
returns-clause-both c = record { shares = 1 ∷ 1 ∷ []; are_shares = greedy_are_shares (old ∷ new ∷ []) 1 (lit≤ tt); placed = refl }

pub returns-clause-none : goal.returns-clause-none
returns-clause-none c = record { shares = 0 ∷ 1 ∷ []; are_shares = greedy_are_shares (old ∷ new ∷ []) 0 (lit≤ tt); placed = refl }

pub returns-clause-all_but_the_last : goal.returns-clause-all_but_the_last
returns-clause-all_but_the_last c = record { shares = 2 ∷ 1 ∷ []; are_shares = greedy_are_shares (sources ∷ dest ∷ []) 1 tt; placed = refl }

pub returns-clause-last_is_missing : goal.returns-clause-last_is_missing
returns-clause-last_is_missing c = record { shares = 1 ∷ 1 ∷ []; are_shares = greedy_are_shares (sources ∷ dest ∷ []) 0 tt; placed = refl }

pub returns-clause-every_one : goal.returns-clause-every_one
returns-clause-every_one c = record { shares = 1 ∷ 1 ∷ 2 ∷ []; are_shares = greedy_are_shares (mode ∷ target ∷ files ∷ []) 3 tt; placed = refl }
