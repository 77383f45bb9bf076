use Rattle.lexopt_declaration.proofs.Common.{◌≡◌, map, take, offered, option_view, spelling_view}
use Rattle.lexopt_options_spec.specs.Completion.{is_free, spellings_if}
use Rattle.lexopt_declaration.proofs.spellings.spellings_of.Given as goal

abbrev pub invariant-loop-index : goal.invariant-loop-index
invariant-loop-index g l =
    map spelling_view l.spellings.items ≡ offered l.typed (spellings_if (is_free (map option_view l.options) l.indices) (map option_view (take l.index l.options)))
