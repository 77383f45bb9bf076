use Rattle.lexopt_declaration.proofs.Common.{ap, append-nil, false, true, ◌++◌, not, sym, map, ◌∙◌, option_view, spelling_view}
use Rattle.lexopt_options_spec.specs.Completion.{is_free, offered, spelled_by}
use Rattle.lexopt_declaration.proofs.Spelled.{offered_more}
use Rattle.lexopt_declaration.proofs.spellings.spellings_of.Goals.{then-not-is_excluded+in_ok-add_spellings, else-not-is_excluded}
use Rattle.lexopt_declaration.proofs.spellings.spellings_of.Goals as goal

pub loop-index-preserved : goal.loop-index-preserved
loop-index-preserved g c =
    let options = c.args.options.now in
    elim c.if-not-is_excluded.branch [
      | then-not-is_excluded+in_ok-add_spellings w ↦ ap (λ v. map spelling_view v.items) w.spellings-is ∙ w.in_ok-add_spellings.ensures ∙ ap (λ l. l ++ offered c.args.typed.now (spelled_by (option_view c.index-options-index.result))) c.loop-index.invariant ∙ offered_more c.args.typed.now (is_free (map option_view options) c.args.indices.now) options c.loop-index.index c.index-options-index.result true c.loop-index-test.true c.index-options-index.is (ap not (sym c.is_excluded.ensures ∙ w.if-not-is_excluded.true))
      | else-not-is_excluded w ↦ ap (λ v. map spelling_view v.items) w.spellings-is ∙ c.loop-index.invariant ∙ sym (append-nil _) ∙ offered_more c.args.typed.now (is_free (map option_view options) c.args.indices.now) options c.loop-index.index c.index-options-index.result false c.loop-index-test.true c.index-options-index.is (ap not (sym c.is_excluded.ensures ∙ w.if-not-is_excluded.false))
    ]
