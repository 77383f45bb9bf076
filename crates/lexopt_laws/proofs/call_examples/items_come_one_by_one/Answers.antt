use Rattle.std.proofs.Common.{false, true, [], ◌∷◌, Some, None, codes, refl}
use Rattle.lexopt_spec.specs.Views.{going_on, at_end, gives_pending, gives_word, stops, stopped}
use Rattle.lexopt_spec.proofs.PlainFronts.{plain_holds}
use Rattle.lexopt_line_spec.proofs.Worked.{not_normal}
use Rattle.lexopt_laws.proofs.call_examples.items_come_one_by_one.Goals as goal

pub returns-clause-values : goal.returns-clause-values
returns-clause-values c = (
  Some (codes "b"),
  _,
  going_on,
  _,
  gives_pending (codes "b") false refl refl refl refl refl,
  (
    Some (codes "c"),
    _,
    going_on,
    _,
    gives_word (codes "c") _ refl refl refl (plain_holds false (codes "c") refl) refl refl refl,
    (
      None,
      _,
      at_end,
      [],
      stops refl refl (not_normal false (codes "-d" ∷ []) refl) refl refl refl,
      (None, _, at_end, [], stopped refl refl refl refl, (refl, refl, refl), refl),
      refl,
    ),
    refl,
  ),
  refl,
)

pub returns-clause-joined_value : goal.returns-clause-joined_value
returns-clause-joined_value c = (
  Some (codes "b"),
  _,
  at_end,
  _,
  gives_pending (codes "b") true refl refl refl refl refl,
  (None, _, at_end, [], stopped refl refl refl refl, (refl, refl, refl), refl),
  refl,
)

pub returns-clause-words : goal.returns-clause-words
returns-clause-words c = (
  Some (codes "a"),
  _,
  _,
  (refl, refl),
  (Some (codes "--"), _, _, (refl, refl), (None, _, [], (refl, refl), (refl, refl), refl), refl),
  refl,
)
