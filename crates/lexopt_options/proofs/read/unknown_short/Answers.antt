use Rattle.std.proofs.Common.{ap, map, refl, ◌∙◌}
use Rattle.lexopt_options.specs.Declarations.{declaration_of}
use Rattle.lexopt_options.proofs.ReadNext.{no_hint, short_hinted, some_hint}
use Rattle.lexopt_options.proofs.read.unknown_short.Goals as goal
use Rattle.lexopt_options.proofs.read.unknown_short.Goals.{in-Some+in_ok-hints-in-Some, in-None}

pub returns : goal.returns
returns g c = λ u step.
    let options = (declaration_of c.args.options.now).options in
    let hinted = short_hinted options u c.args.parser.now c.set_short_equals.new.self c.optional_value.new.self c.args.option c.optional_value.result
    (map (λ text. text.now) c.match-optional_value.hints.items) step c.set_short_equals.ensures c.optional_value.ensures in (
      c.args.parser.now.tail,
      refl,
      hinted (elim c.match-optional_value.branch [
        | in-Some+in_ok-hints-in-Some w ↦ some_hint options _ c.args.option _ _ _ _ _ w.in-Some.is w.as_bytes.ensures w.options.ensures.view
            (ap (λ hints. map (λ text. text.now) hints.items) w.hints-is) w.in_ok-hints-in-Some.ensures
        | in-None w ↦ no_hint options c.args.option _ _ w.in-None.is (ap (λ hints. map (λ text. text.now) hints.items) w.hints-is ∙ ap (map (λ text. text.now)) w.new-hints.ensures.items)
      ]),
    )
