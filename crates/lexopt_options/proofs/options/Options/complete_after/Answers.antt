use Rattle.lexopt_options.proofs.Common.{option_map, ◌∙◌, declaration_of}
use Rattle.lexopt_options.specs.Roles.{place_view, words_of}
use Rattle.lexopt_options.proofs.Completing.{values_are}
use Rattle.lexopt_options.proofs.options.Options.complete_after.Goals as goal

pub joined-requires : goal.joined-requires
joined-requires g c = (c.requires.0, c.is_open.ensures (declaration_of c.args.self.now) c.requires.0 c.requires.1)

pub role-word-requires : goal.role-word-requires
role-word-requires g c = (c.requires.0, words_of c.args.front.now, c.place-place.ensures c.requires.0 c.requires.1)

pub returns : goal.returns
returns g c = λ words front.
    let d = declaration_of c.args.self.now in
    let before = words_of c.args.front.now in
    let joined = c.in_ok-joined.ensures words (c.is_open.ensures d words front) in
    record {
      spellings = c.in_ok-spellings_for.ensures words front;
      values = (rw (c.positionals.ensures.view, c.deref.ensures.value) at c.in_ok-values_for.ensures) ∙ values_are c.args.self.now c.args.typed.now _ c.in_ok-arguments.arguments.items _ _ _ (c.role-word.ensures before) joined.2;
      role = option_map (place_view before) c.place-place.result;
      has_role = c.place-place.ensures words front;
      word = c.role-word.ensures before;
      arguments = rw c.words_of.ensures at c.in_ok-arguments.ensures;
      with_value = joined.0;
      is_joined = joined.1;
      joined = joined.2;
    }
