use Rattle.std.proofs.Common.{◌≡◌, length, sym, ap, ◌∙◌, arith}
use Rattle.lexopt_words.specs.Codepoint.{character_of, size_of}
use Rattle.lexopt_calls.proofs.ScriptLemmas.{whole_character}
use Rattle.lexopt_calls.proofs.script.one_character.Goals as goal

pub returns-in-Character : goal.returns-in-Character
returns-in-Character c =
    whole_character c.args.bytes.now c.in-Character.size c.in-Character.character
    (sym c.first_codepoint.ensures.size ∙ ap size_of c.in-Character.is)
    (let all : c.in-Character.size ≡ length c.args.bytes.now = omega arith in all)
    (sym c.first_codepoint.ensures.character ∙ ap character_of c.in-Character.is)
