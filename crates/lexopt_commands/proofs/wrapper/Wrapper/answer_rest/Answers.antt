use Rattle.lexopt_commands.proofs.Common.{◌∙◌, inr, refl, sym}
use Rattle.std.proofs.lemmas.Bool.{eqb-true}
use Rattle.lexopt_options.proofs.RestRead.{no_length}
use Rattle.lexopt_commands.proofs.wrapper.Wrapper.answer_rest.Goals as goal

pub returns-then-is_empty : goal.returns-then-is_empty
returns-then-is_empty g c = λ words width read.
    let zero = eqb-true c.args.rest.len 0 (sym c.is_empty.ensures ∙ c.if-is_empty.true) in
    let none = no_length c.args.rest.items (sym c.args.rest.ok.0 ∙ zero) in
    inr (record {
      required = c.if-self.true;
      read = rw none at read;
      program = c.program.ensures;
      help = rw c.options.ensures.same at c.help_names_of.ensures;
      mistake = refl;
    })
