use Rattle.lexopt_commands.proofs.Common.{◌∙◌, ap, sym, names_of, unknown_command, missing_command}
use Rattle.lexopt_commands.proofs.commands.Commands.end.Goals as goal

pub returns-in_ok-names_of-in-Missing : goal.returns-in_ok-names_of-in-Missing
returns-in_ok-names_of-in-Missing g c =
    let means = sym (rw (c.in-Missing.is, c.commands.ensures.same) at c.in_ok-name.ensures) in
    let named = c.in_ok-names_of-in-Missing.ensures ∙ ap names_of c.commands-in-Missing.ensures.same in
    record {
      program = c.refuse.ensures.program;
      help = c.refuse.ensures.help;
      before = ap (λ v. v.items) c.refuse.ensures.before;
      told = rw c.refuse.ensures.mistake (missing_command c.in_ok-names_of-in-Missing.field-0 means named);
    }

pub returns-in_ok-hints-in-Unknown : goal.returns-in_ok-hints-in-Unknown
returns-in_ok-hints-in-Unknown g c =
    let means = sym (rw (c.in-Unknown.is, c.commands.ensures.same) at c.in_ok-name.ensures) in
    let hinted = rw c.commands-in-Unknown.ensures.same at c.in_ok-hints-in-Unknown.ensures in
    record {
      program = c.refuse-in-Unknown.ensures.program;
      help = c.refuse-in-Unknown.ensures.help;
      before = ap (λ v. v.items) c.refuse-in-Unknown.ensures.before;
      told = rw c.refuse-in-Unknown.ensures.mistake (unknown_command c.in-Unknown.word c.in-Unknown.rest c.in_ok-hints-in-Unknown.hints means hinted);
    }
