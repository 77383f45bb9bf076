use Rattle.lexopt_commands.proofs.Common.{◌≡◌, sym, take, ◌∙◌, arith, common_steps}
use Rattle.std.proofs.lemmas.List.Concat.{concat_is}
use Rattle.lexopt_commands.proofs.Entries.{entry_more}
use Rattle.lexopt_commands.proofs.help.command_entries.Goals as goal

pub loop-command-preserved : goal.loop-command-preserved
loop-command-preserved g c =
    let e = c.in_ok-push_described.ensures in
    entry_more c.args.width c.args.commands.now c.loop-command.command-index c.command-item.result _ _ e.0 (omega arith) c.command-item.is c.loop-command.invariant e.1 e.2

pub returns : goal.returns
returns g c =
    let l = c.loop-command.invariant in
    let all : take c.loop-command.command-index c.args.commands.now ≡ c.args.commands.now = grind (arith, common_steps) in
    (l.texts, rw all at l.each, l.text_is ∙ sym (concat_is l.texts))
