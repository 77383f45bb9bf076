use Rattle.std.proofs.Common.{rules, ◌≡◌, arith}
use Rattle.std.proofs.lemmas.Grind.{common_steps}
use Rattle.example_forward.specs.Shell.{quoted}
use Rattle.example_forward.proofs.Reading.{read_back}
use Rattle.example_forward.proofs.shell.quoted.Goals as goal

pub returns-then-needs_none-clause-read_back : goal.returns-then-needs_none-clause-read_back
returns-then-needs_none-clause-read_back c =
    let form : c.extend_from_slice.new.self.items ≡ quoted c.args.word.now = search rules in
    read_back c.extend_from_slice.new.self.items c.args.word.now form

pub returns-clause-read_back : goal.returns-clause-read_back
returns-clause-read_back c =
    let form : c.push-2.new.self.items ≡ quoted c.args.word.now = grind (arith, common_steps) in
    read_back c.push-2.new.self.items c.args.word.now form
