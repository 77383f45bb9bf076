use Rattle.std.proofs.Common.{string_bytes}
use Rattle.lexopt_base.proofs.Names.{kept_whole}
use Rattle.lexopt_base.proofs.parser.keep_name.Goals as goal

pub returns-clause-ok : goal.returns-clause-ok
returns-clause-ok c =
    let text = c.in-Ok.ensures.cases in
    kept_whole c.push_str.result (string_bytes c.clear.new.self) c.in-Ok.text.now c.args.name.now _ c.clear.ensures.bytes c.push_str.ensures.bytes text.0 text.1
