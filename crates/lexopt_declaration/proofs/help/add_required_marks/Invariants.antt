use Rattle.std.proofs.Common.{◌≡◌, ◌++◌, map, take, string_bytes}
use Rattle.lexopt_options_spec.specs.Help.{demanded, option_mark, visible}
use Rattle.lexopt_declaration.specs.Models.{option_view}
use Rattle.lexopt_declaration.proofs.help.add_required_marks.Given as goal

abbrev pub invariant-loop-declared : goal.invariant-loop-declared
invariant-loop-declared g l =
    map string_bytes l.marks.items ≡ map string_bytes l.fn.marks.items ++ map option_mark (demanded (visible (map option_view (take l.declared-index l.options))))
