use Rattle.std.proofs.Common.{◌≡◌, ◌++◌, suc, take, map, codes, string_bytes}
use Rattle.std.specs.List.{join_by}
use Rattle.lexopt_line_spec.specs.ItemText.{item_text}
use Rattle.lexopt_items.specs.Items.{item_view}
use Rattle.lexopt_calls.proofs.run.write_items.Given as goal

abbrev pub invariant-loop-item : goal.invariant-loop-item
invariant-loop-item l =
    string_bytes l.text ≡ string_bytes l.fn.text ++ (codes "[" ++ join_by item_text (codes ", ") (map item_view (take (suc l.item-index) l.items)))
