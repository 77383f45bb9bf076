use Rattle.std.proofs.Common.{◌==◌, string_bytes, Global, String, sym, ap, ◌∙◌}
use Rattle.std.specs.List.{list_any}
use Rattle.std.specs.Cmp.Lexicographic.{pointwise}
use Rattle.lexopt_line_spec.proofs.Lists.{list_any-map}
use Rattle.lexopt_items.proofs.kinds.holds.Goals as goal

pub returns : goal.returns
returns c =
    c.any_is.ensures
    ∙ ap (list_any (λ (n : String Global). pointwise ◌==◌ (string_bytes n) c.args.name.now)) c.deref.ensures.value
    ∙ sym (list_any-map (string_bytes {Z = Global}) (λ n. pointwise ◌==◌ n c.args.name.now) c.args.names.now.items)
