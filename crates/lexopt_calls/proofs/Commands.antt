-- The commands of a script after one more whole line.
use Rattle.std.proofs.Common.{◌≡◌, List, [], ◌∷◌, ◌++◌, flat_map, Vec, Global, sym, ap, ◌∙◌, append_assoc, append-nil}
use Rattle.std.proofs.lemmas.List.Concat.{flat_map-append}
use Rattle.lexopt_calls.specs.Script.{whole_line}
use Rattle.lexopt_calls.specs.declared.reply.Call.{Call}
use Rattle.lexopt_calls.specs.Meanings.{calls_view, calls_and_line, commands_view}

pub line_more : (before : List (Vec Call Global)) (calls : Vec Call Global) → flat_map calls_and_line (before ++ calls ∷ []) ≡ commands_view before calls.items ++ whole_line ∷ []
line_more before calls =
    let front = flat_map calls_and_line before in
    flat_map-append calls_and_line before (calls ∷ [])
    ∙ ap (λ l. front ++ l) (append-nil (calls_and_line calls))
    ∙ sym (append_assoc front (calls_view calls.items) (whole_line ∷ []))
