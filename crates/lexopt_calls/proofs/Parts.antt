-- Lists of calls of which only a part was made.
use Rattle.std.proofs.Common.{◌≡◌, ℕ, ◌+◌, ◌<◌, Result, Ok, Err, OnErr, List, [], ◌∷◌, ◌++◌, length, map, take, drop, get_or, sym, ap, subst, ◌∙◌, append_assoc}
use Rattle.std.proofs.lemmas.List.{map-append, take_more, take-append-drop}
use Rattle.lexopt_spec.specs.UnreadLine.{UnreadLine}
use Rattle.lexopt_spec.specs.Steps.{Reply}
use Rattle.lexopt_spec.specs.Runs as runs
use Rattle.lexopt_spec.specs.Runs.{Step, Run, Part, up_to}
use Rattle.lexopt_line_spec.proofs.Parts.{part_cut}
use Rattle.lexopt_calls.specs.declared.reply.Call.{Call}
use Rattle.lexopt_calls.specs.Replies.{call_view}

-- a list is the elements before a place, the one at it, and those after it
at_place : (calls : List Call) (i : ℕ) (other : Call) → i < length calls
    → calls ≡ take i calls ++ get_or calls i other ∷ drop (i + 1) calls
at_place calls i other some =
    sym (take-append-drop (i + 1) calls) ∙ ap (λ l. l ++ drop (i + 1) calls) (take_more calls i other some)
    ∙ append_assoc (take i calls) (get_or calls i other ∷ []) (drop (i + 1) calls)

-- the calls before a place were made, and the call there, with some of its items
pub part_made : (u v w : UnreadLine) (calls : List Call) (i m : ℕ) (call : Call) (replies : List Reply) (reply : Reply) → call ≡ get_or calls i call
    → i < length calls → Run u (map call_view (take i calls)) replies v → Step (up_to m (call_view call)) v reply w → Part u (map call_view calls) w
part_made u v w calls i m call replies reply is some run step =
    let here = get_or calls i call in
    subst (λ (l : List runs.Call). Part u l w)
    (sym (ap (map call_view) (at_place calls i call some) ∙ map-append call_view (take i calls) (here ∷ drop (i + 1) calls)))
    (part_cut u v w (map call_view (take i calls)) (map call_view (drop (i + 1) calls)) replies (call_view here) m reply run
    (subst (λ (it : Call). Step (up_to m (call_view it)) v reply w) is step))

pub on_err : {T E P : Type 0} (r : Result T E) → P → OnErr r P
on_err (Ok value) holds = tt
on_err (Err e) holds = holds
