-- The loop that looks for the first command that cannot be declared.
use Rattle.lexopt_commands.proofs.Common.{◌≡◌, ◌==◌, Bool, if◌then◌else◌, ℕ, List, take, Option, Some, None, ap, sym, subst, ◌∙◌, list_any, Command, fault, first_fault, name_fault, names_of, or_else}
use Rattle.lexopt_commands.proofs.Common.{pointwise, list_any-map, Reason}
use Rattle.std.proofs.Math.ListN.{drop}
use Rattle.lexopt_commands.specs.declared.command.Reason.TheVariants.{SameName}

-- what is found from this index on
abbrev pub found_from : {C : Type 0} → List (Command C) → ℕ → Option (List ℕ × Reason)
found_from commands i = first_fault (names_of (take i commands)) (names_of (drop i commands))

-- a name without a fault of its own cannot be declared if a command before it has that name
pub fault_among : {C : Type 0} (commands : List (Command C)) (name own : List ℕ) (is_among : Bool) → own ≡ name → None ≡ name_fault own → is_among ≡ list_any (λ (c : Command C). pointwise ◌==◌ c.name.now own) commands
    → (if is_among then Some SameName else None) ≡ fault (names_of commands) name
fault_among commands name own is_among same none among =
    subst (λ n. (if is_among then Some SameName else None) ≡ fault (names_of commands) n) same
    (ap (λ b. if b then Some SameName else None) (among ∙ sym (list_any-map (λ (c : Command _). c.name.now) (λ n. pointwise ◌==◌ n own) commands))
    ∙ ap (λ r. or_else r (if list_any (λ n. pointwise ◌==◌ n own) (names_of commands) then Some SameName else None)) none)
