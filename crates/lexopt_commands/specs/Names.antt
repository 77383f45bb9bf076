-- Which names commands can have. The source is `docs/behaviour.md`. Names are their UTF-8.
use Rattle.std.specs.Prelude.{ℕ, Bool, ◌==◌, if◌then◌else◌, is_none, List, [], ◌∷◌, ◌++◌, map}
use Rattle.std.specs.Prelude.{Option, Some, None}
use Rattle.std.specs.List.{list_any}
use Rattle.std.specs.Cmp.Lexicographic.{pointwise}
use Rattle.lexopt_spec.specs.UnreadLine.{dash}
use Rattle.lexopt_options_spec.specs.Declarable.{has_replacement}
use Rattle.lexopt_options_spec.specs.Declaration.{is_blank_or_control}
use Rattle.lexopt_commands.specs.declared.command.Command.{Command}
use Rattle.lexopt_commands.specs.declared.command.Reason.{Reason}
use Rattle.lexopt_commands.specs.declared.command.Reason.TheVariants.{EmptyName, DashName}
use Rattle.lexopt_commands.specs.declared.command.Reason.TheVariants.{ReplacementInName}
use Rattle.lexopt_commands.specs.declared.command.Reason.TheVariants.{BlankOrControlInName}
use Rattle.lexopt_commands.specs.declared.command.Reason.TheVariants.{SameName}

-- the names of these commands, in order
abbrev pub names_of : {C : Type 0} → List (Command C) → List (List ℕ)
names_of commands = map (λ c. c.name.now) commands

-- what is wrong with a name, whatever the other names are
abbrev pub name_fault : List ℕ → Option Reason
name_fault [] = Some EmptyName
name_fault (b ∷ bs) = if b == dash then Some DashName
    else (if has_replacement (b ∷ bs) then Some ReplacementInName
    else (if list_any is_blank_or_control (b ∷ bs) then Some BlankOrControlInName else None))

-- the first of these reasons, if there is one
abbrev pub or_else : Option Reason → Option Reason → Option Reason
or_else None other = other
or_else (Some reason) other = Some reason

-- what is wrong with a name after commands with these names
abbrev pub fault : List (List ℕ) → List ℕ → Option Reason
fault before name = or_else (name_fault name)
    (if list_any (λ own. pointwise ◌==◌ own name) before then Some SameName else None)

-- this name, if it has a fault; otherwise the first of the others that has one
abbrev pub with_fault : List ℕ → Option Reason → Option (List ℕ × Reason)
    → Option (List ℕ × Reason)
with_fault name (Some reason) others = Some (name, reason)
with_fault name None others = others

-- the first name that cannot be declared after those before it, and the reason
abbrev pub first_fault : List (List ℕ) → List (List ℕ) → Option (List ℕ × Reason)
first_fault before [] = None
first_fault before (name ∷ names) =
    with_fault name (fault before name) (first_fault (before ++ name ∷ []) names)

-- all of these names can be declared together
abbrev pub can_be_declared : List (List ℕ) → Bool
can_be_declared names = is_none (first_fault [] names)
