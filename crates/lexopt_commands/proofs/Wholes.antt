-- The declaration of a program whose line has a rest, with the rest as its last positionals.
use Rattle.lexopt_commands.proofs.Common.{◌≡◌, ◌++◌, ◌∷◌, ◌∙◌, [], ℕ, List, ap, codes, map, false, refl, true, declaration_of, positionals_of, Infallible, positional_view}
use Rattle.std.specs.Borrow.{Bor}
use Rattle.lexopt_options_spec.specs.Declaration as spec
use Rattle.lexopt_declaration.specs.declared.declaration.Positional.{Positional}
use Rattle.lexopt_options.specs.declared.options.Options.{Options}
use Rattle.lexopt_options.specs.declared.rest.RestStart.TheVariants.{Surplus}
use Rattle.lexopt_commands.specs.Help.{with_command}
use Rattle.lexopt_commands.specs.Wrappers.{argument_positional, rest_mark, rest_positionals, whole_of}
use Rattle.lexopt_commands.specs.declared.wrapper.Rest.{Rest}
use Rattle.lexopt_commands.specs.declared.wrapper.Wrapper.{Wrapper}

pub same_whole : {F V P M S : Type 0} (w : Wrapper F V P M S) (d : spec.Declaration)
    (all : List spec.Positional) → d ≡ record (declaration_of w.options) { positionals = all }
    → all ≡ (whole_of w).positionals → d ≡ whole_of w
same_whole w d all is same =
    is ∙ ap (λ own. record (declaration_of w.options) { positionals = own }) same

-- a key of such a positional does not exist
no_key : Infallible → ⊥
no_key = elim [ ]

pub no_positionals : (ps : List (Positional Infallible)) → map positional_view ps ≡ []
no_positionals [] = refl
no_positionals (p ∷ ps) = absurd (no_key p.key)

-- general options, with a command as the rest
pub same_command : {F V M S : Type 0} (w : Wrapper F V Infallible M S) (o : Options F V Infallible M S) (placeholder help : Bor (List ℕ)) → w.options ≡ o → w.rest ≡ record { start = Surplus; placeholder = placeholder; help = help; required = true }
    → placeholder.now ≡ codes "COMMAND" → help.now ≡ [] → whole_of w ≡ with_command (declaration_of o)
same_command w o placeholder help same is named silent =
    ap (λ (x : Options _ _ Infallible _ _). record (declaration_of x) { positionals = (declaration_of x).positionals ++ rest_positionals (rest_mark w.rest) w.rest }) same
    ∙ ap (λ (r : Rest). record (declaration_of o) { positionals = (declaration_of o).positionals ++ rest_positionals (rest_mark r) r }) is
    ∙ ap (λ (ps : List spec.Positional). record (declaration_of o) { positionals = ps ++ rest_positionals placeholder.now (record { start = Surplus; placeholder = placeholder; help = help; required = true }) }) (no_positionals (positionals_of o))
    ∙ ap (λ (text : List ℕ). record (declaration_of o) { positionals = record { placeholder = text; count = spec.once; help = help.now; words = spec.files; hides_list = false } ∷ argument_positional ∷ [] }) named
    ∙ ap (λ (text : List ℕ). record (declaration_of o) { positionals = record { placeholder = codes "COMMAND"; count = spec.once; help = text; words = spec.files; hides_list = false } ∷ argument_positional ∷ [] }) silent
