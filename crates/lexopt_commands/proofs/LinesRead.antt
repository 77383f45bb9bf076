-- The line of given general options and words.
use Rattle.lexopt_commands.proofs.Common.{◌≡◌, ℕ, List, Option, Some, None, subst, sym, ◌∙◌, ◌∷◌, ap, declaration_of, options_of, Command, command, help, meaning, missing, named, named_by, unknown}
use Rattle.lexopt_commands.proofs.Common.{slice_get, Infallible, first_asked}
use Rattle.lexopt_options_spec.specs.Declaration as spec
use Rattle.lexopt_options_spec.specs.Legal as legal
use Rattle.lexopt_options.specs.declared.mistake.Mistake.{Mistake}
use Rattle.lexopt_options.specs.declared.parsed.Parsed.{Parsed}
use Rattle.lexopt_options.specs.Keys.{AreReadAs, asked_view}
use Rattle.lexopt_commands.specs.declared.commands.Commands.{Commands}
use Rattle.lexopt_commands.specs.declared.read.CommandLine.{CommandLine}
use Rattle.lexopt_commands.specs.declared.read.CommandLine.TheVariants as line
use Rattle.lexopt_commands.specs.declared.command.Runs.TheVariants as runs
use Rattle.lexopt_commands.specs.Lines.{IsCommandLine, IsLineAfter, IsLineOf}
use Rattle.lexopt_commands.specs.Mistakes.{IsMistake, unknown_command, missing_command}
use Rattle.lexopt_commands.proofs.Found.{each_found}

same_asked : (one : Option spec.Asked) (asked own : spec.Asked) → one ≡ Some own → one ≡ Some asked → own ≡ asked
same_asked one asked own is too = let e : Some own ≡ Some asked = sym is ∙ too in cc

pub none_asked : (one : Option spec.Asked) (asked : spec.Asked) → one ≡ None → one ≡ Some asked → ⊥
none_asked one asked none is = let e : None ≡ Some asked = sym none ∙ is in cc

pub of_parsed : {C F V M S : Type 0} (c : Commands C F V M S) (l : List legal.Parsed) (rest : List (List ℕ)) (others : List (List ℕ)) (parsed : List (Parsed F V Infallible M S)) (it : CommandLine C F V M S)
    → (first_asked (declaration_of c.options).options l ≡ None) → AreReadAs (options_of c.options) l parsed → others ≡ rest → IsLineAfter c parsed others it → IsLineOf c l rest it
of_parsed c l rest others parsed it none are same after = record {
  asks = λ asked is. absurd (none_asked (first_asked (declaration_of c.options).options l) asked none is);
  after = λ _. (parsed, are, subst (λ r. IsLineAfter c parsed r it) same after);
}

pub of_asked : {C F V M S : Type 0} (c : Commands C F V M S) (l : List legal.Parsed) (rest : List (List ℕ)) (asked : _) → first_asked (declaration_of c.options).options l ≡ Some (asked_view asked) → IsLineOf c l rest (line.Asked asked)
of_asked c l rest asked is = record {
  asks = λ other too. same_asked (first_asked (declaration_of c.options).options l) other (asked_view asked) is too;
  after = λ none. absurd (none_asked (first_asked (declaration_of c.options).options l) (asked_view asked) none is);
}

-- ---- the command with a name

-- the result for words that mean this command
is_command : {C F V M S : Type 0} (c : Commands C F V M S) (l : List legal.Parsed) (name : List ℕ) (key : C) (words rest : List (List ℕ)) (parsed : List (Parsed F V Infallible M S)) (it : CommandLine C F V M S)
    → AreReadAs (options_of c.options) l parsed → meaning c.commands.now words ≡ command name key rest → IsLineAfter c parsed words it → IsCommandLine c l name key rest it
is_command c l name key words rest parsed (line.Command own n k ws) are means (same, other) =
    let e : command name key rest ≡ command n.now k ws.items = sym means ∙ other in
    let parts = parts_are name n.now key k rest ws.items e in
    (subst (λ x. AreReadAs (options_of c.options) l x) (sym same) are, parts.0, parts.1, parts.2)
  where
    parts_are : {C : Type 0} (name n : List ℕ) (key k : C) (rest ws : List (List ℕ)) → command name key rest ≡ command n k ws → (n ≡ name) × (k ≡ key) × (ws ≡ rest)
    parts_are name n key k rest ws e = (cc, cc, cc)
is_command c l name key words rest parsed (line.Asked asked) are means (other, same) = absurd (let e : command name key rest ≡ help = sym means ∙ other in cc)
is_command c l name key words rest parsed (line.Refused refused) are means after = no_mistake refused.mistake after.told
  where
    no_mistake : (m : Mistake) → IsMistake c.commands.now words m → ⊥
    no_mistake m (missing_command names is are) = let e : command name key rest ≡ missing = sym means ∙ is in cc
    no_mistake m (unknown_command word own hints is are) = let e : command name key rest ≡ unknown word own.items = sym means ∙ is in cc

-- the name of a command, with the words after it, means that command
name_means : {C F V M S : Type 0} (c : Commands C F V M S) (i : ℕ) (own : Command C) (key : C) (rest : List (List ℕ)) → slice_get c.commands.now i ≡ Some own → own.runs ≡ runs.Command key
    → meaning c.commands.now (own.name.now ∷ rest) ≡ command own.name.now key rest
name_means c i own key rest at is =
    ap (λ r. named c.commands.now r own.name.now rest) (each_found c.commands.now c.sound i own at)
    ∙ ap (λ r. named_by c.commands.now r own.name.now rest) is

pub of_name : {C F V M S : Type 0} (c : Commands C F V M S) (i : ℕ) (own : Command C) (key : C) (l : List legal.Parsed) (rest : List (List ℕ)) (others : List (List ℕ)) (parsed : List (Parsed F V Infallible M S)) (it : CommandLine C F V M S)
    → slice_get c.commands.now i ≡ Some own → own.runs ≡ runs.Command key → AreReadAs (options_of c.options) l parsed → others ≡ own.name.now ∷ rest → IsLineAfter c parsed others it → IsCommandLine c l own.name.now key rest it
of_name c i own key l rest others parsed it at is are same after =
    is_command c l own.name.now key others rest parsed it are (ap (meaning c.commands.now) same ∙ name_means c i own key rest at is) after
