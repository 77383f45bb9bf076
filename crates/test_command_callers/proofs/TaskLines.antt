-- Lines of three commands, by the clauses of `Commands::read`.
use Rattle.std.proofs.Common.{◌≡◌, ℕ, List, [], ◌∷◌, None, codes, map, sym, subst, ◌∙◌}
use Rattle.std.specs.declared.convert.Infallible.{Infallible}
use Rattle.lexopt_options_spec.specs.Asking.{first_asked}
use Rattle.lexopt_options_spec.specs.Legal as legal
use Rattle.lexopt_options.specs.declared.mistake.Mistake.{Mistake}
use Rattle.lexopt_options.specs.declared.parsed.Parsed.{Parsed}
use Rattle.lexopt_options.specs.Declarations.{declaration_of, options_of}
use Rattle.lexopt_options.specs.Keys.{AreReadAs}
use Rattle.lexopt_commands.specs.declared.commands.Commands.{Commands}
use Rattle.lexopt_commands.specs.declared.read.CommandLine.{CommandLine}
use Rattle.lexopt_commands.specs.declared.read.CommandLine.TheVariants as line
use Rattle.lexopt_commands.specs.Lines.{IsLineAfter, IsLineOf}
use Rattle.lexopt_options_spec.specs.Rest.{MeansBefore, surplus}
use Rattle.lexopt_options.specs.declared.options.Options.{Options}
use Rattle.lexopt_commands.specs.Meanings.{Meaning, command, help, meaning, missing, unknown}
use Rattle.lexopt_commands.specs.Mistakes.{IsHint, IsMistake, unknown_command, missing_command}
use Rattle.lexopt_commands.specs.Names.{names_of}
use Rattle.test_command_callers.specs.declared.commands.Task.{Task}
use Rattle.test_command_callers.specs.Tasks.{IsAsking, AreHintsFor, IsMissing, IsMissingName, IsTask, IsUnknown, IsUnknownName}

-- the words after the general options are this command
pub is_task : {F V M S : Type 0} (c : Commands Task F V M S) (l : List legal.Parsed) (parsed : List (Parsed F V Infallible M S)) (rest own : List (List ℕ)) (name : List ℕ) (task : Task) (it : CommandLine Task F V M S)
    → meaning c.commands.now rest ≡ command name task own → AreReadAs (options_of c.options) l parsed → IsLineAfter c parsed rest it → IsTask (options_of c.options) l name task own it
is_task c l parsed rest own name task (line.Command words told key others) means are after =
    let e : command name task own ≡ command told.now key others.items = sym means ∙ after.1 in
    (subst (λ x. AreReadAs (options_of c.options) l x) (sym after.0) are, name_is told.now key others.items e, key_is told.now key others.items e, own_is told.now key others.items e)
  where
    name_is : (told : List ℕ) (key : Task) (others : List (List ℕ)) → command name task own ≡ command told key others → told ≡ name
    name_is told key others e = cc

    key_is : (told : List ℕ) (key : Task) (others : List (List ℕ)) → command name task own ≡ command told key others → key ≡ task
    key_is told key others e = cc

    own_is : (told : List ℕ) (key : Task) (others : List (List ℕ)) → command name task own ≡ command told key others → others ≡ own
    own_is told key others e = cc
is_task c l parsed rest own name task (line.Asked asked) means are after = let e : command name task own ≡ help = sym means ∙ after.0 in cc
is_task c l parsed rest own name task (line.Refused refused) means are after = no_mistake refused.mistake after.told
  where
    no_mistake : (m : Mistake) → IsMistake c.commands.now rest m → ⊥
    no_mistake m (missing_command names is are) = let e : command name task own ≡ missing = sym means ∙ is in cc
    no_mistake m (unknown_command word others hints is are) = let e : command name task own ≡ unknown word others.items = sym means ∙ is in cc

pub is_asking : {F V M S : Type 0} (c : Commands Task F V M S) (parsed : List (Parsed F V Infallible M S)) (rest : List (List ℕ)) (it : CommandLine Task F V M S)
    → meaning c.commands.now rest ≡ help → IsLineAfter c parsed rest it → IsAsking it
is_asking c parsed rest (line.Command words told key others) means after = let e : ◌≡◌ {A = Meaning Task} help (command told.now key others.items) = sym means ∙ after.1 in cc
is_asking c parsed rest (line.Asked asked) means after = after.1
is_asking c parsed rest (line.Refused refused) means after = no_mistake refused.mistake after.told
  where
    no_mistake : (m : Mistake) → IsMistake c.commands.now rest m → ⊥
    no_mistake m (missing_command names is are) = let e : ◌≡◌ {A = Meaning Task} help missing = sym means ∙ is in cc
    no_mistake m (unknown_command word others hints is are) = let e : ◌≡◌ {A = Meaning Task} help (unknown word others.items) = sym means ∙ is in cc

pub is_missing : {F V M S : Type 0} (c : Commands Task F V M S) (l : List legal.Parsed) (parsed : List (Parsed F V Infallible M S)) (it : CommandLine Task F V M S)
    → names_of c.commands.now ≡ codes "add" ∷ codes "remote" ∷ codes "help" ∷ [] → AreReadAs (options_of c.options) l parsed → IsLineAfter c parsed [] it → IsMissing (options_of c.options) l it
is_missing c l parsed (line.Command words told key others) names are after = let e : ◌≡◌ {A = Meaning Task} missing (command told.now key others.items) = after.1 in cc
is_missing c l parsed (line.Asked asked) names are after = let e : ◌≡◌ {A = Meaning Task} missing help = after.0 in cc
is_missing c l parsed (line.Refused refused) names are after = (subst (λ x. AreReadAs (options_of c.options) l x) (sym after.before) are, by_mistake refused.mistake after.told)
  where
    by_mistake : (m : Mistake) → IsMistake c.commands.now [] m → IsMissingName m
    by_mistake m (missing_command own is named) = named ∙ names
    by_mistake m (unknown_command word others hints is are) = let e : ◌≡◌ {A = Meaning Task} missing (unknown word others.items) = is in cc

same_unknown : (name word : List ℕ) (words own : List (List ℕ)) → ◌≡◌ {A = Meaning Task} (unknown name words) (unknown word own) → (word ≡ name) × (own ≡ words)
same_unknown name word words own e = (cc, cc)

pub is_unknown : {F V M S : Type 0} (c : Commands Task F V M S) (l : List legal.Parsed) (parsed : List (Parsed F V Infallible M S)) (rest own : List (List ℕ)) (name typed : List ℕ) (it : CommandLine Task F V M S)
    → meaning c.commands.now rest ≡ unknown name own → ((hints : List (List ℕ)) → IsHint c.commands.now name hints → AreHintsFor typed hints) → AreReadAs (options_of c.options) l parsed → IsLineAfter c parsed rest it
    → IsUnknown (options_of c.options) l name typed own it
is_unknown c l parsed rest own name typed (line.Command words told key others) means are_hints are after = let e : ◌≡◌ {A = Meaning Task} (unknown name own) (command told.now key others.items) = sym means ∙ after.1 in cc
is_unknown c l parsed rest own name typed (line.Asked asked) means are_hints are after = let e : ◌≡◌ {A = Meaning Task} (unknown name own) help = sym means ∙ after.0 in cc
is_unknown c l parsed rest own name typed (line.Refused refused) means are_hints are after = (subst (λ x. AreReadAs (options_of c.options) l x) (sym after.before) are, by_mistake refused.mistake after.told)
  where
    by_mistake : (m : Mistake) → IsMistake c.commands.now rest m → IsUnknownName name typed own m
    by_mistake m (missing_command names is are) = let e : ◌≡◌ {A = Meaning Task} (unknown name own) missing = sym means ∙ is in cc
    by_mistake m (unknown_command word others hints is are) =
        let same = same_unknown name word own others.items (sym means ∙ is) in
        (same.0, are_hints (map (λ hint. hint.now) hints.items) (subst (λ w. IsHint c.commands.now w (map (λ hint. hint.now) hints.items)) same.0 are), same.1)

-- ---- under the general options of the caller

after_none : {F V M S : Type 0} (c : Commands Task F V M S) (o : Options F V Infallible M S) (l : List legal.Parsed) (rest : List (List ℕ)) (it : CommandLine Task F V M S)
    → c.options ≡ o → first_asked (declaration_of o).options l ≡ None → IsLineOf c l rest it → (parsed : List (Parsed F V Infallible M S)) × AreReadAs (options_of c.options) l parsed × IsLineAfter c parsed rest it
after_none c o l rest it same none of = of.after (subst (λ x. first_asked (declaration_of x).options l ≡ None) (sym same) none)

pub task_line : {F V M S : Type 0} (c : Commands Task F V M S) (o : Options F V Infallible M S) (l : List legal.Parsed) (rest own : List (List ℕ)) (name : List ℕ) (task : Task) (it : CommandLine Task F V M S)
    → c.options ≡ o → first_asked (declaration_of o).options l ≡ None → meaning c.commands.now rest ≡ command name task own → IsLineOf c l rest it → IsTask (options_of o) l name task own it
task_line c o l rest own name task it same none means of =
    let a = after_none c o l rest it same none of in
    subst (λ x. IsTask (options_of x) l name task own it) same (is_task c l a.0 rest own name task it means a.1 a.2)

pub asking_line : {F V M S : Type 0} (c : Commands Task F V M S) (o : Options F V Infallible M S) (l : List legal.Parsed) (rest : List (List ℕ)) (it : CommandLine Task F V M S)
    → c.options ≡ o → first_asked (declaration_of o).options l ≡ None → meaning c.commands.now rest ≡ help → IsLineOf c l rest it → IsAsking it
asking_line c o l rest it same none means of =
    let a = after_none c o l rest it same none of in
    is_asking c a.0 rest it means a.2

pub missing_line : {F V M S : Type 0} (c : Commands Task F V M S) (o : Options F V Infallible M S) (l : List legal.Parsed) (it : CommandLine Task F V M S)
    → c.options ≡ o → first_asked (declaration_of o).options l ≡ None → names_of c.commands.now ≡ codes "add" ∷ codes "remote" ∷ codes "help" ∷ [] → IsLineOf c l [] it → IsMissing (options_of o) l it
missing_line c o l it same none names of =
    let a = after_none c o l [] it same none of in
    subst (λ x. IsMissing (options_of x) l it) same (is_missing c l a.0 it names a.1 a.2)

pub unknown_line : {F V M S : Type 0} (c : Commands Task F V M S) (o : Options F V Infallible M S) (l : List legal.Parsed) (rest words : List (List ℕ)) (name typed : List ℕ) (it : CommandLine Task F V M S)
    → c.options ≡ o → first_asked (declaration_of o).options l ≡ None → meaning c.commands.now rest ≡ unknown name words → ((hints : List (List ℕ)) → IsHint c.commands.now name hints → AreHintsFor typed hints) → IsLineOf c l rest it
    → IsUnknown (options_of o) l name typed words it
unknown_line c o l rest words name typed it same none means are_hints of =
    let a = after_none c o l rest it same none of in
    subst (λ x. IsUnknown (options_of x) l name typed words it) same (is_unknown c l a.0 rest words name typed it means are_hints a.1 a.2)

-- equal options read the same words in the same way
pub of_options : {F V M S : Type 0} (o own : Options F V Infallible M S) (words : List (List ℕ)) (l : List legal.Parsed) (rest : List (List ℕ)) → o ≡ own → MeansBefore surplus (declaration_of own) words l rest → MeansBefore surplus (declaration_of o) words l rest
of_options o own words l rest same means = subst (λ x. MeansBefore surplus (declaration_of x) words l rest) (sym same) means
