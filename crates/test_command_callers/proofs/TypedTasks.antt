-- What three commands do to complete a word, by the clauses of `Commands::answer_request`.
use Rattle.std.proofs.Common.{◌≡◌, ℕ, true, false, List, [], ◌∷◌, ◌++◌, map, codes, refl, ap, inl, inr, sym, subst, ◌∙◌, ⊎_elim}
use Rattle.std.specs.List.{AllZip, concat, flat_map}
use Rattle.std.specs.declared.convert.Infallible.{Infallible}
use Rattle.lexopt_spec.specs.UnreadLine.{dash, IsPlain}
use Rattle.lexopt_line_spec.proofs.Worked.{not_begins}
use Rattle.lexopt_options_spec.specs.Declaration.{Declaration}
use Rattle.lexopt_options_spec.specs.Rest.{HaveNoRest, IsSplit, surplus}
use Rattle.lexopt_options_spec.proofs.OneRest.{one_rest}
use Rattle.lexopt_options.specs.declared.options.Options.{Options}
use Rattle.lexopt_options.specs.Answers.{IsCompletionText}
use Rattle.lexopt_options.specs.Declarations.{declaration_of}
use Rattle.lexopt_commands.specs.declared.answer.Step.{Step}
use Rattle.lexopt_commands.specs.declared.answer.Step.TheVariants as step
use Rattle.lexopt_commands.specs.declared.command.Command.{Command}
use Rattle.lexopt_commands.specs.declared.commands.Commands.{Commands}
use Rattle.lexopt_commands.specs.Completions.{IsNamesText, IsCompletionStep, IsPlaced, IsPlacedAfter, IsText, IsUnplaced, at_help, begun_line, in_command, name_line, nowhere, place}
use Rattle.test_command_callers.specs.declared.commands.Task.{Task}
use Rattle.test_command_callers.specs.Tasks as tasks
use Rattle.test_command_callers.specs.Tasks.{AreOffered, IsTaskAsked, IsWritten, task_lines}

-- the place of the typed word, after these general options and these words
placed_so : {F V M S : Type 0} (c : Commands Task F V M S) (o : Options F V Infallible M S) (words front more : List (List ℕ)) (word typed : List ℕ) (it : Step Task F V M S)
    → c.options ≡ o → IsSplit surplus (declaration_of o) words front word more → IsCompletionStep c words typed it → IsPlaced c typed (place c.commands.now (word ∷ more)) it
placed_so {F} {V} {M} {S} c o words front more word typed it same split is =
    let own = subst (λ (x : Options F V Infallible M S). IsSplit surplus (declaration_of x) words front word more) (sym same) split in ⊎_elim
    (λ (after : IsPlacedAfter c words typed it).
    subst (λ (r : List (List ℕ)). IsPlaced c typed (place c.commands.now r) it) (one_rest (declaration_of c.options) words after.front front after.word word after.more more after.split own).1 after.placed)
    (λ (un : IsUnplaced c words typed it). absurd (un.without_rest front word more own))
    is

in_task : {F V M S : Type 0} (c : Commands Task F V M S) (o : Options F V Infallible M S) (words : List (List ℕ)) (typed : List ℕ) (rest : List (List ℕ)) (name : List ℕ) (task : Task) (it : Step Task F V M S)
    → c.options ≡ o → IsPlaced c typed (in_command name task rest) it → IsTaskAsked task ((declaration_of o).program ++ 0x20 ∷ name) rest typed it
in_task c o words typed rest name task (step.Command key path call) same is =
    (is.0, is.1 ∙ ap (λ x. (declaration_of x).program ++ 0x20 ∷ name) same, is.2.general, is.2.before, is.2.same, is.2.asked)
in_task c o words typed rest name task (step.Text text) same is = is
in_task c o words typed rest name task (step.Refused refused) same is = is

pub task_asked : {F V M S : Type 0} (c : Commands Task F V M S) (o : Options F V Infallible M S) (words front more own : List (List ℕ)) (word typed : List ℕ) (name : List ℕ) (task : Task) (it : Step Task F V M S)
    → c.options ≡ o → place c.commands.now (word ∷ more) ≡ in_command name task own → IsSplit surplus (declaration_of o) words front word more → IsCompletionStep c words typed it
    → IsTaskAsked task ((declaration_of o).program ++ 0x20 ∷ name) own typed it
task_asked c o words front more own word typed name task it same there split is =
    in_task c o words typed own name task it same (subst (λ x. IsPlaced c typed x it) there (placed_so c o words front more word typed it same split is))

written_at_help : {F V M S : Type 0} (c : Commands Task F V M S) (typed : List ℕ) (it : Step Task F V M S) → IsPlaced c typed at_help it → IsWritten (flat_map (begun_line typed) c.commands.now) it
written_at_help c typed (step.Command key path call) is = is
written_at_help c typed (step.Text text) is = is
written_at_help c typed (step.Refused refused) is = is

pub names_written : {F V M S : Type 0} (c : Commands Task F V M S) (o : Options F V Infallible M S) (words front more : List (List ℕ)) (word typed : List ℕ) (it : Step Task F V M S) (text : List ℕ)
    → c.options ≡ o → place c.commands.now (word ∷ more) ≡ at_help → flat_map (begun_line typed) c.commands.now ≡ text → IsSplit surplus (declaration_of o) words front word more → IsCompletionStep c words typed it → IsWritten text it
names_written c o words front more word typed it text same there are split is =
    let p = placed_so c o words front more word typed it same split is in
    subst (λ t. IsWritten t it) are (written_at_help c typed it (subst (λ x. IsPlaced c typed x it) there p))

written_nowhere : {F V M S : Type 0} (c : Commands Task F V M S) (typed : List ℕ) (it : Step Task F V M S) → IsPlaced c typed nowhere it → IsWritten [] it
written_nowhere c typed (step.Command key path call) is = is
written_nowhere c typed (step.Text text) is = is
written_nowhere c typed (step.Refused refused) is = is

pub nothing_written : {F V M S : Type 0} (c : Commands Task F V M S) (o : Options F V Infallible M S) (words front more : List (List ℕ)) (word typed : List ℕ) (it : Step Task F V M S)
    → c.options ≡ o → place c.commands.now (word ∷ more) ≡ nowhere → IsSplit surplus (declaration_of o) words front word more → IsCompletionStep c words typed it → IsWritten [] it
nothing_written c o words front more word typed it same there split is =
    let p = placed_so c o words front more word typed it same split is in
    written_nowhere c typed it (subst (λ x. IsPlaced c typed x it) there p)

-- ---- the names of the commands

-- the name of a command, and its line
abbrev pub name_and_line : Command Task → List ℕ × List ℕ
name_and_line c = (c.name.now, name_line c)

-- a text has the line of each of these names
abbrev pub AreLines : Declaration → List (List ℕ) → List ℕ → List (List ℕ × List ℕ) → List ℕ → Type 0
AreLines d words typed ps text = (lines : List (List ℕ)) × AllZip (tasks.IsLineOf d words typed) ps lines × (text ≡ concat lines)

-- any plain word would begin the rest after these words, or none would
abbrev AnyBegins : Declaration → List (List ℕ) → Type 0
AnyBegins d words = (word : List ℕ) → IsPlain false word → IsSplit surplus d (words ++ word ∷ []) words word []

abbrev NoneBegins : Declaration → List (List ℕ) → Type 0
NoneBegins d words = (word : List ℕ) → IsPlain false word → ¬ IsSplit surplus d (words ++ word ∷ []) words word []

abbrev ArePlain : List (List ℕ × List ℕ) → Type 0
ArePlain [] = Unit {0}
ArePlain (p ∷ ps) = IsPlain false p.0 × ArePlain ps

each_line : (d : Declaration) (words : List (List ℕ)) (typed : List ℕ) (ps : List (List ℕ × List ℕ)) → ArePlain ps → AnyBegins d words → AreLines d words typed ps (flat_map (tasks.begun typed) ps)
each_line d words typed [] plain named = ([], tt, refl)
each_line d words typed (p ∷ ps) plain named =
    let rest = each_line d words typed ps plain.1 named in (tasks.begun typed p ∷ rest.0, (inl (named p.0 plain.0, refl), rest.1), ap (λ l. tasks.begun typed p ++ l) rest.2)

no_line : (d : Declaration) (words : List (List ℕ)) (typed : List ℕ) (ps : List (List ℕ × List ℕ)) → ArePlain ps → NoneBegins d words → AreLines d words typed ps []
no_line d words typed [] plain never = ([], tt, refl)
no_line d words typed (p ∷ ps) plain never =
    let rest = no_line d words typed ps plain.1 never in ([] ∷ rest.0, (inr (never p.0 plain.0, refl), rest.1), rest.2)

begun_pairs : (typed : List ℕ) (commands : List (Command Task)) → flat_map (begun_line typed) commands ≡ flat_map (tasks.begun typed) (map name_and_line commands)
begun_pairs typed [] = refl
begun_pairs typed (c ∷ cs) = ap (λ l. begun_line typed c ++ l) (begun_pairs typed cs)

tasks_plain : ArePlain task_lines
tasks_plain = (inr (inr (not_begins dash (codes "add") refl)), (inr (inr (not_begins dash (codes "remote") refl)), (inr (inr (not_begins dash (codes "help") refl)), tt)))

pub lines_so : {F V M S : Type 0} (c : Commands Task F V M S) (words : List (List ℕ)) (typed text : List ℕ) → map name_and_line c.commands.now ≡ task_lines → IsNamesText c words typed text
    → AreLines (declaration_of c.options) words typed task_lines text
lines_so c words typed text are (true, any, is) =
    subst (AreLines (declaration_of c.options) words typed task_lines) (sym (is ∙ begun_pairs typed c.commands.now ∙ ap (flat_map (tasks.begun typed)) are))
    (each_line (declaration_of c.options) words typed task_lines tasks_plain any)
lines_so c words typed text are (false, none, is) =
    subst (AreLines (declaration_of c.options) words typed task_lines) (sym is) (no_line (declaration_of c.options) words typed task_lines tasks_plain none)

-- ---- where there is no rest after the general options

unplaced : {F V M S : Type 0} (c : Commands Task F V M S) (o : Options F V Infallible M S) (words : List (List ℕ)) (typed : List ℕ) (it : Step Task F V M S) → c.options ≡ o → HaveNoRest surplus (declaration_of o) words → IsCompletionStep c words typed it
    → IsUnplaced c words typed it
unplaced {F} {V} {M} {S} c o words typed it same without is = ⊎_elim
    (λ (after : IsPlacedAfter c words typed it). absurd (without after.front after.word after.more (subst (λ (x : Options F V Infallible M S). IsSplit surplus (declaration_of x) words after.front after.word after.more) same after.split)))
    (λ (un : IsUnplaced c words typed it). un)
    is

offered_so : {F V M S : Type 0} (c : Commands Task F V M S) (words : List (List ℕ)) (typed names own : List ℕ) (it : Step Task F V M S)
    → AreLines (declaration_of c.options) words typed task_lines names → IsText it (names ++ own) → IsCompletionText c.options words typed own → AreOffered c.options words typed it
offered_so c words typed names own (step.Command key path call) lines is are = is
offered_so c words typed names own (step.Text found) lines is are = (lines.0, lines.1, own, are, is ∙ ap (λ l. l ++ own) lines.2)
offered_so c words typed names own (step.Refused refused) lines is are = is

pub options_offered : {F V M S : Type 0} (c : Commands Task F V M S) (o : Options F V Infallible M S) (words : List (List ℕ)) (typed : List ℕ) (it : Step Task F V M S) → c.options ≡ o → HaveNoRest surplus (declaration_of o) words
    → ((text : List ℕ) → IsNamesText c words typed text → AreLines (declaration_of c.options) words typed task_lines text) → IsCompletionStep c words typed it
    → AreOffered o words typed it
options_offered {F} {V} {M} {S} c o words typed it same without so is =
    let un = unplaced c o words typed it same without is in
    subst (λ (x : Options F V Infallible M S). AreOffered x words typed it) same (offered_so c words typed un.names un.own it (so un.names un.are_names) un.printed un.is_own)
