-- Lines of any commands, by the clauses of `Commands::read` and `Commands::answer_request`.
use Rattle.std.proofs.Common.{refl, append-nil, ◌≡◌, ◌∷◌, ℕ, List, [], None, Some, string_bytes, sym, subst, ⊎_elim, inl, inr}
use Rattle.std.specs.declared.convert.Infallible.{Infallible}
use Rattle.lexopt_options_spec.specs.Asking.{first_asked}
use Rattle.lexopt_options_spec.specs.Declaration as spec
use Rattle.lexopt_options_spec.specs.Declaration.{for_help, for_version}
use Rattle.lexopt_options_spec.specs.Rest.{MeansBefore, before_rest, without_rest, surplus}
use Rattle.lexopt_options_spec.specs.Legal as legal
use Rattle.lexopt_declaration.specs.Lookups.{help_names}
use Rattle.lexopt_options.specs.declared.mistake.Mistake.{Mistake}
use Rattle.lexopt_options.specs.declared.options.Options.{Options}
use Rattle.lexopt_options.specs.declared.parsed.Asked.{Asked}
use Rattle.lexopt_options.specs.declared.parsed.Asked.TheVariants as asks
use Rattle.lexopt_options.specs.declared.parsed.Parsed.{Parsed}
use Rattle.lexopt_options.specs.declared.refused.Refused.{Refused}
use Rattle.lexopt_options.specs.declared.request.Request.{Request}
use Rattle.lexopt_options.specs.declared.request.Request.TheVariants as request
use Rattle.lexopt_options.specs.Answers.{IsUnknownRequest}
use Rattle.lexopt_options.specs.Declarations.{declaration_of, options_of}
use Rattle.lexopt_options.specs.Keys.{AreReadAs, asked_view}
use Rattle.lexopt_options.specs.declared.refused.Line.TheVariants as front
use Rattle.lexopt_options.specs.RestLines.{IsRestRead, by_all, by_front, early}
use Rattle.lexopt_commands.specs.declared.answer.Step.{Step}
use Rattle.lexopt_commands.specs.declared.answer.Step.TheVariants as step
use Rattle.lexopt_commands.specs.declared.command.Command.{Command}
use Rattle.lexopt_commands.specs.declared.commands.Commands.{Commands}
use Rattle.lexopt_commands.specs.declared.read.CommandLine.{CommandLine}
use Rattle.lexopt_commands.specs.declared.read.CommandLine.TheVariants as line
use Rattle.lexopt_commands.specs.Answers.{IsAskedText, IsRequestStep, IsStep}
use Rattle.lexopt_commands.specs.Completions.{IsPlaced, IsPlacedAfter, IsUnplaced, Place, at_help, in_command, nowhere, place}
use Rattle.lexopt_commands.specs.Lines.{IsAfterOptions, IsCommandLine, IsLineAsking, IsLineOf, IsLineRead}
use Rattle.lexopt_commands.specs.Mistakes.{IsMistake, unknown_command, missing_command}
use Rattle.test_command_callers.specs.AnyCommands.{AskFirst, HaveMistake, IsAskedFor, IsNamed, IsVariable, LineTells, RefusedFirst, RequestTells, StepTells, TextTells}

-- ---- a line that is read

by_words : {C F V M S : Type 0} (o : Options F V Infallible M S) (commands : List (Command C)) (words : List (List ℕ)) (r : Refused F V Infallible M S) (m : Mistake) (l : List legal.Parsed) (rest : List (List ℕ))
    → MeansBefore surplus (declaration_of o) words l rest → first_asked (declaration_of o).options l ≡ None → AreReadAs (options_of o) l r.before.items → IsMistake commands rest m → HaveMistake o commands words r m
by_words o commands words r m l rest means none are (missing_command names is named) = ((l, rest, means, none, are, is), named)
by_words o commands words r m l rest means none are (unknown_command word own hints is hinted) = ((l, rest, means, none, are, is), hinted)

-- what general options mean, and the rest after them
means_so : {F V M S : Type 0} (o : Options F V Infallible M S) (words rest : List (List ℕ)) (parsed : _) → IsRestRead surplus o words rest (front.Parsed parsed)
    → (l : List legal.Parsed) × MeansBefore surplus (declaration_of o) words l rest × (first_asked (declaration_of o).options l ≡ None) × AreReadAs (options_of o) l parsed.items
means_so o words (word ∷ more) parsed (by_front before word2 more2 own split is) = (is.0, before_rest before word2 more2 split is.1, is.2, is.3)
means_so o words [] parsed (by_all own none is) = (is.0, without_rest tt is.1, is.2, is.3)
means_so o words [] parsed (early own is) = absurd is

asks_so : {F V M S : Type 0} (o : Options F V Infallible M S) (words rest : List (List ℕ)) (asked : Asked) → IsRestRead surplus o words rest (front.Asked asked) → AskFirst (declaration_of o) words (asked_view asked)
asks_so o words (word ∷ more) asked (by_front before word2 more2 own split is) = (before, word2 ∷ more2, split.words_are, is)
asks_so o words [] asked (by_all own none is) = (words, [], sym (append-nil words), is)
asks_so o words [] asked (early own is) = (words, [], sym (append-nil words), is)

refused_so : {F V M S : Type 0} (o : Options F V Infallible M S) (words rest : List (List ℕ)) (r : Refused F V Infallible M S) → IsRestRead surplus o words rest (front.Refused r) → (r.program.now ≡ (declaration_of o).program) × (r.help ≡ help_names (options_of o)) × RefusedFirst o words r
refused_so o words (word ∷ more) r (by_front before word2 more2 own split is) = (is.program, is.help, (before, word2 ∷ more2, split.words_are, is))
refused_so o words [] r (by_all own none is) = (is.program, is.help, (words, [], sym (append-nil words), is))
refused_so o words [] r (early own is) = (is.0.program, is.0.help, (words, [], sym (append-nil words), is.0))

line_so : {C F V M S : Type 0} (c : Commands C F V M S) (words : List (List ℕ)) (it : CommandLine C F V M S) → IsLineRead c words it → LineTells c.options c.commands.now words it
line_so c words (line.Command parsed name key own) is = ⊎_elim (λ no. absurd no)
    (λ (a : IsAfterOptions c words (line.Command parsed name key own)).
    let m = means_so c.options words a.rest a.parsed a.read in
    (m.0, a.rest, m.1, m.2, subst (λ x. AreReadAs (options_of c.options) m.0 x) (sym a.after.0) m.3, a.after.1)) is
line_so c words (line.Asked asked) is = ⊎_elim (λ by. inl (asks_so c.options words by.0 asked by.1))
    (λ (a : IsAfterOptions c words (line.Asked asked)).
    let m = means_so c.options words a.rest a.parsed a.read in inr (a.after.1, a.parsed.items, (m.0, a.rest, m.1, m.2, m.3, a.after.0))) is
line_so c words (line.Refused r) is = ⊎_elim (λ by. let own = refused_so c.options words by.0 r by.1 in (own.0, own.1, inl own.2))
    (λ (a : IsAfterOptions c words (line.Refused r)).
    let m = means_so c.options words a.rest a.parsed a.read in
    (a.after.program, a.after.help, inr (by_words c.options c.commands.now words r r.mistake m.0 a.rest m.1 m.2 (subst (λ x. AreReadAs (options_of c.options) m.0 x) (sym a.after.before) m.3) a.after.told))) is

pub line_tells : {C F V M S : Type 0} (c : Commands C F V M S) (o : Options F V Infallible M S) (commands : List (Command C)) (words : List (List ℕ)) (it : CommandLine C F V M S)
    → c.options ≡ o → c.commands.now ≡ commands → IsLineRead c words it → LineTells o commands words it
line_tells c o commands words it same own is = subst (λ x. LineTells x commands words it) same (subst (λ cs. LineTells c.options cs words it) own (line_so c words it is))

-- ---- the line of words that are given

asked_so : {C F V M S : Type 0} (asked : spec.Asked) (it : CommandLine C F V M S) → IsLineAsking asked it → IsAskedFor asked it
asked_so {C = C} {F = F} {V = V} {M = M} {S = S} asked (line.Asked asks.Help) is = subst (λ a. IsAskedFor {C = C} {F = F} {V = V} {M = M} {S = S} a (line.Asked asks.Help)) is tt
asked_so {C = C} {F = F} {V = V} {M = M} {S = S} asked (line.Asked asks.BriefHelp) is = subst (λ a. IsAskedFor {C = C} {F = F} {V = V} {M = M} {S = S} a (line.Asked asks.BriefHelp)) is tt
asked_so {C = C} {F = F} {V = V} {M = M} {S = S} asked (line.Asked (asks.Version own)) is = subst (λ a. IsAskedFor {C = C} {F = F} {V = V} {M = M} {S = S} a (line.Asked (asks.Version own))) is refl
asked_so asked (line.Command parsed name key own) is = absurd is
asked_so asked (line.Refused r) is = absurd is

pub asked_line : {C F V M S : Type 0} (c : Commands C F V M S) (o : Options F V Infallible M S) (l : List legal.Parsed) (rest : List (List ℕ)) (asked : spec.Asked) (it : CommandLine C F V M S)
    → c.options ≡ o → first_asked (declaration_of o).options l ≡ Some asked → IsLineOf c l rest it → IsAskedFor asked it
asked_line c o l rest asked it same is of = asked_so asked it (of.asks asked (subst (λ x. first_asked (declaration_of x).options l ≡ Some asked) (sym same) is))

named_so : {C F V M S : Type 0} (c : Commands C F V M S) (l : List legal.Parsed) (name : List ℕ) (key : C) (words : List (List ℕ)) (it : CommandLine C F V M S) → IsCommandLine c l name key words it → IsNamed (options_of c.options) l name key words it
named_so c l name key words (line.Command parsed told own rest) is = is
named_so c l name key words (line.Asked asked) is = is
named_so c l name key words (line.Refused r) is = is

pub named_line : {C F V M S : Type 0} (c : Commands C F V M S) (o : Options F V Infallible M S) (l : List legal.Parsed) (name : List ℕ) (key : C) (words : List (List ℕ)) (it : CommandLine C F V M S)
    → c.options ≡ o → IsCommandLine c l name key words it → IsNamed (options_of o) l name key words it
named_line c o l name key words it same is = subst (λ x. IsNamed (options_of x) l name key words it) same (named_so c l name key words it is)

-- the same list under the same options
pub none_of : {F V M S : Type 0} (o own : Options F V Infallible M S) (l : List legal.Parsed) → o ≡ own → first_asked (declaration_of own).options l ≡ None → first_asked (declaration_of o).options l ≡ None
none_of o own l same none = subst (λ x. first_asked (declaration_of x).options l ≡ None) (sym same) none

-- ---- what is to be done

text_so : {C F V M S : Type 0} (c : Commands C F V M S) (asked : Asked) (width : ℕ) (text : List ℕ) → IsAskedText c (asked_view asked) width text → TextTells c.options c.commands.now asked width text
text_so c asks.Help width text is = is
text_so c asks.BriefHelp width text is = is
text_so c (asks.Version own) width text is = is

step_so : {C F V M S : Type 0} (c : Commands C F V M S) (before : List (Parsed F V Infallible M S)) (words : List (List ℕ)) (width : ℕ) (it : Step C F V M S) → IsStep c before words width it → StepTells c.options c.commands.now before words width it
step_so c before words width (step.Command key path call) is = (is.parsed, is.name, is.own, line_so c words (line.Command is.parsed is.name key is.own) is.read, is.by_path, is.general, is.line)
step_so c before words width (step.Text text) is = (is.0, line_so c words (line.Asked is.0) is.1, text_so c is.0 width (string_bytes text) is.2)
step_so c before words width (step.Refused r) is = line_so c words (line.Refused r) is

unknown_so : {C F V M S : Type 0} (c : Commands C F V M S) (r : Refused F V Infallible M S)
    → IsUnknownRequest c.options r → (r.program.now ≡ (declaration_of c.options).program) × (r.help ≡ help_names (options_of c.options)) × (r.before.items ≡ []) × IsVariable (declaration_of c.options).program r.mistake
unknown_so c r is = (is.program, is.help, is.before, subst (IsVariable (declaration_of c.options).program) (sym is.mistake) is.variable)

request_so : {C F V M S : Type 0} (c : Commands C F V M S) (before : List (Parsed F V Infallible M S)) (asked : Request) (width : ℕ) (it : Step C F V M S)
    → IsRequestStep c before asked width it → RequestTells c.options c.commands.now before asked width it
request_so c before (request.Line words) width it is = step_so c before words.items width it is
request_so c before (request.Completion words typed) width (step.Command key path call) is = ⊎_elim
    (λ (after : IsPlacedAfter c words.items typed (step.Command key path call)). without_options (place c.commands.now (after.word ∷ after.more)) after.placed)
    (λ (un : IsUnplaced c words.items typed (step.Command key path call)). absurd un.printed)
    is
  where
    without_options : (at : Place _) → IsPlaced c typed at (step.Command key path call) → call.general.items ≡ []
    without_options (in_command name own rest) placed = placed.2.general
    without_options at_help placed = absurd placed
    without_options nowhere placed = absurd placed
request_so c before (request.Completion words typed) width (step.Text text) is = tt
request_so c before (request.Completion words typed) width (step.Refused r) is = tt
request_so c before (request.Script shell) width (step.Command key path call) is = is
request_so c before (request.Script shell) width (step.Text text) is = is
request_so c before (request.Script shell) width (step.Refused r) is = is
request_so c before request.Unknown width (step.Command key path call) is = is
request_so c before request.Unknown width (step.Text text) is = is
request_so c before request.Unknown width (step.Refused r) is = unknown_so c r is

pub request_tells : {C F V M S : Type 0} (c : Commands C F V M S) (o : Options F V Infallible M S) (commands : List (Command C)) (before : List (Parsed F V Infallible M S)) (asked : Request) (width : ℕ) (it : Step C F V M S)
    → c.options ≡ o → c.commands.now ≡ commands → IsRequestStep c before asked width it → RequestTells o commands before asked width it
request_tells c o commands before asked width it same own is = subst (λ x. RequestTells x commands before asked width it) same (subst (λ cs. RequestTells c.options cs before asked width it) own (request_so c before asked width it is))
