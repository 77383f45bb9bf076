-- The clauses of `read`, for the tool.
use Rattle.std.proofs.Common.{◌≡◌, ℕ, List, [], ◌∷◌, Some, None, length, map, refl, sym, subst, ap, ◌∙◌}
use Rattle.std.specs.Prelude.{slice_get}
use Rattle.std.specs.List.{AllZip}
use Rattle.std.proofs.lemmas.Option.{slice_get-map}
use Rattle.lexopt_options_spec.specs.Declaration.{Declaration, Declared as SpecDeclared, for_brief_help, for_help, for_version}
use Rattle.lexopt_options_spec.specs.Asking.{AskFor, first_asked, parsed_before}
use Rattle.lexopt_options.specs.RestLines.{IsRestOf}
use Rattle.lexopt_options_spec.specs.Legal as legal
use Rattle.lexopt_options_spec.specs.Legal.{Means, with_defaults}
use Rattle.lexopt_options_spec.proofs.Defaults.{no_defaults}
use Rattle.lexopt_options_spec.specs.Places.{ArePlaces}
use Rattle.lexopt_options_spec.specs.Stops as stops
use Rattle.lexopt_options_spec.specs.Stops.{StopsAt}
use Rattle.lexopt_options.specs.Declarations.{declaration_of, options_of, positionals_of}
use Rattle.lexopt_options.specs.Keys.{IsParsedAs, AreParsedAs, AreReadAs, HasKey, HaveKeys, positional_keys}
use Rattle.lexopt_options.specs.Lines.{IsLineOf, IsLineRead, IsRefused, LineMeans}
use Rattle.lexopt_options.specs.Mistakes.{IsMistake}
use Rattle.lexopt_options.specs.declared.mistake.Mistake.{Mistake}
use Rattle.lexopt_options.specs.declared.mistake.Mistake.TheVariants as mistake
use Rattle.lexopt_options.specs.declared.mistake.OptionName.TheVariants as name
use Rattle.lexopt_options.specs.declared.options.Options.{Options}
use Rattle.lexopt_options.specs.declared.refused.Line.{Line}
use Rattle.lexopt_options.specs.declared.refused.Line.TheVariants as line
use Rattle.lexopt_options.specs.declared.refused.Refused.{Refused}
use Rattle.lexopt_options.specs.declared.parsed.Asked.TheVariants as asked
use Rattle.lexopt_options.specs.declared.parsed.Parsed.{Parsed}
use Rattle.lexopt_options.specs.declared.parsed.Parsed.TheVariants as parsed
use Rattle.lexopt_declaration.specs.Models.{long_name, short_name}
use Rattle.lexopt_declaration.specs.declared.declaration.Declared.{Declared}
use Rattle.lexopt_declaration.specs.declared.declaration.Names.{Names}
use Rattle.lexopt_declaration.specs.declared.declaration.Names.TheVariants as names
use Rattle.lexopt_declaration.specs.declared.declaration.Positional.{Positional}
use Rattle.test_option_callers.specs.declared.declared.Flag.{Flag}
use Rattle.test_option_callers.specs.declared.declared.Value.{Value}
use Rattle.test_option_callers.specs.declared.declared.Maybe.{Maybe}
use Rattle.test_option_callers.specs.declared.declared.Values.{Values}
use Rattle.test_option_callers.specs.declared.declared.Word.{Word}
use Rattle.test_option_callers.specs.Tool.{RestTells, AreKeyed, AreTold, HasNames, IsByKey, LineTells, Stopped, StoppedBy, ToolLine, ToolRefused, ToolMeans, read_keys, tool, tool_options, word_keys}

told : (options : List (Declared Flag Value Maybe Values)) (s : legal.Parsed) (own : Parsed Flag Value Word Maybe Values) → IsParsedAs options s own → IsByKey s own
told options s (parsed.Flag key) is = (is.0, is.1)
told options s (parsed.Value key word) is = (is.0, is.2)
told options s (parsed.Maybe key value) is = (is.0, is.2)
told options s (parsed.Values key values) is = (is.0, is.2)
told options s (parsed.Positional key word) is = is

are_told : (options : List (Declared Flag Value Maybe Values)) (l : List legal.Parsed) (own : List (Parsed Flag Value Word Maybe Values)) → AreParsedAs options l own → AreTold l own
are_told options [] [] all = tt
are_told options [] (o ∷ os) all = absurd all
are_told options (s ∷ l) [] all = absurd all
are_told options (s ∷ l) (o ∷ os) all = (told options s o all.0, are_told options l os all.1)

-- ---- the keys of positionals

-- the options are those of the tool
pub record AreOfTool (o : Options Flag Value Word Maybe Values) : Type 0 where
  pub view : declaration_of o ≡ tool
  pub keys : map (λ (p : Positional Word). p.key) (positionals_of o) ≡ word_keys

-- no option of the tool has a default
read_told : (o : Options Flag Value Word Maybe Values) (l : List legal.Parsed) (own : List (Parsed Flag Value Word Maybe Values)) → AreOfTool o → AreReadAs (options_of o) l own → AreTold l own
read_told o l own its are =
    subst (λ m. AreTold m own) (no_defaults tool_options l refl)
    (subst (λ (d : Declaration). AreTold (with_defaults d.options l) own) its.view (are_told (options_of o) (with_defaults (declaration_of o).options l) own are))

same_keys : (own : List (Parsed Flag Value Word Maybe Values)) → positional_keys own ≡ read_keys own
same_keys [] = refl
same_keys (parsed.Flag key ∷ own) = same_keys own
same_keys (parsed.Value key word ∷ own) = same_keys own
same_keys (parsed.Maybe key value ∷ own) = same_keys own
same_keys (parsed.Values key values ∷ own) = same_keys own
same_keys (parsed.Positional key word ∷ own) = ap (λ (keys : List Word). key ∷ keys) (same_keys own)

each_key : (ps : List (Positional Word)) (places : List ℕ) (keys : List Word) → map (λ (p : Positional Word). p.key) ps ≡ word_keys
    → AllZip (HasKey ps) places keys → AllZip (λ (i : ℕ) (key : Word). slice_get word_keys i ≡ Some key) places keys
each_key ps [] [] own all = tt
each_key ps [] (key ∷ keys) own all = absurd all
each_key ps (i ∷ places) [] own all = absurd all
each_key ps (i ∷ places) (key ∷ keys) own all =
    (ap (λ (l : List Word). slice_get l i) (sym own) ∙ slice_get-map (λ (p : Positional Word). p.key) ps i ∙ all.0, each_key ps places keys own all.1)

keyed : (o : Options Flag Value Word Maybe Values) (own : List (Parsed Flag Value Word Maybe Values)) → AreOfTool o → HaveKeys (positionals_of o) own → AreKeyed own
keyed o own its have = (
  have.places,
  subst (λ (keys : List Word). ArePlaces tool.positionals (length keys) have.places) (same_keys own)
      (subst (λ (d : Declaration). ArePlaces d.positionals (length (positional_keys own)) have.places) its.view have.are_places),
  subst (λ (keys : List Word). AllZip (λ (i : ℕ) (key : Word). slice_get word_keys i ≡ Some key) have.places keys) (same_keys own)
      (each_key (positionals_of o) have.places (positional_keys own) its.keys have.have),
)

-- ---- a line

names_are : (d : SpecDeclared) (n : Names) → d.short_name ≡ short_name n → d.long_name ≡ long_name n → HasNames d n
names_are d (names.Short c) short long = (short, long)
names_are d (names.Long own) short long = (short, long)
names_are d (names.Both c own) short long = (short, long)

stopped_by : (S : stops.Mistake → Type 0) (m : Mistake) (why : stops.Mistake) → IsMistake tool m why → S why → StoppedBy S m
stopped_by S (mistake.UnknownOption (name.Short c) hints) why is stopped = (is.0, subst S is.1 stopped, is.2)
stopped_by S (mistake.UnknownOption (name.Long own) hints) why is stopped = (is.0, subst S is.1 stopped, is.2)
stopped_by S (mistake.UnexpectedValue option value) why is stopped = subst S is stopped
stopped_by S (mistake.MissingValue option placeholder) why is stopped = (is.0, subst S is.1 stopped, is.2)
stopped_by S (mistake.InvalidValue own value values) why (index, same, (d, here, short, long), are) stopped =
    (index, subst S same stopped, (d, here, names_are d own short long), are)
stopped_by S (mistake.UnexpectedArgument word) why is stopped = subst S is stopped
stopped_by S (mistake.InvalidArgument placeholder word values) why (index, same, (p, here, placed, are)) stopped =
    (index, subst S same stopped, p, here, placed, are)
stopped_by S (mistake.MissingArgument placeholder) why is stopped = (is.0, subst S is.1 stopped, is.2)
stopped_by S (mistake.MissingOption own) why (index, same, (d, here, short, long)) stopped =
    (index, subst S same stopped, d, here, names_are d own short long)
stopped_by S (mistake.Exclusive own others) why (index, other, same, (d, here, short, long), (e, there, character, name)) stopped =
    (index, other, subst S same stopped, (d, here, names_are d own short long), (e, there, names_are e others character name))
stopped_by S (mistake.MissingCommand names) why is stopped = absurd is
stopped_by S (mistake.UnknownCommand word rest hints) why is stopped = absurd is
stopped_by S (mistake.InvalidVariable own) why is stopped = absurd is

pub refused_as : (o : Options Flag Value Word Maybe Values) (words : List (List ℕ)) (r : Refused Flag Value Word Maybe Values) → AreOfTool o → IsRefused o words r → ToolRefused words r
refused_as o words r its is =
    let before : AreTold (parsed_before is.why is.read) r.before.items = are_told (options_of o) _ _ is.before in
    let own : first_asked tool_options (parsed_before is.why is.read) ≡ None = subst (λ (d : Declaration). first_asked d.options (parsed_before is.why is.read) ≡ None) its.view is.own in
    let stops : StopsAt tool words is.read is.why = subst (λ (d : Declaration). StopsAt d words is.read is.why) its.view is.stops in (
      is.program ∙ ap (λ (d : Declaration). d.program) its.view,
      stopped_by (Stopped words r.before.items) r.mistake is.why (subst (λ (d : Declaration). IsMistake d r.mistake is.why) its.view is.told) (is.read, stops, own, before, keyed o r.before.items its is.keys),
    )

pub means : (o : Options Flag Value Word Maybe Values) (words : List (List ℕ)) (own : List (Parsed Flag Value Word Maybe Values)) → AreOfTool o → LineMeans o words own → ToolMeans words own
means o words own its is =
    (is.0, subst (λ (d : Declaration). Means d words is.0) its.view is.1, subst (λ (d : Declaration). first_asked d.options is.0 ≡ None) its.view is.2, read_told o is.0 own its is.3, keyed o own its is.4)

pub line_is : (o : Options Flag Value Word Maybe Values) (words : List (List ℕ)) (l : Line Flag Value Word Maybe Values) → AreOfTool o → IsLineRead o words l → ToolLine words l
line_is o words (line.Parsed own) its is = means o words own.items its is
line_is o words (line.Asked asked.Help) its is = subst (λ (d : Declaration). AskFor d words for_help) its.view is
line_is o words (line.Asked asked.BriefHelp) its is = subst (λ (d : Declaration). AskFor d words for_brief_help) its.view is
line_is o words (line.Asked (asked.Version text)) its is = subst (λ (d : Declaration). AskFor d words (for_version text.now)) its.view is
line_is o words (line.Refused r) its is = refused_as o words r its is

pub line_tells : (o : Options Flag Value Word Maybe Values) (l : List legal.Parsed) (line : Line Flag Value Word Maybe Values) → AreOfTool o → IsLineOf o l line → LineTells l line
line_tells o l (line.Parsed own) its is = (subst (λ (d : Declaration). first_asked d.options l ≡ None) its.view is.0, read_told o l own.items its is.1, keyed o own.items its is.2)
line_tells o l (line.Asked asked.Help) its is = subst (λ (d : Declaration). first_asked d.options l ≡ Some for_help) its.view is
line_tells o l (line.Asked asked.BriefHelp) its is = subst (λ (d : Declaration). first_asked d.options l ≡ Some for_brief_help) its.view is
line_tells o l (line.Asked (asked.Version text)) its is = subst (λ (d : Declaration). first_asked d.options l ≡ Some (for_version text.now)) its.view is
line_tells o l (line.Refused r) its is = is

-- ---- a line with a rest

pub rest_tells : (o : Options Flag Value Word Maybe Values) (l : List legal.Parsed) (rest others : List (List ℕ)) (own : Line Flag Value Word Maybe Values) → AreOfTool o → IsRestOf o l rest others own → RestTells l rest others own
rest_tells o l rest others (line.Parsed own) its is = (line_tells o l (line.Parsed own) its is.0, is.1)
rest_tells o l rest others (line.Asked own) its is = line_tells o l (line.Asked own) its is
rest_tells o l rest others (line.Refused r) its is = absurd is
