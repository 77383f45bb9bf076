-- The clauses of `complete` and `answer`, for the tool.
use Rattle.std.proofs.Common.{◌≡◌, ℕ, List, [], ◌∷◌, ◌++◌, Some, None, subst, sym, ap, ◌∙◌, refl, map, option_map, Option, slice_get, string_bytes, codes, inl, inr, ⊎_elim, Bool, false, true, not, suc, ◌||◌}
use Rattle.std.specs.Prelude.{String, if◌then◌else◌, unwrap_or}
use Rattle.std.specs.Global.{Global}
use Rattle.std.specs.List.{flat_map, list_any}
use Rattle.std.specs.Option.{is_some}
use Rattle.std.proofs.Math.Path.{fun_ext}
use Rattle.std.proofs.lemmas.Option.{slice_get-map}
use Rattle.lexopt_line_spec.proofs.Computing.{computing}
use Rattle.lexopt_options_spec.specs.Declaration.{Declaration, for_brief_help, for_help, for_version}
use Rattle.lexopt_options_spec.specs.Completion as completion
use Rattle.lexopt_options_spec.specs.Completion.{AreOwnersIn, HasRole, IsJoined, is_free, offered_values, spelled_by, spellings, spellings_if}
use Rattle.lexopt_options_spec.specs.Declaration as declared
use Rattle.lexopt_options_spec.specs.Legal.{exclude}
use Rattle.lexopt_options_spec.proofs.Apart.{none_exclude}
use Rattle.lexopt_declaration.specs.Scripts.{request_text, shell_script, variable_name}
use Rattle.lexopt_declaration.specs.declared.shell.Shell.{Shell}
use Rattle.lexopt_declaration.specs.declared.shell.ShellRequest.TheVariants as asks
use Rattle.lexopt_declaration.specs.declared.spellings.Spelling.{Spelling}
use Rattle.lexopt_declaration.specs.Models.{option_view, positional_view, spelling_view, words_view}
use Rattle.lexopt_declaration.specs.declared.declaration.Declared.{Declared}
use Rattle.lexopt_declaration.specs.declared.declaration.Positional.{Positional}
use Rattle.lexopt_declaration.specs.declared.declaration.Words.{Words}
use Rattle.lexopt_declaration.specs.declared.declaration.Words.TheVariants as words
use Rattle.lexopt_declaration.specs.declared.shell.Shell.TheVariants.{Bash, Zsh, Fish}
use Rattle.lexopt_options.specs.declared.answer.Answer.{Answer}
use Rattle.lexopt_options.specs.declared.answer.Answer.TheVariants as answer
use Rattle.lexopt_options.specs.declared.complete.Completion.{Completion}
use Rattle.lexopt_options.specs.declared.complete.Joined.{Joined}
use Rattle.lexopt_options.specs.declared.complete.Role.{Role}
use Rattle.lexopt_options.specs.declared.complete.Role.TheVariants as role
use Rattle.lexopt_options.specs.declared.options.Options.{Options}
use Rattle.lexopt_options.specs.Answers.{AskForText, IsAnswer, IsCompletionText, IsRequestAnswer, are_at, are_directories, are_files, arguments_line, joined_line, listed_line, names_line, script_lines, spelling_line, spelling_lines, value_line, word_line}
use Rattle.lexopt_options.specs.Requests.{IsRequest}
use Rattle.lexopt_options.specs.declared.request.Request.{Request}
use Rattle.lexopt_options.specs.declared.request.Request.TheVariants as request
use Rattle.lexopt_options.specs.Completions.{AreOffered, IsCompletion}
use Rattle.lexopt_options.specs.Declarations.{declaration_of, options_of, positionals_of}
use Rattle.lexopt_options.specs.Roles.{IsJoinedAt, IsRoleAt}
use Rattle.test_option_callers.specs.declared.declared.Flag.{Flag}
use Rattle.test_option_callers.specs.declared.declared.Value.{Value}
use Rattle.test_option_callers.specs.declared.declared.Maybe.{Maybe}
use Rattle.test_option_callers.specs.declared.declared.Values.{Values}
use Rattle.test_option_callers.specs.declared.declared.Word.{Word}
use Rattle.test_option_callers.specs.Tool as by
use Rattle.test_option_callers.specs.Tool.{AreInOrder, AsksToComplete, IsAsked, IsAskedFor, IsOffer, IsSameJoined, IsSameRole, ToolAnswer, ToolRequest, by_directories, by_files, line_after, line_at, line_at_after, line_of, owners_line, plus_line, role_line, source_of, spelled_line, spelled_lines, tool, tool_options, tool_positionals, tool_script}
use Rattle.test_option_callers.proofs.Tool.{AreOfTool, refused_as, means}

pub same_role : (options : List (Declared Flag Value Maybe Values)) (r : Option completion.Role) (found : Option (Role Flag Value Maybe Values)) → IsRoleAt options r found → IsSameRole r found
same_role options None None is = is
same_role options None (Some r) is = is
same_role options (Some (completion.value i)) None is = is
same_role options (Some (completion.argument before)) None is = is
same_role options (Some (completion.value i)) (Some (role.Value option)) is = tt
same_role options (Some (completion.value i)) (Some role.Argument) is = is
same_role options (Some (completion.argument before)) (Some role.Argument) is = is
same_role options (Some (completion.argument before)) (Some (role.Value option)) is = is

pub same_joined : (options : List (Declared Flag Value Maybe Values)) (j : Option completion.Joined) (found : Option (Joined Flag Value Maybe Values)) → IsJoinedAt options j found → IsSameJoined j found
same_joined options None None is = is
same_joined options None (Some f) is = is
same_joined options (Some j) None is = is
same_joined options (Some j) (Some f) is = is.1

-- no option of the tool excludes another
none_excluded : (options : List declared.Declared) (indices : List ℕ) (i : ℕ) → list_any (λ o. is_some o.exclusive) options ≡ false → is_free options indices i ≡ true
none_excluded options [] i none = refl
none_excluded options (k ∷ indices) i none = ap (λ (b : Bool). not (b || list_any (λ j. exclude options j i) indices)) (none_exclude options none k i) ∙ none_excluded options indices i none

all_pass : (passes : ℕ → Bool) (os : List declared.Declared) → ((i : ℕ) → passes i ≡ true) → spellings_if passes os ≡ spellings os
all_pass passes [] all = refl
all_pass passes (o ∷ os) all =
    ap (λ (b : Bool). (if b then spelled_by o else []) ++ spellings_if (λ i. passes (suc i)) os) (all 0) ∙ ap (λ l. spelled_by o ++ l) (all_pass (λ i. passes (suc i)) os (λ i. all (suc i)))

pub in_order : (words : List (List ℕ)) (typed : List ℕ) (offered : List (List ℕ × List ℕ)) → AreOffered tool words typed offered → AreInOrder typed offered
unfolding computing
in_order words typed offered are = ⊎_elim
    (λ some. inl (some.1 ∙ ap (completion.offered typed) (all_pass (is_free tool_options some.0) tool_options (λ i. none_excluded tool_options some.0 i refl))))
    (λ none. inr none) are.in_order

-- ---- the text of a completion

spelled : (typed : List ℕ) (items : List Spelling) → spelling_lines typed items ≡ spelled_lines typed (map spelling_view items)
spelled [] items = refl
spelled (b ∷ bs) items = all items
  where
    all : (items : List Spelling) → flat_map (λ s. spelling_line (spelling_view s)) items ≡ flat_map spelled_line (map spelling_view items)
    all [] = refl
    all (s ∷ ss) = ap (λ rest. spelling_line (spelling_view s) ++ rest) (all ss)

value_lines : (v : List ℕ) → listed_line v ≡ plus_line v
value_lines [] = refl
value_lines (b ∷ bs) = refl

listed_values : (items : List (String Global)) → flat_map (λ s. listed_line (string_bytes s)) items ≡ flat_map plus_line (map string_bytes items)
listed_values [] = refl
listed_values (s ∷ ss) = ap (λ x. x ++ flat_map (λ s. listed_line (string_bytes s)) ss) (value_lines (string_bytes s)) ∙ ap (λ rest. plus_line (string_bytes s) ++ rest) (listed_values ss)

-- the option of an index, as the tool declares it
at_tool : (options : List (Declared Flag Value Maybe Values)) (i : ℕ) (o : Declared Flag Value Maybe Values) → map option_view options ≡ tool_options → slice_get options i ≡ Some o
    → slice_get tool_options i ≡ Some (option_view o)
at_tool options i o view at = ap (λ os. slice_get os i) (sym view) ∙ slice_get-map option_view options i ∙ ap (option_map option_view) at

names : (w : Words) → names_line w ≡ line_of (words_view w)
names words.Files = refl
names words.Directories = refl
names words.Text = refl
names (words.Listed values) = refl

value_names : (w : Words) (before : List ℕ) → value_line w before ≡ line_after before (words_view w)
value_names words.Files before = refl
value_names words.Directories before = refl
value_names words.Text before = refl
value_names (words.Listed values) before = refl

same_files : (w : Words) → are_files w ≡ by.are_files (words_view w)
same_files words.Files = refl
same_files words.Directories = refl
same_files words.Text = refl
same_files (words.Listed values) = refl

same_directories : (w : Words) → are_directories w ≡ by.are_directories (words_view w)
same_directories words.Files = refl
same_directories words.Directories = refl
same_directories words.Text = refl
same_directories (words.Listed values) = refl

-- the positional of an index, as the tool declares it
positional_at : (ps : List (Positional Word)) (i : ℕ) → map positional_view ps ≡ tool_positionals → option_map positional_view (slice_get ps i) ≡ slice_get tool_positionals i
positional_at ps i view = sym (slice_get-map positional_view ps i) ∙ ap (λ l. slice_get l i) view

files_of : (p : Option (Positional Word)) → unwrap_or (option_map (λ (own : Positional Word). are_files own.words) p) false ≡ by_files (option_map positional_view p)
files_of None = refl
files_of (Some p) = same_files p.words

directories_of : (p : Option (Positional Word)) → unwrap_or (option_map (λ (own : Positional Word). are_directories own.words) p) false ≡ by_directories (option_map positional_view p)
directories_of None = refl
directories_of (Some p) = same_directories p.words

files_at : (ps : List (Positional Word)) → map positional_view ps ≡ tool_positionals → (i : ℕ) → are_at are_files ps i ≡ by_files (slice_get tool_positionals i)
files_at ps view i = files_of (slice_get ps i) ∙ ap by_files (positional_at ps i view)

directories_at : (ps : List (Positional Word)) → map positional_view ps ≡ tool_positionals → (i : ℕ) → are_at are_directories ps i ≡ by_directories (slice_get tool_positionals i)
directories_at ps view i = directories_of (slice_get ps i) ∙ ap by_directories (positional_at ps i view)

owners_text : (ps : List (Positional Word)) (owners : List ℕ) → map positional_view ps ≡ tool_positionals → arguments_line ps owners ≡ owners_line owners
owners_text ps owners view =
    ap (λ (t : ℕ → Bool). if list_any t owners then codes "files\n" else (if list_any (λ i. are_at are_directories ps i) owners then codes "directories\n" else [])) (fun_ext (files_at ps view))
    ∙ ap (λ (t : ℕ → Bool). if list_any (λ i. by_files (slice_get tool_positionals i)) owners then codes "files\n" else (if list_any t owners then codes "directories\n" else [])) (fun_ext (directories_at ps view))

role_text : (options : List (Declared Flag Value Maybe Values)) (ps : List (Positional Word)) (r : Option completion.Role) (found : Option (Role Flag Value Maybe Values)) (owners : List ℕ)
    → map option_view options ≡ tool_options → map positional_view ps ≡ tool_positionals → IsRoleAt options r found → word_line ps found owners ≡ role_line r owners
role_text options ps None None owners view own is = refl
role_text options ps None (Some r) owners view own is = absurd is
role_text options ps (Some (completion.value i)) None owners view own is = absurd is
role_text options ps (Some (completion.argument before)) None owners view own is = absurd is
role_text options ps (Some (completion.value i)) (Some (role.Value option)) owners view own is = names option.now.words ∙ ap line_at (sym (at_tool options i option.now view is))
role_text options ps (Some (completion.value i)) (Some role.Argument) owners view own is = absurd is
role_text options ps (Some (completion.argument before)) (Some role.Argument) owners view own is = owners_text ps owners own
role_text options ps (Some (completion.argument before)) (Some (role.Value option)) owners view own is = absurd is

joined_text : (options : List (Declared Flag Value Maybe Values)) (j : Option completion.Joined) (found : Option (Joined Flag Value Maybe Values)) → map option_view options ≡ tool_options → IsJoinedAt options j found
    → joined_line found ≡ by.joined_line j
joined_text options None None view is = refl
joined_text options None (Some f) view is = absurd is
joined_text options (Some j) None view is = absurd is
joined_text options (Some j) (Some f) view is =
    value_names f.option.now.words (string_bytes f.before) ∙ ap (λ b. line_after b (words_view f.option.now.words)) (sym is.1)
    ∙ ap (line_at_after j.before) (sym (at_tool options j.index f.option.now view is.0))

pub offer : (o : Options Flag Value Word Maybe Values) (words : List (List ℕ)) (typed text : List ℕ) → declaration_of o ≡ tool → IsCompletionText o words typed text → IsOffer words typed text
offer o words typed text view is =
    let c : Completion Flag Value Maybe Values = is.0 in
    let done : IsCompletion o words typed c = is.1 in
    let offered : AreOffered tool words typed (map spelling_view c.spellings.items) = subst (λ (d : Declaration). AreOffered d words typed (map spelling_view c.spellings.items)) view done.spellings in
    let options : map option_view (options_of o) ≡ tool_options = ap (λ d. d.options) view in
    let positionals : map positional_view (positionals_of o) ≡ tool_positionals = ap (λ d. d.positionals) view in
    let owners : List ℕ = c.arguments.items in
    let j : Option completion.Joined = done.with_value in
    let values : map string_bytes c.values.items ≡ offered_values tool typed done.role owners j =
    subst (λ (d : Declaration). map string_bytes c.values.items ≡ offered_values d typed done.role owners j) view done.values
    in
    record {
      offered = map spelling_view c.spellings.items;
      sound = offered.sound;
      complete = offered.complete;
      in_order = in_order words typed (map spelling_view c.spellings.items) offered;
      role = done.role;
      word = subst (λ (d : Declaration). HasRole d words typed done.role) view done.has_role;
      owners = owners;
      arguments = subst (λ (d : Declaration). AreOwnersIn d.positionals done.role owners) view done.arguments;
      with_value = j;
      joined = subst (λ (d : Declaration). IsJoined d words typed j) view done.is_joined;
      written = is.2 ∙ ap (λ x. x ++ listed c ++ word_line (positionals_of o) c.word owners ++ joined_line c.joined) (spelled typed c.spellings.items)
          ∙ ap (λ x. spellings_of c ++ x ++ word_line (positionals_of o) c.word owners ++ joined_line c.joined) (listed_values c.values.items ∙ ap (flat_map plus_line) values)
          ∙ ap (λ x. spellings_of c ++ flat_map plus_line (offered_values tool typed done.role owners j) ++ x ++ joined_line c.joined)
          (role_text (options_of o) (positionals_of o) done.role c.word owners options positionals done.word)
          ∙ ap (λ x. spellings_of c ++ flat_map plus_line (offered_values tool typed done.role owners j) ++ role_line done.role owners ++ x) (joined_text (options_of o) j c.joined options done.joined);
    }
  where
    listed : Completion Flag Value Maybe Values → List ℕ
    listed c = flat_map (λ s. listed_line (string_bytes s)) c.values.items

    spellings_of : Completion Flag Value Maybe Values → List ℕ
    spellings_of c = spelled_lines typed (map spelling_view c.spellings.items)

asked_for : (words : List (List ℕ)) (width : ℕ) (text : List ℕ) → AskForText tool words width text → IsAskedFor words width text
asked_for words width text (for_help, asks, is) = inl (asks, is)
asked_for words width text (for_brief_help, asks, is) = inr (inl (asks, is))
asked_for words width text (for_version version, asks, is) = inr (inr (version, asks, is))

pub answered : (o : Options Flag Value Word Maybe Values) (words : List (List ℕ)) (width : ℕ) (a : Answer Flag Value Word Maybe Values) → AreOfTool o → IsAnswer o words width a
    → ToolAnswer words width a
answered o words width (answer.Parsed own) its is = means o words own.items its is
answered o words width (answer.Text text) its is =
    asked_for words width (string_bytes text) (subst (λ (d : Declaration). AskForText d words width (string_bytes text)) its.view is)
answered o words width (answer.Refused refused) its is = refused_as o words refused its is

script : (o : Options Flag Value Word Maybe Values) (shell : Shell) (text : List ℕ) → declaration_of o ≡ tool → text ≡ script_lines o shell → text ≡ tool_script shell
script o shell text view is = is ∙ ap (λ (d : Declaration). shell_script shell d.program (variable_name d.program) ++ 10 ∷ []) view

pub requested : (o : Options Flag Value Word Maybe Values) (r : Request) (width : ℕ) (a : Answer Flag Value Word Maybe Values) → AreOfTool o → IsRequestAnswer o r width a → ToolRequest r width a
requested o (request.Line words) width a its is = answered o words.items width a its is
requested o (request.Completion before typed) width (answer.Parsed own) its is = is
requested o (request.Completion before typed) width (answer.Text text) its is = offer o before.items typed (string_bytes text) its.view is
requested o (request.Completion before typed) width (answer.Refused refused) its is = is
requested o (request.Script shell) width (answer.Parsed own) its is = is
requested o (request.Script shell) width (answer.Text text) its is = script o shell (string_bytes text) its.view is
requested o (request.Script shell) width (answer.Refused refused) its is = is
requested o request.Unknown width (answer.Parsed own) its is = is
requested o request.Unknown width (answer.Text text) its is = is
requested o request.Unknown width (answer.Refused refused) its is =
    (is.program ∙ ap (λ (d : Declaration). d.program) its.view, is.before, (is.name, is.variable ∙ ap (λ (d : Declaration). variable_name d.program) its.view, is.mistake))

-- the request that a value of the variable makes
completes_by : (shell : Shell) → AsksToComplete (request_text (asks.Completion shell))
completes_by Bash = inl refl
completes_by Zsh = inr (inl refl)
completes_by Fish = inr (inr refl)

sources : (shell : Shell) → request_text (asks.Script shell) ≡ source_of shell
sources Bash = refl
sources Zsh = refl
sources Fish = refl

pub asked_so : (value : Option (List ℕ)) (words : List (List ℕ)) (r : Request) → IsRequest value words r → IsAsked value words r
asked_so value words (request.Line own) is = is
asked_so value words (request.Completion before typed) is = ((request_text (asks.Completion is.0.0), is.0.1, completes_by is.0.0), is.1)
asked_so value words (request.Script shell) is = is ∙ ap (λ t. Some t) (sources shell)
asked_so value words request.Unknown is = (
  is.0,
  is.1,
  is.2,
  (λ shell same. is.3 (asks.Script shell) (same ∙ sym (sources shell))),
  (λ asked. ⊎_elim (λ a. is.3 (asks.Completion Bash) a) (λ more. ⊎_elim (λ a. is.3 (asks.Completion Zsh) a) (λ a. is.3 (asks.Completion Fish) a) more) asked),
)
