-- The option to which a key, a role or the names in an error belong.
use Rattle.std.proofs.Common.{◌≡◌, ◌∙◌, ℕ, Bool, List, [], ◌∷◌, Some, None, Option, Ok, Err, Result, refl, sym, ap, subst, position}
use Rattle.std.specs.Prelude.{option_and_then, option_map, slice_get}
use Rattle.std.proofs.Math.Path.{fun_ext}
use Rattle.std.specs.List.{AllZip}
use Rattle.anyhow.specs.declared.error.Error.{Error as Cause}
use Rattle.lexopt_words.specs.declared.error.Error.{Error}
use Rattle.lexopt_words.specs.declared.error.Error.TheVariants as error
use Rattle.lexopt_options_spec.specs.Completion as completion
use Rattle.lexopt_options_spec.specs.Legal as legal
use Rattle.lexopt_declaration.specs.Lookups.{help_names, is_help, names_at}
use Rattle.lexopt_declaration.specs.declared.declaration.Declared.{Declared}
use Rattle.lexopt_declaration.specs.declared.declaration.Kind.{Kind}
use Rattle.lexopt_declaration.specs.declared.declaration.Kind.TheVariants as kind
use Rattle.lexopt_declaration.specs.declared.declaration.Names.{Names}
use Rattle.lexopt_options.specs.Declarations.{options_of}
use Rattle.lexopt_options.specs.Keys.{AreParsedAs, IsParsedAs}
use Rattle.lexopt_options.specs.Lines.{IsLineRead}
use Rattle.lexopt_options.specs.Roles.{IsJoinedAt, IsRoleAt}
use Rattle.lexopt_options.specs.Usage.{ConvertsFor, is_maybe, is_value, is_values, maybe_names, named, value_names, values_names}
use Rattle.lexopt_options.specs.declared.complete.Joined.{Joined}
use Rattle.lexopt_options.specs.declared.complete.Role.{Role}
use Rattle.lexopt_options.specs.declared.complete.Role.TheVariants as role
use Rattle.lexopt_options.specs.declared.options.Options.{Options}
use Rattle.lexopt_options.specs.declared.refused.Line.{Line}
use Rattle.lexopt_options.specs.declared.refused.Line.TheVariants as line
use Rattle.lexopt_options.specs.declared.parsed.Parsed.{Parsed}
use Rattle.lexopt_options.specs.declared.parsed.Parsed.TheVariants as parsed
use Rattle.lexopt_options.specs.declared.usage.UsageError.{UsageError}
use Rattle.test_option_callers.specs.Keyed.{Converts, HasKey, HaveKeys, IsConverted, IsKnown, IsKnownRole, asks_for_help, first_names, has_maybe, has_value, has_values}

-- ---- the first option of a kind

first : {F V M S : Type 0} (p q : Kind F V M S → Bool) (options : List (Declared F V M S)) → ((k : Kind F V M S) → p k ≡ q k)
    → names_at options (position (λ o. p o.kind) options) ≡ first_names q options
first p q options same = ap (λ (t : Kind _ _ _ _ → Bool). names_at options (position (λ o. t o.kind) options)) (fun_ext same) ∙ at (position (λ o. q o.kind) options)
  where
    at : (place : Option ℕ) → names_at options place ≡ option_and_then (λ i. option_map (λ o. o.names) (slice_get options i)) place
    at None = refl
    at (Some i) = refl

same_help : {F V M S : Type 0} (k : Kind F V M S) → is_help k ≡ asks_for_help k
same_help (kind.Flag key) = refl
same_help (kind.Value key placeholder) = refl
same_help (kind.Maybe key placeholder) = refl
same_help (kind.Values key placeholder) = refl
same_help kind.Help = refl
same_help kind.BriefHelp = refl
same_help (kind.Version text) = refl

same_value : {F V M S : Type 0} (eq : V → V → Bool) (key : V) (k : Kind F V M S) → is_value eq key k ≡ has_value eq key k
same_value eq key (kind.Flag own) = refl
same_value eq key (kind.Value own placeholder) = refl
same_value eq key (kind.Maybe own placeholder) = refl
same_value eq key (kind.Values own placeholder) = refl
same_value eq key kind.Help = refl
same_value eq key kind.BriefHelp = refl
same_value eq key (kind.Version text) = refl

same_maybe : {F V M S : Type 0} (eq : M → M → Bool) (key : M) (k : Kind F V M S) → is_maybe eq key k ≡ has_maybe eq key k
same_maybe eq key (kind.Flag own) = refl
same_maybe eq key (kind.Value own placeholder) = refl
same_maybe eq key (kind.Maybe own placeholder) = refl
same_maybe eq key (kind.Values own placeholder) = refl
same_maybe eq key kind.Help = refl
same_maybe eq key kind.BriefHelp = refl
same_maybe eq key (kind.Version text) = refl

same_values : {F V M S : Type 0} (eq : S → S → Bool) (key : S) (k : Kind F V M S) → is_values eq key k ≡ has_values eq key k
same_values eq key (kind.Flag own) = refl
same_values eq key (kind.Value own placeholder) = refl
same_values eq key (kind.Maybe own placeholder) = refl
same_values eq key (kind.Values own placeholder) = refl
same_values eq key kind.Help = refl
same_values eq key kind.BriefHelp = refl
same_values eq key (kind.Version text) = refl

pub help_first : {F V M S : Type 0} (options : List (Declared F V M S)) → help_names options ≡ first_names asks_for_help options
help_first options = first is_help asks_for_help options same_help

pub value_first : {F V M S : Type 0} (eq : V → V → Bool) (key : V) (options : List (Declared F V M S)) → value_names eq key options ≡ first_names (has_value eq key) options
value_first eq key options = first (is_value eq key) (has_value eq key) options (same_value eq key)

pub maybe_first : {F V M S : Type 0} (eq : M → M → Bool) (key : M) (options : List (Declared F V M S)) → maybe_names eq key options ≡ first_names (has_maybe eq key) options
maybe_first eq key options = first (is_maybe eq key) (has_maybe eq key) options (same_maybe eq key)

pub values_first : {F V M S : Type 0} (eq : S → S → Bool) (key : S) (options : List (Declared F V M S)) → values_names eq key options ≡ first_names (has_values eq key) options
values_first eq key options = first (is_values eq key) (has_values eq key) options (same_values eq key)

-- ---- keys

one_key : {F V P M S : Type 0} (options : List (Declared F V M S)) (s : legal.Parsed) (own : Parsed F V P M S) → IsParsedAs options s own → HasKey options s own
one_key options s (parsed.Flag key) is = is
one_key options s (parsed.Value key word) is = is
one_key options s (parsed.Maybe key value) is = is
one_key options s (parsed.Values key values) is = is
one_key options s (parsed.Positional key word) is = is

keys : {F V P M S : Type 0} (options : List (Declared F V M S)) (l : List legal.Parsed) (own : List (Parsed F V P M S)) → AreParsedAs options l own → AllZip (HasKey options) l own
keys options [] [] all = all
keys options [] (o ∷ os) all = absurd all
keys options (s ∷ l) [] all = absurd all
keys options (s ∷ l) (o ∷ os) all = (one_key options s o all.0, keys options l os all.1)

pub line_keys : {F V P M S : Type 0} (o : Options F V P M S) (words : List (List ℕ)) (l : Line F V P M S) → IsLineRead o words l → HaveKeys (options_of o) l
line_keys o words (line.Parsed own) is = (_, keys (options_of o) _ own.items is.3)
line_keys o words (line.Asked asked) is = tt
line_keys o words (line.Refused r) is = (_, keys (options_of o) _ r.before.items is.before, is.help ∙ help_first (options_of o))

-- ---- completion of a typed word

pub known : {F V M S : Type 0} (options : List (Declared F V M S)) (j : Option completion.Joined) (found : Option (Joined F V M S)) → IsJoinedAt options j found → IsKnown options found
known options None None is = tt
known options (Some j) None is = tt
known options None (Some f) is = absurd is
known options (Some j) (Some f) is = (j.index, is.0)

pub known_role : {F V M S : Type 0} (options : List (Declared F V M S)) (r : Option completion.Role) (found : Option (Role F V M S)) → IsRoleAt options r found → IsKnownRole options found
known_role options None None is = tt
known_role options (Some r) None is = tt
known_role options None (Some r) is = absurd is
known_role options (Some (completion.value i)) (Some (role.Value option)) is = (i, is)
known_role options (Some (completion.argument before)) (Some (role.Value option)) is = absurd is
known_role options (Some r) (Some role.Argument) is = tt

-- ---- a value that is converted

conversion : {T E : Type 0} (names : Option Names) (gives : List ℕ → Result T E → Type 0) (converts : E → Cause → Type 0) (word : List ℕ) (answer : Result T Error)
    → Converts gives converts word answer → IsConverted names gives converts word (named names answer)
conversion names gives converts word (Ok value) is = is
conversion names gives converts word (Err (error.MissingValue option)) is = (refl, (λ e. cc), is)
conversion names gives converts word (Err (error.UnexpectedOption option)) is = (refl, (λ e. cc), is)
conversion names gives converts word (Err (error.UnexpectedArgument value)) is = (refl, (λ e. cc), is)
conversion names gives converts word (Err (error.UnexpectedValue option value)) is = (refl, (λ e. cc), is)
conversion names gives converts word (Err (error.ParsingFailed value cause)) is = (refl, (λ e. cc), is)
conversion names gives converts word (Err (error.NonUnicodeValue value)) is = (refl, (λ e. cc), is)
conversion names gives converts word (Err (error.Custom cause)) is = (refl, (λ e. cc), is)
conversion names gives converts word (Err error.OutOfMemory) is = is

pub converted : {T E : Type 0} (names first : Option Names) (gives : List ℕ → Result T E → Type 0) (converts : E → Cause → Type 0) (word : List ℕ) (result : Result T UsageError) → names ≡ first
    → ConvertsFor names gives converts word result → IsConverted first gives converts word result
converted names first gives converts word result same is =
    subst (λ n. IsConverted n gives converts word result) same
    (subst (IsConverted names gives converts word) (sym is.named_so) (conversion names gives converts word is.answer (is.text, is.damaged)))
