-- What can come where a word is typed, as contracts see it.
use Rattle.std.specs.Prelude.{◌≡◌, ◌⊎◌, ◌↔◌, ◌++◌, ℕ, Bool, true, IsTrue, List, []}
use Rattle.std.specs.Prelude.{Option, Some, None, filter, map, nat_eq, string_bytes}
use Rattle.std.specs.List.{Contains, flat_map, starts_with}
use Rattle.lexopt_options_spec.specs.Declaration.{Declaration, Positional}
use Rattle.lexopt_options_spec.specs.Completion as spec
use Rattle.lexopt_options_spec.specs.Completion.{AreOwnersIn, Completes, HasRole, IsJoined, IsOpen}
use Rattle.lexopt_options_spec.specs.Completion.{is_free, list_of, offered_values}
use Rattle.lexopt_options_spec.specs.Completion.{spellings_if, words_at}
use Rattle.lexopt_options_spec.specs.Legal as legal
use Rattle.lexopt_options_spec.specs.Legal.{are_accepted, positional_words}
use Rattle.lexopt_options_spec.specs.Completion.{CanBeTaken}
use Rattle.lexopt_declaration.specs.Models.{spelling_view, words_view}
use Rattle.lexopt_options.specs.declared.complete.Completion.{Completion}
use Rattle.lexopt_options.specs.declared.complete.Joined.{Joined}
use Rattle.lexopt_options.specs.declared.complete.Role.{Role}
use Rattle.lexopt_options.specs.declared.complete.Role.TheVariants as role
use Rattle.lexopt_options.specs.declared.options.Options.{Options}
use Rattle.lexopt_options.specs.Declarations.{declaration_of, options_of}
use Rattle.lexopt_options.specs.Roles.{IsJoinedAt, IsRoleAt}

-- exactly the spellings that can come where this was typed after these words, each with the help
-- text of its option, in the order of the declaration: none, or all that begin so of the options
-- that no option at one of some indices excludes
pub record AreOffered (d : Declaration) (words : List (List ℕ)) (typed : List ℕ)
    (offered : List (List ℕ × List ℕ)) : Type 0 where
  pub sound : (s : List ℕ) → Contains (map (λ p. p.0) offered) s → Completes d words typed s
  pub complete : (s : List ℕ) → Completes d words typed s → Contains (map (λ p. p.0) offered) s
  pub in_order : ((indices : List ℕ)
      × (offered ≡ spec.offered typed (spellings_if (is_free d.options indices) d.options)))
      ⊎ (offered ≡ [])

-- exactly what can come where this was typed after these words
pub record IsCompletion {F V P M S : Type 0} (o : Options F V P M S) (words : List (List ℕ))
    (typed : List ℕ) (completion : Completion F V M S) : Type 0 where
  pub spellings : AreOffered (declaration_of o) words typed
      (map spelling_view completion.spellings.items)
  -- what a word would be that begins so and is not an option
  pub role : Option spec.Role
  pub has_role : HasRole (declaration_of o) words typed role
  pub word : IsRoleAt (options_of o) role completion.word
  -- the positionals that it can belong to, if it would be one
  pub arguments : AreOwnersIn (declaration_of o).positionals role completion.arguments.items
  -- the option whose value is typed in the word, and what comes before the value
  pub with_value : Option spec.Joined
  pub is_joined : IsJoined (declaration_of o) words typed with_value
  pub joined : IsJoinedAt (options_of o) with_value completion.joined
  -- the values in lists that begin so
  pub values : map string_bytes completion.values.items
      ≡ offered_values (declaration_of o) typed role completion.arguments.items with_value

-- ---- values in lists

-- the values in the list of the option that a word is a value of
abbrev pub word_values : {F V M S : Type 0} → Option (Role F V M S) → List (List ℕ)
word_values None = []
word_values (Some role.Argument) = []
word_values (Some (role.Value option)) = list_of (words_view option.now.words)

-- the words that have a value in the list of the option whose value is typed in the word
abbrev pub joined_values : {F V M S : Type 0} → Option (Joined F V M S) → List (List ℕ)
joined_values None = []
joined_values (Some joined) =
    map (λ v. string_bytes joined.before ++ v) (list_of (words_view joined.option.now.words))

-- the words in the list of the positional at this index that begin with what was typed
abbrev pub words_so : List Positional → List ℕ → ℕ → List (List ℕ)
words_so ps typed i = filter (λ v. starts_with nat_eq v typed) (words_at ps i)

-- all values in lists that begin with what was typed, where a word can belong to the positionals at
-- these indices
abbrev pub values_so : {F V M S : Type 0} → List Positional → List ℕ → Option (Role F V M S)
    → List ℕ → Option (Joined F V M S) → List (List ℕ)
values_so ps typed word arguments joined =
    filter (λ v. starts_with nat_eq v typed) (word_values word)
    ++ flat_map (words_so ps typed) arguments
    ++ filter (λ v. starts_with nat_eq v typed) (joined_values joined)

-- ---- where an option can come

-- b is true if and only if an option can come after these words
abbrev pub Opens : Declaration → List (List ℕ) → Bool → Type 0
Opens d words b = IsTrue b ↔ ((l : List legal.Parsed) × IsOpen d words l)

-- b is true if and only if a declared option can come after these words: an option can, each option
-- accepts its values, and the positionals accept the words, with some more words after them
abbrev pub CanCome : Declaration → List (List ℕ) → Bool → Type 0
CanCome d words b = IsTrue b ↔ ((l : List legal.Parsed) × IsOpen d words l
    × (are_accepted d.options l ≡ true) × CanBeTaken d.positionals (positional_words l))
