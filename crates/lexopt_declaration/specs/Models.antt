-- A declaration as contracts see it.
use Rattle.std.specs.Prelude.{ℕ, List, [], ◌∷◌, Option, Some, None, map, option_map, string_bytes}
use Rattle.std.specs.List.{flat_map}
use Rattle.lexopt_line_spec.specs.Table.{Name, short, long}
use Rattle.lexopt_line_spec.specs.Table.{Kind as SpecKind, flag, one, optional, several}
use Rattle.lexopt_options_spec.specs.Completion.{IsText}
use Rattle.lexopt_options_spec.specs.Declaration as spec
use Rattle.lexopt_options_spec.specs.Declaration.{Asked, for_brief_help, for_help, for_version}
use Rattle.lexopt_declaration.specs.declared.declaration.Names.{Names}
use Rattle.lexopt_declaration.specs.declared.declaration.Names.TheVariants.{Short, Long, Both}
use Rattle.lexopt_declaration.specs.declared.declaration.Kind.{Kind}
use Rattle.lexopt_declaration.specs.declared.declaration.Kind.TheVariants.{Flag, Value, Maybe, Values}
use Rattle.lexopt_declaration.specs.declared.declaration.Kind.TheVariants.{BriefHelp, Help, Version}
use Rattle.lexopt_declaration.specs.declared.declaration.Arity.{Arity}
use Rattle.lexopt_declaration.specs.declared.declaration.Arity.TheVariants.{Zero, One, Optional, Several}
use Rattle.lexopt_declaration.specs.declared.declaration.Beside.{Beside}
use Rattle.lexopt_declaration.specs.declared.declaration.Beside.TheVariants.{Flag as BesideFlag}
use Rattle.lexopt_declaration.specs.declared.declaration.Beside.TheVariants.{Negation, Nothing}
use Rattle.lexopt_declaration.specs.declared.declaration.Declared.{Declared}
use Rattle.lexopt_declaration.specs.declared.declaration.Count.{Count}
use Rattle.lexopt_declaration.specs.declared.declaration.Count.TheVariants.{Once, AtMostOnce, AnyNumber}
use Rattle.lexopt_declaration.specs.declared.declaration.Count.TheVariants.{AtLeastOnce}
use Rattle.lexopt_declaration.specs.declared.declaration.Positional.{Positional}
use Rattle.lexopt_declaration.specs.declared.spellings.Spelling.{Spelling}
use Rattle.lexopt_declaration.specs.declared.declaration.Words.{Words}
use Rattle.lexopt_declaration.specs.declared.help.Detail.{Detail}
use Rattle.lexopt_declaration.specs.declared.help.Detail.TheVariants.{Brief, Full}
use Rattle.lexopt_declaration.specs.declared.declaration.Words.TheVariants.{Files, Directories}
use Rattle.lexopt_declaration.specs.declared.declaration.Words.TheVariants.{Listed, Text}

abbrev pub short_name : Names → Option ℕ
short_name (Short c) = Some c
short_name (Long name) = None
short_name (Both c name) = Some c

abbrev pub long_name : Names → Option (List ℕ)
long_name (Short c) = None
long_name (Long name) = Some name.now
long_name (Both c name) = Some name.now

-- the names, in order
abbrev pub names_list : Names → List Name
names_list (Short c) = short c ∷ []
names_list (Long name) = long name.now ∷ []
names_list (Both c name) = short c ∷ long name.now ∷ []

-- these names are text
abbrev pub AreAllText : List Name → Type 0
AreAllText [] = Unit {0}
AreAllText (n ∷ ns) = IsText n × AreAllText ns

abbrev pub arity_kind : Arity → SpecKind
arity_kind Zero = flag
arity_kind (One placeholder) = one
arity_kind (Optional placeholder) = optional
arity_kind (Several placeholder) = several

abbrev pub arity_placeholder : Arity → List ℕ
arity_placeholder Zero = []
arity_placeholder (One placeholder) = placeholder.now
arity_placeholder (Optional placeholder) = placeholder.now
arity_placeholder (Several placeholder) = placeholder.now

abbrev pub kind_of : {F V M S : Type 0} → Kind F V M S → SpecKind
kind_of (Flag key) = flag
kind_of (Value key placeholder) = one
kind_of (Maybe key placeholder) = optional
kind_of (Values key placeholder) = several
kind_of Help = flag
kind_of BriefHelp = flag
kind_of (Version text) = flag

abbrev pub placeholder_of : {F V M S : Type 0} → Kind F V M S → List ℕ
placeholder_of (Value key placeholder) = placeholder.now
placeholder_of (Maybe key placeholder) = placeholder.now
placeholder_of (Values key placeholder) = placeholder.now
placeholder_of kind = []

abbrev pub asked_of : {F V M S : Type 0} → Kind F V M S → Option Asked
asked_of Help = Some for_help
asked_of BriefHelp = Some for_brief_help
asked_of (Version text) = Some (for_version text.now)
asked_of kind = None

abbrev pub detail_view : Detail → spec.Detail
detail_view Brief = spec.brief
detail_view Full = spec.full

abbrev pub words_view : Words → spec.Words
words_view Files = spec.files
words_view Directories = spec.directories
words_view Text = spec.text
words_view (Listed values) = spec.listed (map (λ value. value.now) values.now)

abbrev pub beside_view : Beside → spec.Beside
beside_view Nothing = spec.nothing
beside_view (BesideFlag c) = spec.a_flag c
beside_view Negation = spec.negation

abbrev pub option_view : {F V M S : Type 0} → Declared F V M S → spec.Declared
option_view o = record {
  short_name = short_name o.names;
  long_name = long_name o.names;
  kind = kind_of o.kind;
  placeholder = placeholder_of o.kind;
  help = o.help.now;
  details = option_map (λ text. text.now) o.details;
  asks = asked_of o.kind;
  heading = option_map (λ text. text.now) o.heading;
  hidden = o.hidden;
  required = o.required;
  default = option_map (λ value. value.now) o.default;
  exclusive = option_map (λ text. text.now) o.exclusive;
  words = words_view o.words;
  hides_list = o.hides_list;
  aliases = flat_map names_list o.aliases.now;
  beside = beside_view o.beside;
}

abbrev pub spelling_view : Spelling → List ℕ × List ℕ
spelling_view s = (string_bytes s.text, s.help.now)

abbrev pub count_view : Count → spec.Count
count_view Once = spec.once
count_view AtMostOnce = spec.at_most_once
count_view AnyNumber = spec.any_number
count_view AtLeastOnce = spec.at_least_once

abbrev pub positional_view : {P : Type 0} → Positional P → spec.Positional
positional_view p = record {
  placeholder = p.placeholder.now;
  count = count_view p.count;
  help = p.help.now;
  words = words_view p.words;
  hides_list = p.hides_list;
}
