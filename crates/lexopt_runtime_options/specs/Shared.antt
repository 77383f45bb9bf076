-- Options of a declaration's own and of a group that it shares, with keys that tell them apart.
use Rattle.std.specs.Prelude.{List, [], ◌∷◌, ◌++◌, map}
use Rattle.std.specs.declared.convert.Infallible.{Infallible}
use Rattle.lexopt_declaration.specs.declared.declaration.Declaration.{Declaration}
use Rattle.lexopt_declaration.specs.declared.declaration.Declared.{Declared}
use Rattle.lexopt_declaration.specs.declared.declaration.Group.{Group}
use Rattle.lexopt_declaration.specs.declared.declaration.Kind.{Kind}
use Rattle.lexopt_declaration.specs.declared.declaration.Kind.TheVariants as kind
use Rattle.lexopt_options.specs.declared.parsed.Parsed.{Parsed}
use Rattle.lexopt_options.specs.declared.parsed.Parsed.TheVariants as parsed
use Rattle.lexopt_runtime_options.specs.declared.shared.Key.{Key}
use Rattle.lexopt_runtime_options.specs.declared.shared.Key.TheVariants.{Own, Shared}

-- ---- a declaration with a shared group

-- the same kind with the keys that these functions give
abbrev pub with_keys : {F V M S A B C D : Type 0} → (F → A) → (V → B) → (M → C) → (S → D)
    → Kind F V M S → Kind A B C D
with_keys f v m s (kind.Flag key) = kind.Flag (f key)
with_keys f v m s (kind.Value key placeholder) = kind.Value (v key) placeholder
with_keys f v m s (kind.Maybe key placeholder) = kind.Maybe (m key) placeholder
with_keys f v m s (kind.Values key placeholder) = kind.Values (s key) placeholder
with_keys f v m s kind.Help = kind.Help
with_keys f v m s kind.BriefHelp = kind.BriefHelp
with_keys f v m s (kind.Version text) = kind.Version text

-- the kind of an option of the declaration's own
abbrev pub own_kind : {F V M S G W N T : Type 0} → Kind F V M S
    → Kind (Key F G) (Key V W) (Key M N) (Key S T)
own_kind k = with_keys (λ key. Own key) (λ key. Own key) (λ key. Own key) (λ key. Own key) k

-- the kind of an option of the group
abbrev pub shared_kind : {F V M S G W N T : Type 0} → Kind G W N T
    → Kind (Key F G) (Key V W) (Key M N) (Key S T)
shared_kind k =
    with_keys (λ key. Shared key) (λ key. Shared key) (λ key. Shared key) (λ key. Shared key) k

-- the same option with this kind, and so with other keys
abbrev pub with_kind : {F V M S G W N T : Type 0} → Declared F V M S → Kind G W N T
    → Declared G W N T
with_kind o k = record {
  names = o.names;
  kind = k;
  help = o.help;
  details = o.details;
  heading = o.heading;
  hidden = o.hidden;
  required = o.required;
  default = o.default;
  exclusive = o.exclusive;
  words = o.words;
  hides_list = o.hides_list;
  aliases = o.aliases;
  beside = o.beside;
}

abbrev pub own_option : {F V M S G W N T : Type 0} → Declared F V M S
    → Declared (Key F G) (Key V W) (Key M N) (Key S T)
own_option o = with_kind o (own_kind o.kind)

abbrev pub shared_option : {F V M S G W N T : Type 0} → Declared G W N T
    → Declared (Key F G) (Key V W) (Key M N) (Key S T)
shared_option o = with_kind o (shared_kind o.kind)

-- the options of the declaration, and then those of the group
abbrev pub all_options : {F V P M S G W N T : Type 0} → Declaration F V P M S → Group G W N T
    → List (Declared (Key F G) (Key V W) (Key M N) (Key S T))
all_options d group = map own_option d.options.now ++ map shared_option group.options.now

-- ---- a line that was read by it

-- what was read, with the key that it has in the declaration or in the group
abbrev pub sorted : {F V P M S G W N T : Type 0}
    → Parsed (Key F G) (Key V W) P (Key M N) (Key S T)
    → Key (Parsed F V P M S) (Parsed G W Infallible N T)
sorted (parsed.Flag (Own key)) = Own (parsed.Flag key)
sorted (parsed.Flag (Shared key)) = Shared (parsed.Flag key)
sorted (parsed.Value (Own key) value) = Own (parsed.Value key value)
sorted (parsed.Value (Shared key) value) = Shared (parsed.Value key value)
sorted (parsed.Maybe (Own key) value) = Own (parsed.Maybe key value)
sorted (parsed.Maybe (Shared key) value) = Shared (parsed.Maybe key value)
sorted (parsed.Values (Own key) values) = Own (parsed.Values key values)
sorted (parsed.Values (Shared key) values) = Shared (parsed.Values key values)
sorted (parsed.Positional key word) = Own (parsed.Positional key word)

abbrev pub own_in : {X Y : Type 0} → Key X Y → List X
own_in (Own x) = x ∷ []
own_in (Shared y) = []

abbrev pub shared_in : {X Y : Type 0} → Key X Y → List Y
shared_in (Own x) = []
shared_in (Shared y) = y ∷ []

-- what was read, if it is of the declaration's own
abbrev pub own_part : {F V P M S G W N T : Type 0}
    → Parsed (Key F G) (Key V W) P (Key M N) (Key S T) → List (Parsed F V P M S)
own_part p = own_in (sorted p)

-- what was read, if it is of the group
abbrev pub shared_part : {F V P M S G W N T : Type 0}
    → Parsed (Key F G) (Key V W) P (Key M N) (Key S T) → List (Parsed G W Infallible N T)
shared_part p = shared_in (sorted p)
