-- Short lines, split into a front and a rest.
use Rattle.std.proofs.Common.{◌≡◌, ℕ, List, [], ◌∷◌, ◌++◌, map, Some, None, codes, lit≤, refl, true}
use Rattle.lexopt_line_spec.specs.Table as spec
use Rattle.lexopt_line_spec.specs.Table.{Item, short, kind}
use Rattle.lexopt_line_spec.specs.Spelling.{Spells, nothing, no_value, several_words, nothing_more, no_words, separator}
use Rattle.lexopt_line_spec.proofs.Computing.{computing}
use Rattle.lexopt_line_spec.proofs.Worked.{last_of, cluster_line, plain_line, plain_front_is, some}
use Rattle.lexopt_options_spec.specs.Declaration.{Declaration, table}
use Rattle.lexopt_options_spec.specs.Legal.{MeansFront, Parsed, most, option, positional, positional_count, parsed_item, several}
use Rattle.lexopt_options_spec.specs.Rest.{IsSplit, separated, surplus}
use Rattle.lexopt_laws.specs.Sample.{mode, sample}

-- a front that means this, and a rest that begins with this word
split_at : {d : Declaration} {words : List (List ℕ)} (front : List (List ℕ)) (word : List ℕ) (more : List (List ℕ)) (items : List Item) (l : List Parsed) → words ≡ front ++ word ∷ more → Spells (table d.options) d.short_equals front items
    → Spells (table d.options) d.short_equals (front ++ word ∷ []) (items ++ spec.positional word ∷ []) → map (parsed_item d.options) items ≡ map (λ s. Some s) l
    → map (parsed_item d.options) (items ++ spec.positional word ∷ []) ≡ map (λ s. Some s) (l ++ positional word ∷ []) → most d.positionals ≡ Some (positional_count l) → IsSplit surplus d words front word more
split_at front word more items l are spelled longer parsed both full = record {
  words_are = are;
  l = l;
  says = record { items = items; spelled = spelled; parsed = parsed };
  here = full;
  begins = record { items = items ++ spec.positional word ∷ []; spelled = longer; parsed = both };
}

-- `-v a -x`
pub flag_then_word : IsSplit surplus (sample [] true) (codes "-v" ∷ codes "a" ∷ codes "-x" ∷ []) (codes "-v" ∷ []) (codes "a") (codes "-x" ∷ [])
unfolding kind computing
flag_then_word = split_at (codes "-v" ∷ []) (codes "a") (codes "-x" ∷ []) (spec.option (short 0x76) None ∷ []) (option 0 None ∷ []) refl
    (cluster_line (codes "v") _ refl (last_of 0x76 [] nothing _ refl (nothing_more refl refl) (no_value refl refl refl)) no_words)
    (cluster_line (codes "v") _ refl (last_of 0x76 [] nothing _ refl (nothing_more refl refl) (no_value refl refl refl)) (plain_line (codes "a") refl no_words)) refl refl refl

-- `-v -- -x`
pub flag_then_separator : IsSplit surplus (sample [] true) (codes "-v" ∷ codes "--" ∷ codes "-x" ∷ []) (codes "-v" ∷ codes "--" ∷ []) (codes "-x") []
unfolding kind computing
flag_then_separator = split_at (codes "-v" ∷ codes "--" ∷ []) (codes "-x") [] (spec.option (short 0x76) None ∷ []) (option 0 None ∷ []) refl
    (cluster_line (codes "v") _ refl (last_of 0x76 [] nothing _ refl (nothing_more refl refl) (no_value refl refl refl)) (separator []))
    (cluster_line (codes "v") _ refl (last_of 0x76 [] nothing _ refl (nothing_more refl refl) (no_value refl refl refl)) (separator (codes "-x" ∷ []))) refl refl refl

-- `a --bogus`
pub word_alone : IsSplit surplus (sample [] true) (codes "a" ∷ codes "--bogus" ∷ []) [] (codes "a") (codes "--bogus" ∷ [])
word_alone = split_at [] (codes "a") (codes "--bogus" ∷ []) [] [] refl no_words (plain_line (codes "a") refl no_words) refl refl refl

-- `a -v b -x`, where the first positional is declared
pub word_then_flag : IsSplit surplus (sample (mode ∷ []) true) (codes "a" ∷ codes "-v" ∷ codes "b" ∷ codes "-x" ∷ []) (codes "a" ∷ codes "-v" ∷ []) (codes "b") (codes "-x" ∷ [])
unfolding kind computing
word_then_flag = split_at (codes "a" ∷ codes "-v" ∷ []) (codes "b") (codes "-x" ∷ []) (spec.positional (codes "a") ∷ spec.option (short 0x76) None ∷ []) (positional (codes "a") ∷ option 0 None ∷ []) refl
    (plain_line (codes "a") refl (cluster_line (codes "v") _ refl (last_of 0x76 [] nothing _ refl (nothing_more refl refl) (no_value refl refl refl)) no_words))
    (plain_line (codes "a") refl (cluster_line (codes "v") _ refl (last_of 0x76 [] nothing _ refl (nothing_more refl refl) (no_value refl refl refl)) (plain_line (codes "b") refl no_words))) refl refl refl

-- `-x a -v c`
pub values_then_word : IsSplit surplus (sample [] true) (codes "-x" ∷ codes "a" ∷ codes "-v" ∷ codes "c" ∷ []) (codes "-x" ∷ codes "a" ∷ codes "-v" ∷ []) (codes "c") []
unfolding kind computing
values_then_word = split_at (codes "-x" ∷ codes "a" ∷ codes "-v" ∷ []) (codes "c") [] (spec.many (short 0x78) (codes "a" ∷ []) ∷ spec.option (short 0x76) None ∷ []) (several 3 (codes "a" ∷ []) ∷ option 0 None ∷ []) refl
    (cluster_line (codes "x") _ refl
    (last_of 0x78 [] nothing _ refl (nothing_more refl refl) (several_words (codes "a" ∷ []) refl (plain_front_is _ (codes "-v" ∷ []) refl refl) (some _ _) refl))
    (cluster_line (codes "v") _ refl (last_of 0x76 [] nothing _ refl (nothing_more refl refl) (no_value refl refl refl)) no_words))
    (cluster_line (codes "x") _ refl
    (last_of 0x78 [] nothing _ refl (nothing_more refl refl) (several_words (codes "a" ∷ []) refl (plain_front_is _ (codes "-v" ∷ codes "c" ∷ []) refl refl) (some _ _) refl))
    (cluster_line (codes "v") _ refl (last_of 0x76 [] nothing _ refl (nothing_more refl refl) (no_value refl refl refl)) (plain_line (codes "c") refl no_words))) refl refl refl

-- `a -v -- -x b`, where the first positional is declared, and the rest begins after the separator
pub behind_separator : IsSplit separated (sample (mode ∷ []) true) (codes "a" ∷ codes "-v" ∷ codes "--" ∷ codes "-x" ∷ codes "b" ∷ []) (codes "a" ∷ codes "-v" ∷ codes "--" ∷ []) (codes "-x") (codes "b" ∷ [])
unfolding kind computing
behind_separator = record {
  words_are = refl;
  l = positional (codes "a") ∷ option 0 None ∷ [];
  says = record { items = items; spelled = spelled [] (separator []); parsed = refl };
  here = record {
    before = codes "a" ∷ codes "-v" ∷ [];
    words_are = refl;
    says = record { items = items; spelled = spelled [] no_words; parsed = refl };
    within = lit≤ tt;
  };
  begins = record { items = items ++ spec.positional (codes "-x") ∷ []; spelled = spelled (spec.positional (codes "-x") ∷ []) (separator (codes "-x" ∷ [])); parsed = refl };
}
  where
    items : List Item
    items = spec.positional (codes "a") ∷ spec.option (short 0x76) None ∷ []

    -- both before what comes after them
    spelled : {words : List (List ℕ)} (more : List Item) → Spells (table (sample (mode ∷ []) true).options) true words more → Spells (table (sample (mode ∷ []) true).options) true (codes "a" ∷ codes "-v" ∷ words) (items ++ more)
    spelled more rest = plain_line (codes "a") refl (cluster_line (codes "v") _ refl (last_of 0x76 [] nothing _ refl (nothing_more refl refl) (no_value refl refl refl)) rest)

-- `-x a b`
pub values_alone : MeansFront (sample [] true) (codes "-x" ∷ codes "a" ∷ codes "b" ∷ []) (several 3 (codes "a" ∷ codes "b" ∷ []) ∷ [])
unfolding kind computing
values_alone = record {
  items = spec.many (short 0x78) (codes "a" ∷ codes "b" ∷ []) ∷ [];
  spelled = cluster_line (codes "x") _ refl
      (last_of 0x78 [] nothing _ refl (nothing_more refl refl) (several_words (codes "a" ∷ codes "b" ∷ []) refl (plain_front_is _ [] refl refl) (some _ _) refl)) no_words;
  parsed = refl;
  within = lit≤ tt;
}

-- `--`
pub separator_alone : MeansFront (sample [] true) (codes "--" ∷ []) []
separator_alone = record { items = []; spelled = separator []; parsed = refl; within = lit≤ tt }
