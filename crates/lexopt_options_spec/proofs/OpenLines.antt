-- Lines after which an option can come.
use Rattle.lexopt_options_spec.proofs.Common.{◌≡◌, ◌≢◌, ℕ, Bool, false, List, [], ◌∷◌, ◌++◌, map, sym, ap, subst, ◌∙◌, append_assoc, map-append, dash, IsNormalIn}
use Rattle.lexopt_line_spec.specs.Table.{Name, short, long, Item, positional, Kind, flag, one, optional, several, kind, Table}
use Rattle.lexopt_line_spec.specs.Spelling as spelling
use Rattle.lexopt_line_spec.specs.Spelling.{Letters, After, Completes, no_value, no_optional, attached_optional, joined_optional, joined_several, attached_several, several_words, attached_value, joined_value, next_word, Cluster, flag_first, last_option, Group, cluster, Line, no_words, plain_word, group, separator}
use Rattle.lexopt_options_spec.proofs.Growing.{front_more}

-- the separator
abbrev pub dashes : List ℕ
dashes = dash ∷ dash ∷ []

-- ---- more words after the line

same_more : (l m more : List (List ℕ)) → l ≡ m → l ++ more ≡ m ++ more
same_more l m more is = ap (λ x. x ++ more) is

completes_more : (k : Kind) (name : Name) (after : After) (words left : List (List ℕ)) (item : Item) (more : List (List ℕ)) → (left ≡ [] → ¬ IsNormalIn false more) → Completes k name after words item left
    → Completes k name after (words ++ more) item (left ++ more)
completes_more flag name after words left item more calm (no_value a i l) = no_value a i (same_more left words more l)
completes_more one name after words left item more calm (attached_value v a i l) = attached_value v a i (same_more left words more l)
completes_more one name after words left item more calm (joined_value v a i l) = joined_value v a i (same_more left words more l)
completes_more one name after words left item more calm (next_word w a i l) = next_word w a i (same_more (w ∷ left) words more l)
completes_more optional name after words left item more calm (no_optional a i l) = no_optional a i (same_more left words more l)
completes_more optional name after words left item more calm (attached_optional v a i l) = attached_optional v a i (same_more left words more l)
completes_more optional name after words left item more calm (joined_optional v a i l) = joined_optional v a i (same_more left words more l)
completes_more several name after words left item more calm (joined_several v a i l) = joined_several v a i (same_more left words more l)
completes_more several name after words left item more calm (attached_several v front a is i) = attached_several v front a (front_more false words front left more calm is) i
completes_more several name after words left item more calm (several_words front a is some i) = several_words front a (front_more false words front left more calm is) some i

cluster_more : (letters : Letters) (t : Table) (short_equals : Bool) (words left : List (List ℕ)) (bytes : List ℕ) (items : List Item) (more : List (List ℕ)) → (left ≡ [] → ¬ IsNormalIn false more)
    → Cluster letters t short_equals words left bytes items → Cluster letters t short_equals (words ++ more) (left ++ more) bytes items
cluster_more letters t short_equals words left bytes items more calm (flag_first c character others rest letter k no_mark spelled) =
    flag_first c character others rest letter k no_mark (cluster_more letters t short_equals words left others rest more calm spelled)
cluster_more letters t short_equals words left bytes items more calm (last_option c character others after item letter ends completes) =
    last_option c character others after item letter ends (completes_more (kind t (short c)) (short c) after words left item more calm completes)

group_more : (letters : Letters) (t : Table) (short_equals : Bool) (words : List (List ℕ)) (items : List Item) (left more : List (List ℕ)) → (left ≡ [] → ¬ IsNormalIn false more)
    → Group letters t short_equals words items left → Group letters t short_equals (words ++ more) items (left ++ more)
group_more letters t short_equals words items left more calm (cluster bytes others are other spelled) =
    cluster bytes (others ++ more) (same_more words ((dash ∷ bytes) ∷ others) more are) other (cluster_more letters t short_equals others left bytes items more calm spelled)
group_more letters t short_equals words items left more calm (spelling.long_option text bytes name after item others are is none named completes items_are) =
    spelling.long_option text bytes name after item (others ++ more) (same_more words ((dash ∷ dash ∷ text) ∷ others) more are) is none named
    (completes_more (kind t (long name)) (long name) after others left item more calm completes) items_are

-- ---- a line with a separator

-- a line has no separator, and more words can come after it, or all words that come after it are
-- positionals
pub data Parts (letters : Letters) (t : Table) (short_equals : Bool) (words : List (List ℕ)) (items : List Item) : Type 0 where
  open_to_the_end : ((more : List (List ℕ)) (later : List Item) → ¬ IsNormalIn false more → Line letters t short_equals more later
      → Line letters t short_equals (words ++ more) (items ++ later)) → Parts letters t short_equals words items
  past_separator : words ≢ [] → ((more : List (List ℕ)) → Line letters t short_equals (words ++ more) (items ++ map positional more)) → Parts letters t short_equals words items

group_some : (letters : Letters) (t : Table) (short_equals : Bool) (words left : List (List ℕ)) (items : List Item) → Group letters t short_equals words items left → words ≢ []
group_some letters t short_equals words left items (cluster bytes others are other spelled) none = let e : (dash ∷ bytes) ∷ others ≡ [] = sym are ∙ none in cc
group_some letters t short_equals words left items (spelling.long_option text bytes name after item others are is no_name named completes items_are) none = let e : (dash ∷ dash ∷ text) ∷ others ≡ [] = sym are ∙ none in cc

pub parts : (letters : Letters) (t : Table) (short_equals : Bool) (words : List (List ℕ)) (items : List Item) → Line letters t short_equals words items → Parts letters t short_equals words items
parts letters t short_equals words items no_words = open_to_the_end (λ more later calm line. line)
parts letters t short_equals words items (plain_word w ws others plain line) = word (parts letters t short_equals ws others line)
  where
    word : Parts letters t short_equals ws others → Parts letters t short_equals (w ∷ ws) (positional w ∷ others)
    word (open_to_the_end goes_on) = open_to_the_end (λ more later calm line. plain_word w (ws ++ more) (others ++ later) plain (goes_on more later calm line))
    word (past_separator some later) = past_separator (λ none. let e : w ∷ ws ≡ [] = none in cc) (λ more. plain_word w (ws ++ more) (others ++ map positional more) plain (later more))
parts letters t short_equals words items (group ws left front others first line) = after (parts letters t short_equals left others line)
  where
    next : (more : List (List ℕ)) (later : List Item) → (left ≡ [] → ¬ IsNormalIn false more) → Line letters t short_equals (left ++ more) (others ++ later) → Line letters t short_equals (ws ++ more) ((front ++ others) ++ later)
    next more later calm line =
        subst (Line letters t short_equals (ws ++ more)) (sym (append_assoc front others later))
        (group (ws ++ more) (left ++ more) front (others ++ later) (group_more letters t short_equals ws front left more calm first) line)

    after : Parts letters t short_equals left others → Parts letters t short_equals ws (front ++ others)
    after (open_to_the_end goes_on) = open_to_the_end (λ more later calm line. next more later (λ none. calm) (goes_on more later calm line))
    after (past_separator some later) = past_separator (group_some letters t short_equals ws left front first) (λ more. next more (map positional more) (λ none. absurd (some none)) (later more))
parts letters t short_equals words items (separator ws) = past_separator (λ none. let e : dashes ∷ ws ≡ [] = none in cc)
    (λ more. subst (Line letters t short_equals (dashes ∷ (ws ++ more))) (map-append positional ws more) (separator (ws ++ more)))
