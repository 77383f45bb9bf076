-- Words on lines, and parts of the help, for the worked examples.
use Rattle.std.proofs.Common.{◌≡◌, ◌≤◌, ◌<◌, ◌++◌, ◌∷◌, [], ℕ, List, None, codes, drop, length, inl, inr, sym, ap, subst, append-nil}
use Rattle.std.specs.List.{AllZip}
use Rattle.lexopt_options_spec.specs.Declaration.{Declaration, Declared, Detail}
use Rattle.lexopt_options_spec.specs.Help.{Fits, IsEntry, IsOption, IsUsage, IsUsageLine, Line, first_usage, heading_lines, label, line_columns, option_text, words_of}

pub fits : {limit : ℕ} {line : Line} → 0 < length line → line_columns line ≤ limit → Fits limit line
fits words narrow = record { words = words; narrow = inl narrow }

pub one_word : {limit : ℕ} {line : Line} → 0 < length line → length line ≡ 1 → Fits limit line
one_word words one = record { words = words; narrow = inr one }

-- a usage of one line
pub one_usage : {width : ℕ} {d : Declaration} (line : List ℕ) → IsUsageLine width (first_usage d d.usage) line → drop 1 d.usage ≡ [] → IsUsage width d (codes "Usage: " ++ line)
one_usage {width = width} {d = d} line is none = record {
  first = line;
  others = [];
  first_line = is;
  other_lines = subst (λ texts. AllZip (λ own. IsUsageLine width (d.program ∷ words_of own)) texts []) (sym none) tt;
  written = ap (λ l. codes "Usage: " ++ l) (sym (append-nil line));
}

-- an option without a heading
pub alone : {detail : Detail} {width : ℕ} {o : Declared} {text : List ℕ} → IsEntry width (label o) (option_text detail o) text → o.heading ≡ None → IsOption detail width o text
alone {text = text} is none = record { own = text; is_entry = is; written = ap (λ heading. heading_lines heading ++ text) (sym none) }
