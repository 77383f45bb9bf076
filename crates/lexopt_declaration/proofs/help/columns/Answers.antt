use Rattle.std.proofs.Common.{ℕ, List, length, map, Option, Bor, ap, ◌∙◌}
use Rattle.std.proofs.lemmas.List.{length-map}
use Rattle.std.proofs.lemmas.Iterator.{YieldsList}
use Rattle.std.proofs.lemmas.Iterator.Consumers.{YieldsList-from_shown, count_from_yields_List}
use Rattle.bstr.specs.declared.unicode.Graphemes.{Graphemes}
use Rattle.bstr.specs.Unicode.{GivesFirstSpan, Span, grapheme_spans}
use Rattle.bstr.specs.UnicodeIter.{IsTextOf, graphemes_source, byte_graphemes_left}
use Rattle.lexopt_options_spec.specs.Help.{columns}
use Rattle.lexopt_declaration.proofs.help.columns.Goals as goal

abbrev Steps : Graphemes → Option (Bor (List ℕ)) → Graphemes → Type 0
Steps = GivesFirstSpan IsTextOf graphemes_source byte_graphemes_left

-- one element for each cluster that is left
abbrev units : Graphemes → List (Unit {0})
units s = map (λ _. tt {0}) (byte_graphemes_left s)

all_units : (s : Graphemes) → YieldsList Steps (λ _. tt {0}) s (units s)
all_units s =
    YieldsList-from_shown Steps (λ _. tt {0}) units (λ s t step. ap (λ (l : List Span). length (map (λ _. tt {0}) l)) step.1.0)
    (λ s x t step. ap (map (λ _. tt {0})) step.1.2) s

pub returns-clause-count : goal.returns-clause-count
unfolding columns
returns-clause-count c =
    count_from_yields_List c.graphemes.result c.count.result c.count.ensures.ran (all_units c.graphemes.result)
    ∙ length-map (byte_graphemes_left c.graphemes.result) (λ _. tt {0}) ∙ ap length c.graphemes.ensures.left
    ∙ ap (λ l. length (grapheme_spans l)) c.as_bytes.ensures.value
