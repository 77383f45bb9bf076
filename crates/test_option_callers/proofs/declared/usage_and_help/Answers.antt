use Rattle.std.proofs.Common.{◌≡◌, ◌++◌, ◌∙◌, [], ◌∷◌, ℕ, List, codes, refl, ap, string_bytes, subst, append-nil}
use Rattle.std.specs.List.{AllZip, flat_map}
use Rattle.lexopt_options_spec.specs.Declaration.{full}
use Rattle.lexopt_options_spec.specs.Help.{IsHelp, IsUsage, IsUsageLine, words_of}
use Rattle.test_option_callers.specs.Tool.{IsToolUsage, tool}
use Rattle.test_option_callers.proofs.declared.usage_and_help.Goals as goal

none_left : (Is : List ℕ → List ℕ → Type 0) (texts : List (List ℕ)) → AllZip Is [] texts → texts ≡ []
none_left Is [] all = refl
none_left Is (text ∷ texts) all = absurd all

tool_usage_of : (width : ℕ) (text : List ℕ) → IsUsage width tool text → IsToolUsage width text
tool_usage_of width text u = (
  u.first_line.lines,
  u.first_line.wrapped,
  u.written ∙ ap (λ lines. codes "Usage: " ++ u.first ++ flat_map (λ line. codes "  or:  " ++ line) lines) (none_left (λ own. IsUsageLine width (codes "tool" ∷ words_of own)) u.others u.other_lines)
      ∙ ap (λ line. codes "Usage: " ++ line) (append-nil u.first ∙ u.first_line.written),
)

pub returns-clause-usage : goal.returns-clause-usage
returns-clause-usage c = tool_usage_of c.args.width (string_bytes c.in_ok-usage.field-0) (subst (λ d. IsUsage c.args.width d (string_bytes c.in_ok-usage.field-0)) c.new-options.ensures.declaration c.in_ok-usage.ensures)

pub returns-clause-help : goal.returns-clause-help
returns-clause-help c = subst (λ d. IsHelp full d c.args.width (string_bytes c.in_ok-help.field-0)) c.new-options.ensures.declaration c.in_ok-help.ensures
