use Rattle.std.proofs.Common.{subst, of_calls, rules}
use Rattle.lexopt_words.specs.Conversions.{IsParsed}
use Rattle.lexopt_words.proofs.value_ext.OsStringValueExt.parse.Goals as goal

pub returns-clause-text : goal.returns-clause-text
returns-clause-text g c = λ utf8.
    let h = c.parse_with.ensures.text utf8 in
    let k : g.T.FromStr.from_str_gives h.1.0.now h.0 = search (rules, of_calls) in
    (h.0, subst (λ bs. g.T.FromStr.from_str_gives bs h.0) h.1.2 k, subst (λ r. IsParsed g.T.Err.Into.converts c.args.self.now h.0 r) c.in-Err.is h.2)

pub returns-in-Ok-clause-text : goal.returns-in-Ok-clause-text
returns-in-Ok-clause-text g c = λ utf8.
    let h = c.parse_with.ensures.text utf8 in
    let k : g.T.FromStr.from_str_gives h.1.0.now h.0 = search (rules, of_calls) in
    (h.0, subst (λ bs. g.T.FromStr.from_str_gives bs h.0) h.1.2 k, subst (λ r. IsParsed g.T.Err.Into.converts c.args.self.now h.0 r) c.in-Ok.is h.2)
