-- A text is UTF-8, and so are the bytes that it was made from.
use Rattle.std.proofs.Common.{rules, ◌≡◌, string_bytes, IsUtf8, refl, ap, subst, ◌∙◌}
use Rattle.std.proofs.lemmas.Str.{IsUtf8-string_bytes}
use Rattle.lexopt_words.proofs.os_string.OsString.into_string.Goals as goal

pub returns-in-Ok-clause-exactly_on_utf8 : goal.returns-in-Ok-clause-exactly_on_utf8
returns-in-Ok-clause-exactly_on_utf8 c =
    let same : string_bytes c.in-Ok.text ≡ c.args.self = ap (λ v. v.items) c.in-Ok.ensures.ok ∙ c.into_vec.ensures in
    ((λ _. subst IsUtf8 same (IsUtf8-string_bytes c.in-Ok.text)), (λ _. refl))

pub returns-in-Err-clause-same_bytes : goal.returns-in-Err-clause-same_bytes
returns-in-Err-clause-same_bytes c = search rules
