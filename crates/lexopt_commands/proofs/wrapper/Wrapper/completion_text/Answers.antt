use Rattle.lexopt_commands.proofs.Common.{◌∙◌, ap, length, string_bytes, IfOk-weaker}
use Rattle.lexopt_commands.specs.Wrappers.{before_rest, in_rest, rest_line}
use Rattle.lexopt_commands.proofs.wrapper.Wrapper.completion_text.Goals as goal

pub returns-in-Rest : goal.returns-in-Rest
returns-in-Rest g c =
    let read = rw c.in-Rest.is at c.in_ok-found.ensures in
    let count = c.len.ensures ∙ c.in-Rest.rest.ok.0 ∙ ap length read.4 in
    IfOk-weaker c.rest_line.result _ _ (λ text is. in_rest read.0 read.1 read.2 read.3 (is ∙ ap (rest_line c.args.self.now.rest.start) count)) c.rest_line.ensures

pub returns-in-Text : goal.returns-in-Text
returns-in-Text g c =
    let read = rw c.in-Text.is at c.in_ok-found.ensures in
    IfOk-weaker c.text_before.result _ _ (λ text is. before_rest (string_bytes c.in-Text.text) c.in-Text.begins_rest read.0 read.1 read.2 is) c.text_before.ensures
