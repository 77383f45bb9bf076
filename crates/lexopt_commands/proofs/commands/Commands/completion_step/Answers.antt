use Rattle.lexopt_commands.proofs.Common.{◌∙◌, ◌++◌, ap, inl, inr, string_bytes, IfOk-weaker}
use Rattle.lexopt_commands.proofs.commands.Commands.completion_step.Goals as goal

pub returns-in-Rest : goal.returns-in-Rest
returns-in-Rest g c =
    let read = rw (c.options.ensures.same, c.in-Rest.is) at c.in_ok-rest.ensures in
    IfOk-weaker c.placed_step.result _ _
    (λ it placed. inl (record { front = read.0; word = read.1; more = read.2; split = read.3; placed = rw read.4 at placed })) c.placed_step.ensures

pub returns : goal.returns
returns g c =
    let read = rw (c.options.ensures.same, c.in-Text.is) at c.in_ok-rest.ensures in
    inr (record {
      without_rest = read.0;
      names = string_bytes c.in_ok-all-in-Text.all;
      are_names = (c.in-Text.begins_rest, read.2, c.in_ok-all-in-Text.ensures);
      own = string_bytes c.in-Text.text;
      is_own = read.1;
      printed = c.in_ok-push_str-in-Text.ensures.bytes ∙ ap (λ l. string_bytes c.in_ok-all-in-Text.all ++ l) c.as_str.ensures.value;
    })
