use Rattle.std.proofs.Common.{rules}
use Rattle.lexopt_spec.specs.Runs.{next, value}
use Rattle.lexopt_calls.specs.declared.reply.Reply.TheVariants.{Short, Taken}
use Rattle.test_callers.proofs.Pairs.{two_replies}
use Rattle.test_callers.proofs.callers.option_and_value.Goals as goal

pub returns-in-Some-Short-Some-Taken : goal.returns-in-Some-Short-Some-Taken
returns-in-Some-Short-Some-Taken c =
    two_replies c.args.parser.now c.replay.new.parser next value _ _ c.in_ok-replies.replies.items _ _
    (Short c.in-Some-Short-Some-Taken.option) (Taken c.in-Some-Short-Some-Taken.value)
    c.in_ok-replies.ensures.run c.pop-last.ensures.items c.pop-first.ensures.items
    (search rules) (search rules)
