use Rattle.test_option_callers.proofs.Completed.{asked_so}
use Rattle.test_option_callers.proofs.declared.asked.Goals as goal

pub returns : goal.returns
returns c = asked_so _ c.args.words.items c.new.result c.new.ensures
