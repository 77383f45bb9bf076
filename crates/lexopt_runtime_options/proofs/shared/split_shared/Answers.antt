use Rattle.std.proofs.Common.{◌∙◌, ap, flat_map, map-id, sym}
use Rattle.std.proofs.lemmas.Iterator.Adapters.{YieldsList-from_vec}
use Rattle.std.proofs.lemmas.Iterator.Consumers.{YieldsList-end}
use Rattle.lexopt_runtime_options.specs.Shared.{own_part, shared_part}
use Rattle.lexopt_runtime_options.proofs.shared.split_shared.Goals as goal

pub returns : goal.returns
returns g c =
    let gives = c.into_iter-parsed-iterator.ensures.into_iter_gives in
    let end = YieldsList-end (YieldsList-from_vec c.args.line.items gives.0 (gives.1 ∙ c.args.line.ok.0)) c.loop-parsed.yielded c.loop-parsed.parsed-iterator c.loop-parsed.yielded_by c.next.result c.next.new.self c.in-None.is c.next.ensures.steps in
    let all = sym (map-id c.loop-parsed.yielded) ∙ end.0 in
    (c.loop-parsed.invariant.0 ∙ ap (flat_map own_part) all, c.loop-parsed.invariant.1 ∙ ap (flat_map shared_part) all)
