use Rattle.std.proofs.Common.{◌≡◌, ◌++◌, List, ap, arith, drop, length, take, ℕ}
use Rattle.std.proofs.Math.Seq.{take-append_seam}
use Rattle.lexopt_options.proofs.places.give_keys.Goals as goal

written : {X : Type 0} (before after : List X) (count : ℕ) → length after ≡ count → take count (after ++ drop (length after) before) ≡ after
written before after count is = rw (← is) (take-append_seam after (drop (length after) before))

pub returns-clause-same : goal.returns-clause-same
returns-clause-same g c = λ options l are.
    let v = c.args.parsed.now in
    let after = c.give_all.new.parsed in
    let is : length after ≡ v.len = omega (arith, c.give_all.ensures.length, ap length c.as_mut_slice.ensures.value, v.ok.0) in
    rw (written v.items after v.len is) (c.give_all.ensures.same options l (rw c.as_mut_slice.ensures.value are))

pub returns-clause-keys : goal.returns-clause-keys
returns-clause-keys g c = λ can.
    let v = c.args.parsed.now in
    let after = c.give_all.new.parsed in
    let is : length after ≡ v.len = omega (arith, c.give_all.ensures.length, ap length c.as_mut_slice.ensures.value, v.ok.0) in
    rw (written v.items after v.len is) (c.give_all.ensures.keys (rw c.as_mut_slice.ensures.value can))
