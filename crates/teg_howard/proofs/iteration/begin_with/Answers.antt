use Rattle.std.proofs.Common.{◌≡◌, length, ap, arith}
use Rattle.teg_net.proofs.Reading.{written_back}
use Rattle.teg_howard.proofs.iteration.begin_with.Goals as goal

pub returns-clause-standing : goal.returns-clause-standing
returns-clause-standing c =
    let ok = c.args.policy.ok in
    let long : length c.first_state.new.policy ≡ c.args.policy.len = omega (arith, c.first_state.auto.policy, ok.0, ap length c.deref_mut.ensures.value) in
    let back = written_back c.first_state.new.policy c.args.policy.items c.args.policy.len long in
    record { inner = c.in_ok-inner.ensures; standing = rw back c.in_ok-state.ensures.standing }
