use Rattle.std.proofs.Common.{◌≡◌, length, ap, arith}
use Rattle.teg_howard.specs.RoundStates.{IsNextRoundState}
use Rattle.teg_net.proofs.Reading.{written_back}
use Rattle.teg_howard.proofs.iteration.advance.Goals as goal

pub returns-in-Some-clause-some : goal.returns-in-Some-clause-some
returns-in-Some-clause-some c =
    let old = c.args.at.now in
    let goes : IsNextRoundState c.args.net.now c.args.parts.now c.args.part c.next_state.new.policy old.state c.in-Some.next = rw c.in-Some.is at c.in_ok-next.ensures.some in
    let ok = old.policy.ok in
    let long : length c.next_state.new.policy ≡ old.policy.len = omega (arith, c.next_state.auto.policy, ok.0, ap length c.deref_mut.ensures.value) in
    let back = written_back c.next_state.new.policy old.policy.items old.policy.len long in
    rw c.replace-round.ensures.after
    (record {
      before_is = ap (λ s. s.round) c.replace-round.ensures.value;
      standing = record { inner = c.requires.standing.inner; standing = rw back goes.standing };
      follows = goes.follows;
      rises = goes.rises;
    })
