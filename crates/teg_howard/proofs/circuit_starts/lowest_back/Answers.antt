use Rattle.std.proofs.Common.{◌<◌, arith}
use Rattle.teg_net.specs.Circuits.{from_of}
use Rattle.policy_rounds.specs.PolicyLists.{policy_of}
use Rattle.policy_rounds.proofs.Back.{on_back}
use Rattle.teg_howard.proofs.Passing.{lowering_more, lowering_done, leads_next}
use Rattle.teg_howard.proofs.circuit_starts.lowest_back.Goals.{then-at-lowest, else-at-lowest}
use Rattle.teg_howard.proofs.circuit_starts.lowest_back.Goals as goal

pub returns-then-at-start : goal.returns-then-at-start
returns-then-at-start c =
    lowering_done c.args.net.now (policy_of c.args.policy.now) c.args.start c.walk._step c.walk.at c.walk.lowest c.walk.invariant.lowering (rw c.place_into.ensures at c.if-at-start.true)

pub walk-preserved : goal.walk-preserved
walk-preserved c =
    let net = c.args.net.now in
    let π = policy_of c.args.policy.now in
    let h = c.walk.invariant.lowering in
    let at = c.walk.at in
    let i = c.walk._step in
    let low = c.walk.lowest in
    let away = rw c.place_into.ensures at c.if-at-start.false in
    let next = leads_next net π c.args.start i at low h in
    let on = on_back net π at c.walk.invariant.on_policy in
    elim c.if-at-lowest.branch [
      | then-at-lowest w ↦
          let less : from_of net (π at) < low = rw c.place_into.ensures at w.if-at-lowest.true in
          rw (w.lowest-is, c.place_into.ensures) (record { lowering = lowering_more net π c.args.start i at low h (from_of net (π at)) away next (omega arith) (omega arith); on_policy = on })
      | else-at-lowest w ↦
          let no_less = rw c.place_into.ensures at w.if-at-lowest.false in
          rw (w.lowest-is, c.place_into.ensures) (record { lowering = lowering_more net π c.args.start i at low h low away h.leads (omega arith) (omega arith); on_policy = on })
    ]
