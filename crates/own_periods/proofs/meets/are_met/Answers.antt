use Rattle.std.proofs.Common.{◌+◌, ◌<◌, ◌≤◌, ◌≡◌, subst, arith, ⊎_elim}
use Rattle.std.proofs.lemmas.Bool.{cases_lt}
use Rattle.own_periods.specs.OwnRows.{IsMetIn}
use Rattle.own_periods.proofs.meets.are_met.Goals as goal

pub loop-at-preserved : goal.loop-at-preserved
loop-at-preserved c = λ a l.
    let of = c.args.of.now in
    let n = c.loop-at.at in
    ⊎_elim
    (λ (q : a < n). c.loop-at.invariant a q)
    (λ (q : n ≤ a).
    let is : n ≡ a = omega (arith, q, l) in
    subst (λ i. IsMetIn of.net.now of.rows.now of.owns.now c.args.transition.index (5001 + i)) is (c.is_met.ensures c.if-not-is_met.false))
    (cases_lt a n)
