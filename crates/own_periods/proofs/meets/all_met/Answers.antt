use Rattle.std.proofs.Common.{◌+◌, ◌<◌, ◌≤◌, ◌≡◌, sym, subst, arith, ⊎_elim}
use Rattle.std.proofs.lemmas.Bool.{cases_lt}
use Rattle.own_periods.specs.OwnRows.{IsMetIn, period_in}
use Rattle.own_periods.proofs.meets.all_met.Goals as goal

pub loop-index-preserved : goal.loop-index-preserved
loop-index-preserved c = λ t l a m.
    let n = c.loop-index.index in
    ⊎_elim
    (λ (q : t < n). c.loop-index.invariant t q a m)
    (λ (q : n ≤ t).
    let is : n ≡ t = omega (arith, q, l) in
    subst (λ i. IsMetIn c.args.of.now.net.now c.args.of.now.rows.now c.args.of.now.owns.now i (5001 + a)) is
    (c.are_met.ensures c.if-not-are_met.false a (subst (λ i. a < period_in c.args.of.now.owns.now i) (sym is) m)))
    (cases_lt t n)

pub returns : goal.returns
returns c = λ yes t l.
    let end = c.loop-index-test.false in
    let count = c.args.of.now.own.count in
    c.loop-index.invariant t (omega (arith, l, end, count))
