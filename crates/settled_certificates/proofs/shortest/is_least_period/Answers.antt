use Rattle.std.proofs.Common.{◌%◌, ◌<◌, ◌≤◌, ◌≡◌, length, arith, ⊎_elim}
use Rattle.std.proofs.lemmas.Bool.{iff_false, cases_lt}
use Rattle.settled_certificates.specs.ShortestRows.{GoOnBy}
use Rattle.dating_certificates.specs.ToldRows.{date_told}
use Rattle.settled_certificates.proofs.shortest.is_least_period.Goals as goal

pub loop-by-preserved : goal.loop-by-preserved
loop-by-preserved c = λ p one l divides goes. ⊎_elim
    (λ (q : p < c.loop-by.by). c.loop-by.invariant p one q divides goes)
    (λ (q : c.loop-by.by ≤ p).
    let is : p ≡ c.loop-by.by = omega (arith, q, l) in
    let both : (c.args.span.period % c.loop-by.by ≡ 0)
    × GoOnBy (length c.args.told.now.net.transitions) (date_told c.args.told.now) c.args.span.after c.args.span.period c.loop-by.by = (rw is at divides, rw is at goes) in
    iff_false c.divides_and_goes_on.ensures c.if-divides_and_goes_on.false both)
    (cases_lt p c.loop-by.by)
