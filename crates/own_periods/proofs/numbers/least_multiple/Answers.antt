use Rattle.own_periods.proofs.Multiples.{first_multiple}
use Rattle.own_periods.proofs.numbers.least_multiple.Goals as goal

pub returns-then-whole-b-eq0 : goal.returns-then-whole-b-eq0
returns-then-whole-b-eq0 c =
    let inv = c.multiples.invariant in
    rw inv.is (first_multiple c.args.a c.args.b c.multiples.times c.requires.first (rw inv.is at c.if-whole-b-eq0.true) inv.none)
