use Rattle.std.proofs.Common.{rules}
use Rattle.teg_settle.proofs.witness.PeriodTest.is_release_apart.Goals as goal

pub returns : goal.returns
returns c = rw (← c.self.view_is) (λ said tests.
    let alike = tests.alike in
    search rules)
