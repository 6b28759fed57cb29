use Rattle.std.proofs.Common.{rules}
use Rattle.teg_settle.proofs.witness.PeriodTest.is_refuted_by.Goals as goal

pub returns-then-place-places : goal.returns-then-place-places
returns-then-place-places c = rw (← c.self.view_is) (λ said tests.
    let rising = tests.rising in
    search rules)
