use Rattle.std.proofs.Common.{ℕ, ◌<◌}
use Rattle.teg_settle.specs.InitialReleases.{release_by}
use Rattle.teg_settle.specs.ComparedRows.{GoesOnBy, read_step}
use Rattle.teg_settle.proofs.witness.PeriodTest.release_apart.Given as goal

abbrev pub invariant-loop-index : goal.invariant-loop-index
invariant-loop-index l = (t : ℕ) → t < l.index → GoesOnBy (release_by l.self.releases.waits.items l.self.net t) l.self.after l.self.period (read_step l.self.rows l.self.period t)
