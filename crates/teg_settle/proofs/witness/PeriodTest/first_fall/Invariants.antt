use Rattle.std.proofs.Common.{ℕ, ◌<◌, length, get_or}
use Rattle.teg_net.specs.declared.entries.Place.{Place}
use Rattle.teg_settle.specs.ComparedRows.{IsRisingPlace}
use Rattle.teg_settle.proofs.witness.PeriodTest.first_fall.Given as goal

abbrev pub invariant-loop-place : goal.invariant-loop-place
invariant-loop-place l = (i : ℕ) (d : Place) → i < length l.self.net.places → i < l.place → IsRisingPlace l.self.rows l.self.period (get_or l.self.net.places i d)
