use Rattle.std.proofs.Common.{ℕ, ◌<◌, get_or}
use Rattle.delay_laws.specs.PlannedTimetables.{IsWorkableAt}
use Rattle.teg_net.specs.declared.entries.Place.{Place}
use Rattle.release_nets.proofs.workable.first_unworkable.Given as goal

abbrev pub invariant-loop-index : goal.invariant-loop-index
invariant-loop-index l = (k : ℕ) (d : Place) → k < l.index → IsWorkableAt l.period l.table (get_or l.net.places k d)
