use Rattle.std.proofs.Common.{ℕ, ◌<◌, get_or}
use Rattle.teg_net.specs.Circuits.{no_place}
use Rattle.latest_certificates.specs.SolvedRows.{IsPlaceKept}
use Rattle.latest_certificates.proofs.solved_rows.keeps_places.Given as goal

abbrev pub invariant-loop-index : goal.invariant-loop-index
invariant-loop-index l = (q : ℕ) → q < l.index → IsPlaceKept l.told l.number (get_or l.told.net.places q no_place)
