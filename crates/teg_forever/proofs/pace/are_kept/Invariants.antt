use Rattle.std.proofs.Common.{ℕ, ◌<◌, length, get_or}
use Rattle.teg_net.specs.declared.entries.Place.{Place}
use Rattle.teg_forever.specs.Paces.{IsKept}
use Rattle.teg_forever.proofs.pace.are_kept.Given as goal

abbrev pub invariant-loop-place : goal.invariant-loop-place
invariant-loop-place l = (i : ℕ) (d : Place) → i < length l.place-items → i < l.place-index → IsKept l.plain.row l.times (get_or l.place-items i d)
