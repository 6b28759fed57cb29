use Rattle.std.proofs.Common.{ℕ, ◌<◌, IsTrue, length, get_or}
use Rattle.teg_net.specs.declared.entries.Place.{Place}
use Rattle.settled_forms.specs.Spread.{is_marked}
use Rattle.walk_times.specs.Reached.{begins_marked}
use Rattle.walk_times.proofs.reached.are_closed.Given as goal

abbrev pub invariant-loop-place : goal.invariant-loop-place
invariant-loop-place l =
    (i : ℕ) (d : Place) → i < length l.place-items → i < l.place-index → IsTrue (begins_marked l.marks (get_or l.place-items i d)) → IsTrue (is_marked l.marks (get_or l.place-items i d).to.index)
