use Rattle.std.proofs.Common.{ℕ, ◌<◌, ◌≤◌, get_or}
use Rattle.teg_net.specs.declared.entries.Place.{Place}
use Rattle.run_rows.specs.TurnsLeft.{IsPlaceInTime}
use Rattle.run_rows.proofs.in_time.turns_of_places.Given as goal

abbrev pub invariant-loop-place : goal.invariant-loop-place
invariant-loop-place l = record {
  within : l.turns ≤ l.most;
  in_time : (i : ℕ) (d : Place) → i < l.place-index → IsPlaceInTime l.turns l.last.after l.last.rows.now l.last.run.now (get_or l.last.of.net.now.places i d);
}
