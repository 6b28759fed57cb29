use Rattle.std.proofs.Common.{ℕ, ◌≤◌, ◌<◌, length, get_or}
use Rattle.teg_net.specs.declared.entries.Place.{Place}
use Rattle.teg_settle.proofs.asked.ready_tokens.Given as goal

abbrev pub invariant-loop-place : goal.invariant-loop-place
invariant-loop-place l = record {
  some : 1 ≤ l.most;
  few : l.most ≤ 1000;
  most : (i : ℕ) (d : Place) → i < length l.place-items → i < l.place-index → (get_or l.place-items i d).tokens ≤ l.most;
}
