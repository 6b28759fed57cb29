use Rattle.std.proofs.Common.{ℕ, ◌<◌, ◌≤◌, get_or}
use Rattle.teg_net.specs.Limits.{greatest_firing_number}
use Rattle.teg_forever.proofs.together.greatest_of.Given as goal

abbrev pub invariant-loop-place : goal.invariant-loop-place
invariant-loop-place l = record {
  few : l.most ≤ greatest_firing_number;
  most : (i : ℕ) → i < l.place → get_or l.lasts i 0 ≤ l.most;
}
