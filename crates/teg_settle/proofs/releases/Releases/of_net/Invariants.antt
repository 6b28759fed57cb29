use Rattle.std.proofs.Common.{ℕ, ◌≡◌, ◌<◌, length}
use Rattle.teg_settle.specs.InitialReleases.{wait_in, wait_of}
use Rattle.teg_settle.proofs.releases.Releases.of_net.Given as goal

abbrev pub invariant-loop-index : goal.invariant-loop-index
invariant-loop-index l = record {
  count : length l.waits.items ≡ l.index;
  each : (t : ℕ) → t < l.index → wait_in l.waits.items t ≡ wait_of l.net t;
}
