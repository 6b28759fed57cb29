use Rattle.std.proofs.Common.{◌≡◌, ◌≤◌, length}
use Rattle.teg_forever.specs.LatestReleases.{inputs_below}
use Rattle.teg_forever.proofs.lagged.input_before.Given as goal

abbrev pub invariant-loop-index : goal.invariant-loop-index
invariant-loop-index l = record {
  place : l.place ≡ length (inputs_below l.net l.index);
  low : l.place ≤ l.index;
}
