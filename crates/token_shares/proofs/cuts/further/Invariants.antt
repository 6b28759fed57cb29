use Rattle.std.proofs.Common.{◌≡◌, ◌≤◌, ◌+◌, ◌*◌, drop}
use Rattle.token_shares.specs.KeptCuts.{further_by}
use Rattle.token_shares.proofs.cuts.further.Given as goal

-- what is there and what comes still
abbrev pub invariant-loop-index : goal.invariant-loop-index
invariant-loop-index l = record {
  sum : l.further + further_by (drop l.index l.cut.passes.items) (drop l.index l.numbers) ≡ further_by l.cut.passes.items l.numbers;
  low : l.further ≤ l.index * 1717986918400;
}
