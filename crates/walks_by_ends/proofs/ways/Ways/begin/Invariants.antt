use Rattle.std.proofs.Common.{ℕ, ◌+◌, ◌<◌, ◌≤◌}
use Rattle.walks_by_ends.specs.EndForms.{end_form}
use Rattle.walks_by_ends.specs.LatestTimes.{way_at}
use Rattle.walks_by_ends.proofs.ways.Ways.begin.Given as goal

abbrev pub invariant-loop-index : goal.invariant-loop-index
invariant-loop-index l = (i : ℕ) → i < l.index → (end_form l.self.ends (way_at l.self i).to.index).after + (way_at l.self i).tokens ≤ l.begin
