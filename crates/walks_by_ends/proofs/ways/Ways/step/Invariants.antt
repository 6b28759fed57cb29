use Rattle.std.proofs.Common.{ℕ, ◌<◌}
use Rattle.std.specs.Prelude.{◌≤ℤ◌}
use Rattle.teg_settle.specs.settled_laws.SettledForms.{step_of_form}
use Rattle.walks_by_ends.specs.EndForms.{end_form}
use Rattle.walks_by_ends.specs.LatestTimes.{way_at}
use Rattle.walks_by_ends.proofs.ways.Ways.step.Given as goal

abbrev pub invariant-loop-index : goal.invariant-loop-index
invariant-loop-index l = (i : ℕ) → i < l.index → step_of_form (end_form l.self.ends (way_at l.self i).to.index) l.transition.index ≤ℤ l.most
