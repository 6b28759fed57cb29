use Rattle.std.proofs.Common.{ap}
use Rattle.teg_settle.specs.settled_laws.SettledForms.{SettledForm}
use Rattle.walks_by_ends.proofs.times.LatestTimes.period.Goals as goal

pub returns : goal.returns
returns c = ap (λ (f : SettledForm). f.period) c.self.view_is
