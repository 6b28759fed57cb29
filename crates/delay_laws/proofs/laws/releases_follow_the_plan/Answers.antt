use Rattle.delay_laws.proofs.Releases.{releases_follow_the_plan, each_delay_passes}
use Rattle.delay_laws.proofs.laws.releases_follow_the_plan.Goals as goal

pub returns : goal.returns
returns c = record { plan = releases_follow_the_plan; passes = each_delay_passes }
