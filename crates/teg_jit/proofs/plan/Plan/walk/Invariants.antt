use Rattle.date_rows.proofs.teg_model_proofs.LiveRanks.{rank_bound, rank_in}
use Rattle.teg_jit.proofs.Tight.{distance}
use Rattle.teg_jit.proofs.Walking.{WalkedTo}
use Rattle.teg_jit.proofs.plan.Plan.walk.Given as goal

abbrev pub invariant-loop-step : goal.invariant-loop-step
invariant-loop-step l = WalkedTo l.net l.self l.transition.index l.number l.steps.items l.at.index l.count

abbrev pub decreases-loop-step : goal.decreases-loop-step
decreases-loop-step l = distance l.self.numbers (rank_bound l.net) (rank_in l.net) l.at.index l.count
