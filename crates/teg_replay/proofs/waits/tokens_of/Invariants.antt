use Rattle.teg_replay.proofs.Latest.{LatestUpTo}
use Rattle.teg_replay.proofs.waits.tokens_of.Given as goal

abbrev pub invariant-loop-id : goal.invariant-loop-id
invariant-loop-id l = LatestUpTo l.net l.history.run l.fired l.number l.ids l.id-index l.latest
