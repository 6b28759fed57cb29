use Rattle.std.proofs.Common.{ℕ, Global, Vec}
use Rattle.witness_check.proofs.Climbing.{tells_live}
use Rattle.witness_check.proofs.live.is_seen_live.Goals as goal

pub returns : goal.returns
returns c = rw c.is_some.ensures (tells_live (λ (v : Vec ℕ Global). v.items) c.args.net.now c.in_ok-found.found c.in_ok-found.ensures.rise c.in_ok-found.ensures.circuit)
