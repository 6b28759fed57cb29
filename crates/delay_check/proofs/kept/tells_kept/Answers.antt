use Rattle.std.proofs.Common.{rules}
use Rattle.delay_check.specs.ShownDelays.{kept_lines}
use Rattle.delay_check.proofs.kept.tells_kept.Goals as goal

pub returns : goal.returns
returns c = λ yes. c.in_ok-tells.ensures.told yes (kept_lines c.args.planned.now.net.now c.args.told.now.circuit.places.items) (search rules)
