use Rattle.token_shares.proofs.Apart.{keeps_by_one}
use Rattle.token_shares.proofs.trials.above.Goals as goal

pub returns-in-Enough-clause-none : goal.returns-in-Enough-clause-none
returns-in-Enough-clause-none c =
    keeps_by_one c.args.net.now c.args.target.now c.args.place c.in-Enough.extra c.in-Enough.circuit (rw c.in-Enough.is at c.in_ok-circuit.ensures)
