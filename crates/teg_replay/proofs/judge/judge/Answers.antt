use Rattle.teg_replay.proofs.Earliest.{earliest_is}
use Rattle.teg_replay.proofs.judge.judge.Goals as goal

pub returns-clause-earliest : goal.returns-clause-earliest
returns-clause-earliest c =
    rw (c.max-2.ensures, c.max.ensures, c.date_before.ensures)
    (earliest_is c.args.net.now c.args.history.now.run c.args.fired.transition.index c.in_ok-tokens.tokens c.in_ok-release.release c.requires.transition
    c.in_ok-tokens.ensures.latest (rw c.next_number-number.ensures.number at c.in_ok-release.ensures.latest))
