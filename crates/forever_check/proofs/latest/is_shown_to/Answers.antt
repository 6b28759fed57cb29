use Rattle.forever_check.proofs.ReleaseWalks.{release_shown}
use Rattle.forever_check.proofs.latest.is_shown_to.Goals as goal

pub returns : goal.returns
returns c = λ yes.
    release_shown c.args.net.now c.args.rows.now c.requires.due c.args.list.now c.args.turn c.requires.rule c.requires.goes
    (c.in_ok-are_firsts_shown.ensures c.if-not-branch.false) (c.in_ok-shown.ensures yes)
