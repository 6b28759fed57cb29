use Rattle.latest_certificates.proofs.ListedDues.{dues_are_listed}
use Rattle.forever_check.specs.ShownReleases.{list_release}
use Rattle.forever_check.proofs.ReleaseWalks.{turning_walk}
use Rattle.forever_check.proofs.latest.are_turns_shown.Goals as goal

pub returns : goal.returns
returns c = λ yes k l m.
    let net = c.args.net.now in
    let dues = c.in_ok-due.due.rows.items in
    let listed = dues_are_listed net dues (c.is_due_of.ensures.0 c.if-not-is_due_of.false) in
    turning_walk net c.args.rows.now dues listed.0 listed.1 c.args.list.now.transition.index k (list_release c.args.list.now k)
    (c.in_ok-shown.ensures yes listed.0 listed.1 k l m) c.args.turn (rw c.deref.ensures.value at (c.are_turning.ensures c.if-not-are_turning.false))
