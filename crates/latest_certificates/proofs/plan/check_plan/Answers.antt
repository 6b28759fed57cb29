use Rattle.latest_certificates.proofs.ListedDues.{dues_are_listed}
use Rattle.latest_certificates.proofs.PlanRows.{tells_local_plan, tells_plan, tells_inputs}
use Rattle.latest_certificates.proofs.plan.check_plan.Goals as goal

pub new-told-requires : goal.new-told-requires
new-told-requires c =
    let listed = dues_are_listed c.args.net.now c.args.due.now.rows.items c.requires in
    rw c.from.ensures ((c.in_ok-check_latest.ensures.local listed.0 listed.1).0 c.if-not-branch.false).whole

pub returns-clause-local : goal.returns-clause-local
returns-clause-local c = λ dues lists.
    let kept = rw (c.new-told.ensures, c.from.ensures, c.from-2.ensures) at c.keep_starts.ensures in
    tells_local_plan c.args.net.now dues c.args.numbers c.args.dates.now c.keep_starts.result c.rules.ensures ((c.in_ok-check_latest.ensures.local dues lists).0 c.if-not-branch.false) kept

pub returns-clause-plan : goal.returns-clause-plan
returns-clause-plan c = λ live dues lists.
    tells_plan c.args.net.now dues c.args.numbers c.args.dates.now c.keep_starts.result c.rules.ensures (returns-clause-local c dues lists) live

pub returns-clause-inputs : goal.returns-clause-inputs
returns-clause-inputs c = λ live dues lists.
    tells_inputs c.args.net.now dues c.args.numbers c.args.dates.now c.keep_starts.result c.rules.ensures (returns-clause-local c dues lists) live
