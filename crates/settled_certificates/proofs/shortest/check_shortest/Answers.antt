use Rattle.std.proofs.Common.{◌≡◌, pos, get_or}
use Rattle.settled_certificates.specs.SettledRows.{AreSettledRows}
use Rattle.settled_certificates.proofs.ShortestRows.{number_told, period_told, shortest_settles}
use Rattle.dating_certificates.proofs.WholeRows.{same_count}
use Rattle.settled_certificates.proofs.shortest.check_shortest.Goals as goal

pub returns-clause-exact : goal.returns-clause-exact
returns-clause-exact c =
    let net = c.args.net.now in
    let dates = c.args.dates.now in
    let after = c.args.after in
    let period = c.args.period in
    let rows = c.in-Some.rows in
    let s : AreSettledRows net after period dates c.args.steps.now = c.in_ok-check_settled.ensures.exact.0 c.if-not-branch.false in
    let same : s.rows ≡ rows = same_count net dates s.rows rows c.rules.ensures s.whole c.in-Some.ensures.rows in
    let room = rw same at s.moves.two_periods in
    let told = rw (c.new-test.ensures, c.new-told.ensures) at c.is_shortest.ensures in
    let number = number_told net after period rows dates room (λ t. get_or c.args.steps.now t (pos 0)) in
    let short = period_told net after period rows dates room in (
      λ yes. record { settled = s; least_number = number.0 (told.0 yes).0; least_period = short.0 (told.0 yes).1 },
      λ h. told.1 (number.1 h.least_number, short.1 h.least_period),
    )

pub returns-clause-settled : goal.returns-clause-settled
returns-clause-settled c = λ live yes. c.in_ok-check_settled.ensures.settled live c.if-not-branch.false

pub returns-clause-shortest : goal.returns-clause-shortest
returns-clause-shortest c = λ live yes.
    shortest_settles c.args.net.now c.args.after c.args.period c.args.dates.now c.args.steps.now c.rules.ensures live
    (c.in_ok-check_settled.ensures.settled live c.if-not-branch.false) ((returns-clause-exact c).0 yes)
