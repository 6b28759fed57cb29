use Rattle.std.proofs.Common.{◌≡◌}
use Rattle.settled_certificates.proofs.ToldForms.{window_told, still_told, form_told, told_settles}
use Rattle.dating_certificates.proofs.WholeRows.{same_count}
use Rattle.settled_certificates.proofs.settled.check_settled.Goals as goal

pub returns-clause-exact : goal.returns-clause-exact
returns-clause-exact c =
    let net = c.args.net.now in
    let dates = c.args.dates.now in
    let steps = c.args.steps.now in
    let rows = c.in-Some.rows in
    let after = c.args.after in
    let period = c.args.period in
    let ok = c.transitions-width.ensures.rules in
    let told = rw (c.new-test.ensures, c.new-told.ensures) at c.holds.ensures in (
      λ yes. record {
        rows = rows;
        whole = c.in-Some.ensures.rows;
        few = (told.0 yes).sized.small;
        tight = c.in_ok-are_first.ensures.tight.0 c.if-not-are_first.false;
        steps_are = (told.0 yes).sized.steps_are;
        moves = window_told net after period rows dates steps ok (told.0 yes);
        still = still_told net after period rows dates steps ok (told.0 yes);
      },
      λ s.
          let same : s.rows ≡ rows = same_count net dates s.rows rows ok s.whole c.in-Some.ensures.rows in
          told.1 (form_told net after period rows dates steps ok s.steps_are (rw same at s.few) (rw same at s.moves) s.still),
    )

pub returns-clause-settled : goal.returns-clause-settled
returns-clause-settled c = λ live yes.
    told_settles c.args.net.now c.args.after c.args.period c.in-Some.rows c.args.dates.now c.args.steps.now c.transitions-width.ensures.rules live
    ((c.in_ok-are_first.ensures.first live).0 c.if-not-are_first.false) c.in-Some.ensures.rows
    (rw (c.new-test.ensures, c.new-told.ensures) at (c.holds.ensures.0 yes))
