use Rattle.std.proofs.Common.{ℕ, Option, ◌≡◌, ◌≢◌, ◌<◌, ◌≤◌, length, subst, ◌∙◌, sym, arith}
use Rattle.dioid.specs.declared.dates.Date.{Date}
use Rattle.due_laws.specs.LatestDates.{IsDateToDue, IsLatestDate}
use Rattle.dating_certificates.specs.CheckedRows.{date_up_to}
use Rattle.latest_certificates.specs.LatestRows.{AreLatestRows}
use Rattle.forever_check.specs.ReleaseWalks.{IsToldAt}
use Rattle.forever_check.proofs.latest.are_shown_by.Goals as goal

pub returns : goal.returns
returns c = λ yes dues lists k l m.
    let net = c.args.net.now in
    let t : ℕ = c.args.list.now.transition.index in
    let width : ℕ = length net.transitions in
    let rows : AreLatestRows net dues c.args.last c.in_ok-dates.dates.items =
    rw c.deref-2.ensures.value at ((c.in_ok-check_latest.ensures.latest c.requires.live dues lists).0 c.if-not-branch.false) in
    let told : IsToldAt net c.args.last c.in_ok-dates.dates.items c.args.list.now k = rw c.deref-3.ensures.value at (c.are_told.ensures yes k l m) in
    let is : IsLatestDate net dues t k (date_up_to c.args.last width c.in_ok-dates.dates.items t k) = rows.latest t k c.requires.input (omega (arith, l)) in
    subst (λ (d : Date). IsDateToDue net dues t k d) told.is (is.attained (λ e. told.dated (sym told.is ∙ e)))
