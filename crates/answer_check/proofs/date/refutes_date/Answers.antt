use Rattle.std.proofs.Common.{Some, None}
use Rattle.std.proofs.lemmas.Bool.{false≢true}
use Rattle.answer_check.specs.DateReading.{ComparesDate}
use Rattle.answer_check.specs.ShownDates.{IsOtherDate}
use Rattle.answer_check.proofs.Firings.{none_not_refuted, other_is_refuted, refuted_by, told_not_refuted}
use Rattle.answer_check.proofs.date.refutes_date.Goals as goal

pub returns-in_default : goal.returns-in_default
returns-in_default c =
    let none : ComparesDate c.args.net.now c.args.list.now c.args.text.now None = rw c.in_default.is at c.in_ok-found.ensures in
    (λ e. absurd (false≢true e), λ h. absurd (none_not_refuted c.args.net.now c.args.list.now c.args.text.now none h))

pub returns : goal.returns
returns c =
    let net = c.args.net.now in
    let list = c.args.list.now in
    let text = c.args.text.now in
    let found = c.in-Some.found in
    let compares : ComparesDate net list text (Some (found.shown, found.is_told)) = rw c.in-Some.is at c.in_ok-found.ensures in
    refuted_by (IsOtherDate net list text) found.is_told
    (other_is_refuted net list text found.shown found.is_told compares)
    (told_not_refuted net list text found.shown found.is_told c.rules.ensures compares)
