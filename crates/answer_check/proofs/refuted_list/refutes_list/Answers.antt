use Rattle.std.proofs.Common.{rules, length}
use Rattle.teg_net.specs.Circuits.{IsLive}
use Rattle.dating_certificates.specs.CheckedRows.{AreFirstRows, date_in_rows}
use Rattle.answer_check.specs.ListReading.{IsOtherRow, IsReadList}
use Rattle.answer_check.specs.ShownLists.{IsRefutedList}
use Rattle.answer_check.proofs.ReadRows.{first_wrong, refuted_not_shown, shown_if_list}
use Rattle.answer_check.proofs.refuted_list.refutes_list.Goals as goal

pub returns-in_default-clause-row : goal.returns-in_default-clause-row
returns-in_default-clause-row c = λ live count words list. (let none = rw c.in_default.is at c.in_ok-told.ensures in absurd (none count words list))

pub returns-then-branch-clause-row : goal.returns-then-branch-clause-row
returns-then-branch-clause-row c =
    let net = c.args.net.now in
    let told = c.in-Some.told in
    let live : IsLive net = c.in_ok-is_seen_live.ensures.0 (search rules) in
    let read : IsReadList net c.args.text.now told.count told.dates.items = rw c.in-Some.is at c.in_ok-told.ensures in
    let first : AreFirstRows net c.as_slice-dates.result.now = (c.in_ok-check_rows.ensures.first live).0 (search rules) in
    shown_if_list net c.args.text.now told.count told.dates.items c.rules.ensures c.least_datings_exist.ensures read (rw c.as_slice-dates.ensures.value at first)

pub returns-clause-row : goal.returns-clause-row
returns-clause-row c =
    let net = c.args.net.now in
    let told = c.in-Some.told in
    let live : IsLive net = c.in_ok-is_seen_live.ensures.0 (search rules) in
    let read : IsReadList net c.args.text.now told.count told.dates.items = rw c.in-Some.is at c.in_ok-told.ensures in
    let other : IsOtherRow net (date_in_rows (length net.transitions) c.as_slice-dates.result.now) told.count c.in_ok-row.row = c.in_ok-row.ensures in
    first_wrong net c.args.text.now told.count c.in_ok-row.row told.dates.items c.rules.ensures live c.least_datings_exist.ensures read (rw c.as_slice-dates.ensures.value at other)

pub returns-clause-not_shown : goal.returns-clause-not_shown
returns-clause-not_shown c =
    let net = c.args.net.now in
    let told = c.in-Some.told in
    let live : IsLive net = c.in_ok-is_seen_live.ensures.0 (search rules) in
    let read : IsReadList net c.args.text.now told.count told.dates.items = rw c.in-Some.is at c.in_ok-told.ensures in
    let other : IsOtherRow net (date_in_rows (length net.transitions) c.as_slice-dates.result.now) told.count c.in_ok-row.row = c.in_ok-row.ensures in
    let refuted : IsRefutedList net c.args.text.now c.in_ok-row.row =
    first_wrong net c.args.text.now told.count c.in_ok-row.row told.dates.items c.rules.ensures live c.least_datings_exist.ensures read (rw c.as_slice-dates.ensures.value at other) in
    λ some count shown. refuted_not_shown net c.args.text.now c.in_ok-row.row c.rules.ensures refuted count shown
