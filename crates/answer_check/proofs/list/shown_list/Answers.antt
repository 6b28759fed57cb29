use Rattle.std.proofs.Common.{rules}
use Rattle.std.proofs.lemmas.Bool.{iff_false}
use Rattle.teg_net.specs.Circuits.{IsLive}
use Rattle.dating_certificates.specs.CheckedRows.{AreFirstRows}
use Rattle.answer_check.specs.ListReading.{IsReadList}
use Rattle.answer_check.proofs.ReadRows.{least_shown, others_not_shown, shown_is_list, words_of}
use Rattle.answer_check.proofs.list.shown_list.Goals as goal

pub returns-in_default : goal.returns-in_default
returns-in_default c = λ count few shown.
    let none = rw c.in_default.is at c.in_ok-told.ensures in
    none count (words_of shown.told.0) (shown_is_list c.args.net.now c.args.text.now count c.rules.ensures few shown)

pub returns-then-not-branch-2 : goal.returns-then-not-branch-2
returns-then-not-branch-2 c =
    let net = c.args.net.now in
    let told = c.in-Some.told in
    let live : IsLive net = c.in_ok-is_seen_live.ensures.0 (search rules) in
    let read : IsReadList net c.args.text.now told.count told.dates.items = rw c.in-Some.is at c.in_ok-told.ensures in
    let other : AreFirstRows net c.as_slice.result.now → ⊥ = iff_false (c.in_ok-check_rows.ensures.first live) (search rules) in
    λ count few shown. others_not_shown net c.args.text.now told.count told.dates.items c.rules.ensures read (rw c.as_slice.ensures.value at other) count shown

pub returns : goal.returns
returns c =
    let net = c.args.net.now in
    let told = c.in-Some.told in
    let live : IsLive net = c.in_ok-is_seen_live.ensures.0 (search rules) in
    let read : IsReadList net c.args.text.now told.count told.dates.items = rw c.in-Some.is at c.in_ok-told.ensures in
    let first : AreFirstRows net c.as_slice.result.now = (c.in_ok-check_rows.ensures.first live).0 (search rules) in
    least_shown net c.args.text.now told.count told.dates.items c.rules.ensures live c.least_datings_exist.ensures read (rw c.as_slice.ensures.value at first)
