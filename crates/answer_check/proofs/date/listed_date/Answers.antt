use Rattle.std.proofs.Common.{rules, ℕ, ◌≡◌, ◌+◌, ◌-◌, ◌*◌, length, get_or, ap, ◌∙◌, arith}
use Rattle.dioid.specs.declared.dates.Date.TheVariants.{Early}
use Rattle.std.proofs.lemmas.Bool.{iff_false}
use Rattle.dating_certificates.specs.CheckedRows.{AreFirstRows, date_in_rows}
use Rattle.teg_net.specs.Circuits.{IsLive}
use Rattle.answer_check.specs.ListReading.{IsReadList}
use Rattle.answer_check.proofs.Firings.{dead_row, no_list_row, other_rows_row, past_row, row_listed}
use Rattle.answer_check.proofs.date.listed_date.Goals as goal

pub returns-in_default : goal.returns-in_default
returns-in_default c = no_list_row c.args.net.now c.args.list.now c.args.number c.rules.ensures (rw c.in_default.is at c.in_ok-told.ensures)

pub returns-in_default-row_before : goal.returns-in_default-row_before
returns-in_default-row_before c =
    let told = c.in-Some.told in
    let read : IsReadList c.args.net.now c.args.list.now told.count told.dates.items = rw c.in-Some.is at c.in_ok-told.ensures in
    past_row c.args.net.now c.args.list.now told.count c.args.number told.dates.items c.rules.ensures read c.in_default-row_before.ensures

pub returns-then-not-branch : goal.returns-then-not-branch
returns-then-not-branch c = dead_row c.args.net.now c.args.list.now c.args.number (iff_false c.in_ok-is_seen_live.ensures (search rules))

pub returns-then-not-branch-2 : goal.returns-then-not-branch-2
returns-then-not-branch-2 c =
    let net = c.args.net.now in
    let told = c.in-Some.told in
    let live : IsLive net = c.in_ok-is_seen_live.ensures.0 (search rules) in
    let read : IsReadList net c.args.list.now told.count told.dates.items = rw c.in-Some.is at c.in_ok-told.ensures in
    let other : AreFirstRows net c.as_slice-dates.result.now → ⊥ = iff_false (c.in_ok-check_rows.ensures.first live) (search rules) in
    other_rows_row net c.args.list.now told.count c.args.number told.dates.items c.rules.ensures read (rw c.as_slice-dates.ensures.value at other)

pub returns : goal.returns
returns c =
    let net = c.args.net.now in
    let told = c.in-Some.told in
    let dates = c.as_slice-dates.result.now in
    let live : IsLive net = c.in_ok-is_seen_live.ensures.0 (search rules) in
    let read : IsReadList net c.args.list.now told.count told.dates.items = rw c.in-Some.is at c.in_ok-told.ensures in
    let first : AreFirstRows net dates = (c.in_ok-check_rows.ensures.first live).0 (search rules) in
    let before = c.in-Some-row_before.before in
    let low = c.in-Some-row_before.ensures.0 in
    let number = c.in-Some-row_before.ensures.1 in
    let back : before ≡ c.args.number - 1 = omega (arith, number) in
    let there : c.date_of.result ≡ get_or dates (before * length net.transitions + c.args.transition.index) Early = rw c.transitions-width.ensures.value at c.date_of.ensures in
    let is : c.date_of.result ≡ date_in_rows (length net.transitions) dates c.args.transition.index c.args.number =
    there ∙ ap (λ (i : ℕ). get_or dates (i * length net.transitions + c.args.transition.index) Early) back in
    row_listed net c.args.list.now told.count c.args.transition.index c.args.number told.dates.items c.date_of.result c.rules.ensures live c.least_datings_exist.ensures read
    (rw c.as_slice-dates.ensures.value at first) c.requires (omega (arith, number)) (omega (arith, number, low)) (rw c.as_slice-dates.ensures.value at is)
