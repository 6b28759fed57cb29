use Rattle.std.proofs.Common.{ℕ, List, Option, Some, None, length, map, sym, subst}
use Rattle.std.proofs.lemmas.Bool.{iff_false}
use Rattle.dioid.specs.declared.dates.Date.{Date}
use Rattle.teg_net.specs.Circuits.{IsLive}
use Rattle.teg_due.specs.RowRules.{IsDueOf}
use Rattle.latest_certificates.specs.LatestRows.{AreLatestRows, ListsDues}
use Rattle.dating_check.specs.DueNumbers.{IsGreatestNumber}
use Rattle.dating_check.specs.TableReading.{FirstOther, words_behind}
use Rattle.dating_check.specs.TableTexts.{IsTableText}
use Rattle.dating_check.proofs.TableFaults.{fault_not_shown, late_false, line_false, numbers_false, table_right}
use Rattle.dating_check.proofs.table_faults.table_fault.Goals as goal

pub returns-in_default-clause-fault : goal.returns-in_default-clause-fault
returns-in_default-clause-fault c = λ list live numbers words table. (let none = rw c.in_default.is at c.in_ok-table.ensures in absurd (none numbers words table))

pub returns-then-numbers-greatest_number-clause-fault : goal.returns-then-numbers-greatest_number-clause-fault
returns-then-numbers-greatest_number-clause-fault c =
    let net = c.args.net.now in
    let rows = c.args.due.now.rows.items in
    let numbers = c.in-Some.table.numbers in
    let lines : List (List ℕ) = map (λ x. x.now) c.in-Some.table.lines.items in
    let list : IsDueOf net rows = c.in_ok-is_due_list.ensures.due c.if-not-branch.false in
    let live : IsLive net = c.in_ok-is_seen_live.ensures.0 c.if-not-branch-2.false in
    let table : IsTableText net c.args.text.now numbers (words_behind lines numbers) = rw c.in-Some.is at c.in_ok-table.ensures in
    let greatest : IsGreatestNumber rows c.greatest_number.result = rw c.deref.ensures.value at c.greatest_number.ensures in
    numbers_false net rows c.args.text.now numbers lines list live table c.greatest_number.result greatest c.if-numbers-greatest_number.true

pub returns-then-numbers-greatest_number-clause-not_shown : goal.returns-then-numbers-greatest_number-clause-not_shown
returns-then-numbers-greatest_number-clause-not_shown c = λ some n shown. fault_not_shown c.args.net.now c.args.due.now.rows.items c.args.text.now _ c.rules.ensures (returns-then-numbers-greatest_number-clause-fault c) n shown

pub first_other-requires-clause-dates : goal.first_other-requires-clause-dates
first_other-requires-clause-dates c =
    let net = c.args.net.now in
    let rows = c.args.due.now.rows.items in
    let list : IsDueOf net rows = c.in_ok-is_due_list.ensures.due c.if-not-branch.false in
    let listed = c.due_rows_are_listed.ensures.listed net rows list in
    let made : AreLatestRows net listed.0 c.in-Some.table.numbers c.in_ok-made.made.items = (rw c.deref-2.ensures.value at c.in_ok-made.ensures) listed.0 listed.1 in
    rw (c.as_slice-dates.ensures.value, c.transitions.ensures.value) made.whole.whole

pub returns-in-Some-2-clause-fault : goal.returns-in-Some-2-clause-fault
returns-in-Some-2-clause-fault c =
    let net = c.args.net.now in
    let rows = c.args.due.now.rows.items in
    let numbers = c.in-Some.table.numbers in
    let dates : List Date = c.in_ok-made.made.items in
    let lines : List (List ℕ) = map (λ x. x.now) c.in-Some.table.lines.items in
    let list : IsDueOf net rows = c.in_ok-is_due_list.ensures.due c.if-not-branch.false in
    let live : IsLive net = c.in_ok-is_seen_live.ensures.0 c.if-not-branch-2.false in
    let table : IsTableText net c.args.text.now numbers (words_behind lines numbers) = rw c.in-Some.is at c.in_ok-table.ensures in
    let found : IsGreatestNumber rows c.greatest_number.result = rw c.deref.ensures.value at c.greatest_number.ensures in
    let greatest : IsGreatestNumber rows numbers = subst (IsGreatestNumber rows) (sym c.if-numbers-greatest_number.false) found in
    let latest : (due : ℕ → ℕ → Option ℕ) → ListsDues rows due → AreLatestRows net due numbers dates = rw c.deref-2.ensures.value at c.in_ok-made.ensures in
    let first : FirstOther lines numbers (length net.transitions) dates (Some c.in-Some-2.first) =
    rw (c.in-Some-2.is, c.as_slice-lines.ensures.value, c.as_slice-dates.ensures.value, c.transitions.ensures.value) at c.in_ok-first.ensures in
    line_false net rows c.args.text.now numbers lines list live table dates greatest latest c.in-Some-2.first c.line_of-line.result c.line_of-line.ensures first

pub returns-in-Some-2-clause-not_shown : goal.returns-in-Some-2-clause-not_shown
returns-in-Some-2-clause-not_shown c = λ some n shown. fault_not_shown c.args.net.now c.args.due.now.rows.items c.args.text.now _ c.rules.ensures (returns-in-Some-2-clause-fault c) n shown

pub returns-then-branch-clause-fault : goal.returns-then-branch-clause-fault
returns-then-branch-clause-fault c =
    let net = c.args.net.now in
    let rows = c.args.due.now.rows.items in
    let numbers = c.in-Some.table.numbers in
    let dates : List Date = c.in_ok-made.made.items in
    let lines : List (List ℕ) = map (λ x. x.now) c.in-Some.table.lines.items in
    let list : IsDueOf net rows = c.in_ok-is_due_list.ensures.due c.if-not-branch.false in
    let live : IsLive net = c.in_ok-is_seen_live.ensures.0 c.if-not-branch-2.false in
    let table : IsTableText net c.args.text.now numbers (words_behind lines numbers) = rw c.in-Some.is at c.in_ok-table.ensures in
    let found : IsGreatestNumber rows c.greatest_number.result = rw c.deref.ensures.value at c.greatest_number.ensures in
    let greatest : IsGreatestNumber rows numbers = subst (IsGreatestNumber rows) (sym c.if-numbers-greatest_number.false) found in
    let latest : (due : ℕ → ℕ → Option ℕ) → ListsDues rows due → AreLatestRows net due numbers dates = rw c.deref-2.ensures.value at c.in_ok-made.ensures in
    let each : FirstOther lines numbers (length net.transitions) dates None =
    rw (c.in_default-2.is, c.as_slice-lines.ensures.value, c.as_slice-dates.ensures.value, c.transitions.ensures.value) at c.in_ok-first.ensures in
    table_right net rows c.args.text.now numbers lines list live table dates greatest latest c.rules.ensures each
    (λ due listed. rw c.as_slice-dates.ensures.value at ((c.in_ok-check_plan.ensures.plan live due listed).0 c.if-branch.true))

pub returns-clause-fault : goal.returns-clause-fault
returns-clause-fault c =
    let net = c.args.net.now in
    let rows = c.args.due.now.rows.items in
    let numbers = c.in-Some.table.numbers in
    let dates : List Date = c.in_ok-made.made.items in
    let lines : List (List ℕ) = map (λ x. x.now) c.in-Some.table.lines.items in
    let list : IsDueOf net rows = c.in_ok-is_due_list.ensures.due c.if-not-branch.false in
    let live : IsLive net = c.in_ok-is_seen_live.ensures.0 c.if-not-branch-2.false in
    let table : IsTableText net c.args.text.now numbers (words_behind lines numbers) = rw c.in-Some.is at c.in_ok-table.ensures in
    let found : IsGreatestNumber rows c.greatest_number.result = rw c.deref.ensures.value at c.greatest_number.ensures in
    let greatest : IsGreatestNumber rows numbers = subst (IsGreatestNumber rows) (sym c.if-numbers-greatest_number.false) found in
    let latest : (due : ℕ → ℕ → Option ℕ) → ListsDues rows due → AreLatestRows net due numbers dates = rw c.deref-2.ensures.value at c.in_ok-made.ensures in
    let each : FirstOther lines numbers (length net.transitions) dates None =
    rw (c.in_default-2.is, c.as_slice-lines.ensures.value, c.as_slice-dates.ensures.value, c.transitions.ensures.value) at c.in_ok-first.ensures in
    late_false net rows c.args.text.now numbers lines list live table dates greatest latest each
    (λ due listed plan. iff_false (c.in_ok-check_plan.ensures.plan live due listed) c.if-branch.false (rw (← c.as_slice-dates.ensures.value) at plan))

pub returns-clause-not_shown : goal.returns-clause-not_shown
returns-clause-not_shown c = λ some n shown. fault_not_shown c.args.net.now c.args.due.now.rows.items c.args.text.now _ c.rules.ensures (returns-clause-fault c) n shown
