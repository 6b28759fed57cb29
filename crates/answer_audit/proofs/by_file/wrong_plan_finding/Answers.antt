use Rattle.std.proofs.Common.{rules, ◌≡◌, ℕ, Some, None, refl}
use Rattle.dating_check.specs.declared.table_faults.TableFault.TheVariants.{OtherNumbers, Line, Late}
use Rattle.dating_check.specs.TableTexts.{IsFalseTable}
use Rattle.answer_audit.proofs.by_file.wrong_plan_finding.Goals as goal

pub returns-in-Some-OtherNumbers : goal.returns-in-Some-OtherNumbers
returns-in-Some-OtherNumbers c =
    let found : IsFalseTable c.args.net.now c.args.due.now.rows.items c.args.text.now OtherNumbers =
    rw (c.in-Some-OtherNumbers.is, c.in-Some-OtherNumbers.field-0-is) at c.in_ok-table_fault.ensures.fault in
    let not_shown = rw c.in-Some-OtherNumbers.is at c.in_ok-table_fault.ensures.not_shown in
    (OtherNumbers, refl, found, λ shown. not_shown refl shown.0 shown.1)

pub returns-in-Some-Line : goal.returns-in-Some-Line
returns-in-Some-Line c =
    let fault = Line c.in-Some-Line.field-0-0 c.in-Some-Line.field-0-1 c.in-Some-Line.line in
    let found : IsFalseTable c.args.net.now c.args.due.now.rows.items c.args.text.now fault =
    rw (c.in-Some-Line.is, c.in-Some-Line.field-0-is) at c.in_ok-table_fault.ensures.fault in
    let not_shown = rw c.in-Some-Line.is at c.in_ok-table_fault.ensures.not_shown in
    (fault, refl, found, λ shown. not_shown refl shown.0 shown.1)

pub returns-in-Some-Late : goal.returns-in-Some-Late
returns-in-Some-Late c =
    let found : IsFalseTable c.args.net.now c.args.due.now.rows.items c.args.text.now Late =
    rw (c.in-Some-Late.is, c.in-Some-Late.field-0-is) at c.in_ok-table_fault.ensures.fault in
    let not_shown = rw c.in-Some-Late.is at c.in_ok-table_fault.ensures.not_shown in
    (found, λ shown. not_shown refl shown.0 shown.1)
