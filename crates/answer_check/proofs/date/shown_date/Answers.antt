use Rattle.std.proofs.Common.{rules, Some}
use Rattle.answer_check.specs.DateReading.{ComparesDate}
use Rattle.answer_check.proofs.Firings.{none_not_shown, other_not_shown, told_is_shown}
use Rattle.answer_check.proofs.date.shown_date.Goals as goal

pub returns-in_default : goal.returns-in_default
returns-in_default c = none_not_shown c.args.net.now c.args.list.now c.args.text.now (rw c.in_default.is at c.in_ok-found.ensures)

pub returns-then-not-is_told : goal.returns-then-not-is_told
returns-then-not-is_told c =
    let found = c.in-Some.found in
    let compares : ComparesDate c.args.net.now c.args.list.now c.args.text.now (Some (found.shown, found.is_told)) = rw c.in-Some.is at c.in_ok-found.ensures in
    other_not_shown c.args.net.now c.args.list.now c.args.text.now found.shown found.is_told c.rules.ensures compares (search rules)

pub returns : goal.returns
returns c =
    let found = c.in-Some.found in
    let compares : ComparesDate c.args.net.now c.args.list.now c.args.text.now (Some (found.shown, found.is_told)) = rw c.in-Some.is at c.in_ok-found.ensures in
    told_is_shown c.args.net.now c.args.list.now c.args.text.now found.shown found.is_told compares (search rules)
