use Rattle.teg_net.proofs.NetRules.{net_ends}
use Rattle.endless_laws.specs.LateRows.{IsLeastLateOf}
use Rattle.forever_check.proofs.ShownLate.{late_after, plain_row, plain_rows}
use Rattle.forever_check.proofs.late.late_by_form.Goals as goal

pub least_late-requires-clause-row : goal.least_late-requires-clause-row
least_late-requires-clause-row c = plain_row c.args.net.now c.args.plain.now c.requires.plain c.args.row.now c.requires.row

pub keeps_due_rows-requires-clause-rows : goal.keeps_due_rows-requires-clause-rows
keeps_due_rows-requires-clause-rows c = plain_rows c.args.net.now c.args.plain.now c.requires.plain c.args.before.now c.requires.before

pub returns : goal.returns
returns c =
    let net = c.args.net.now in
    let late = c.in-Some.late in
    let least : IsLeastLateOf c.args.plain.now c.args.row.now c.args.number late.due late.least = rw c.in-Some.is at c.in_ok-late.ensures.least in
    late_after c.zero_inputs_are_no_lists.ensures net c.args.plain.now c.requires.plain (net_ends net c.rules.ensures) c.requires.live c.args.before.now c.requires.before
    c.args.row.now c.args.number late.due late.least least (c.in_ok-keeps_due_rows.ensures.0 c.if-not-branch.false)
