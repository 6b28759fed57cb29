use Rattle.std.proofs.Common.{rules, ◌≡◌}
use Rattle.std.specs.List.{filter_map}
use Rattle.teg_state.specs.LeftRows.{row_left}
use Rattle.teg_state.proofs.LeftDues.{rows_are_left, rules_are_kept}
use Rattle.teg_state.proofs.history.History.due_left.Goals as goal

pub returns-clause-rows : goal.returns-clause-rows
returns-clause-rows c = search (rules, rows_are_left)

pub returns-clause-rules : goal.returns-clause-rules
returns-clause-rules c =
    let run = c.args.self.now.run in
    let rows = c.args.due.now.rows.items in
    let made : c.in_ok-rows.rows.items ≡ filter_map (row_left run) rows = search rules in
    rules_are_kept c.args.net.now c.args.rest.now run rows c.in_ok-rows.rows.items made c.requires.rest c.requires.due
