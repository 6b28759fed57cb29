use Rattle.std.proofs.Common.{◌≡◌, ◌≤◌, ◌+◌, ◌-◌, ◌*◌, [], length, drop, map}
use Rattle.teg_text.specs.Lines.{further_then}
use Rattle.teg_text.specs.ValueWords.{date_word}
use Rattle.teg_report.proofs.list_rows.end_row.Given as goal

-- the last dates stand before the line feed
abbrev pub invariant-loop-index : goal.invariant-loop-index
invariant-loop-index g l =
    let dates = map g.C.DateCell.held l.row in
    record {
      text : drop l.start l.line ≡ further_then (map date_word (drop (length dates - l.index) dates)) [];
      room : length l.line ≤ l.start + 1 + l.index * 41;
      within : l.start + 1 ≤ length l.line;
      same : length l.line ≡ length l.fn.line;
    }
