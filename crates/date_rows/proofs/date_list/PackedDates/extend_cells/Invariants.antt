use Rattle.std.proofs.Common.{◌≡◌, ◌++◌, map, take}
use Rattle.date_rows.specs.DateCells.{date_of_signed_cell}
use Rattle.date_rows.proofs.date_list.PackedDates.extend_cells.Given as goal

abbrev pub invariant-loop-index : goal.invariant-loop-index
invariant-loop-index l = l.self ≡ l.fn.self ++ map date_of_signed_cell (take l.index l.cells)
