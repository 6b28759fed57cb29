use Rattle.std.proofs.Common.{◌≡◌, ◌++◌, take}
use Rattle.date_rows.proofs.date_list.PackedDates.extend.Given as goal

abbrev pub invariant-loop-index : goal.invariant-loop-index
invariant-loop-index l = l.self ≡ l.fn.self ++ take l.index l.dates
