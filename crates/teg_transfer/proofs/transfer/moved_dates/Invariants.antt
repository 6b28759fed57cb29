use Rattle.std.proofs.Common.{◌≡◌, map, take}
use Rattle.teg_report.specs.dioid.Dates.{move}
use Rattle.teg_transfer.proofs.transfer.moved_dates.Given as goal

abbrev pub invariant-loop-date : goal.invariant-loop-date
invariant-loop-date l = l.all.items ≡ map (move l.lag) (take l.date-index l.dates)
