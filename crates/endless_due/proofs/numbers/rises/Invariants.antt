use Rattle.std.proofs.Common.{◌≡◌, drop}
use Rattle.endless_due.specs.EndlessFiles.{rises_from}
use Rattle.endless_due.proofs.numbers.rises.Given as goal

abbrev pub invariant-loop-date : goal.invariant-loop-date
invariant-loop-date l = rises_from l.before (drop l.date-index l.dates) ≡ rises_from 0 l.dates
