use Rattle.std.proofs.Common.{◌≡◌, ◌+◌, map}
use Rattle.std.specs.List.{range_with_len}
use Rattle.settled_laws.specs.SettledForms.{row_date}
use Rattle.teg_date_commands.proofs.told_dates.dates_of.Given as goal

abbrev pub invariant-loop-number : goal.invariant-loop-number
invariant-loop-number l = l.dates.items ≡ map (λ k. row_date l.settled l.transition.index (k + 1)) (range_with_len 0 l.number)
