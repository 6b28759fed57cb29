-- The number and the period of the shortest form of a net whose transitions go on by periods of their own (chapter 3, cyclicity).
use Rattle.std.specs.Prelude.{ℕ, length}
use Rattle.dioid.specs.declared.dates.Date.{Date}
use Rattle.teg_net.specs.Nets.{NetLists}
use Rattle.teg_model.specs.Datings.{IsLeastDating}
use Rattle.own_period_laws.specs.OwnForms.{IsLeastForm}
use Rattle.own_periods.specs.declared.numbers.OwnNumbers.{OwnNumbers}

-- the least dating goes on by the period past the number, and by nothing less
abbrev pub AreLeastNumbers : NetLists → OwnNumbers → Type 0
AreLeastNumbers net found = (x : ℕ → ℕ → Date) → IsLeastDating net x → IsLeastForm (length net.transitions) x found.after found.period
