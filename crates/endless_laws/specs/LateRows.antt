-- The least number at which the least dating of a net comes too late for an endless row, and the few numbers that tell that it is.
use Rattle.std.specs.Prelude.{ℕ, ◌+◌, ◌<◌, ◌≤◌, ◌⊎◌}
use Rattle.dioid.specs.declared.dates.Date.{Date}
use Rattle.teg_net.specs.Nets.{NetLists}
use Rattle.teg_model.specs.Datings.{IsLeastDating}
use Rattle.endless_due.specs.declared.row.EndlessRow.{EndlessRow}
use Rattle.forever_laws.specs.Late.{IsLateAt, IsLeastLate}

-- no number before k is late that is at most `past`, or one of the turn before k
abbrev pub NoneLateNear : (ℕ → ℕ → Date) → EndlessRow → (past turn k : ℕ) → Type 0
NoneLateNear x r past turn k = (j due least : ℕ) → j < k → (j ≤ past) ⊎ (k ≤ j + turn) → IsLateAt x r j due least → ⊥

-- in the least dating of the net k is the least late number of the row
abbrev pub IsLeastLateOf : NetLists → EndlessRow → (k due least : ℕ) → Type 0
IsLeastLateOf net r k due least = (x : ℕ → ℕ → Date) × IsLeastDating net x × IsLeastLate x r k due least

-- no number past the first and up to the second is late
abbrev pub NoneLateBetween : (ℕ → ℕ → Date) → EndlessRow → (past last : ℕ) → Type 0
NoneLateBetween x r past last = (k due least : ℕ) → past < k → k ≤ last → IsLateAt x r k due least → ⊥
