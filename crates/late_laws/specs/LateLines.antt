-- Late numbers and lines: past the number at which the line of a row's transition passes under its due dates, none is late.
use Rattle.std.specs.Prelude.{ℕ, ℤ, pos, Bool, IsTrue, ◌+◌, ◌*◌, ◌<◌, ◌≤◌, ◌≡◌, ◌≤ℤ◌, Some, length}
use Rattle.forever_laws.specs.dioid.declared.dates.Date.{Date}
use Rattle.forever_laws.specs.teg_net.Nets.{NetLists, HasEndsInRange}
use Rattle.forever_laws.specs.teg_net.Circuits.{IsLive}
use Rattle.forever_laws.specs.teg_model.Datings.{IsLeastUnder}
use Rattle.growth_laws.specs.DateLines.{line_at, ArePotentialsInto, AreStartsBelow}
use Rattle.forever_laws.specs.due_laws.MeetingDueDates.{inputs_at_zero}
use Rattle.endless_due.specs.declared.row.EndlessRow.{EndlessRow}
use Rattle.endless_due.specs.EndlessRows.{row_due, IsEndlessRow}
use Rattle.forever_laws.specs.Late.{IsLateAt, NoneLateTo, NoneLate}

-- past number `last` the due dates go on as the row says and rise no less than the line, which is under them for one round
pub record IsLineUnderDues (r : EndlessRow) (a b : ℕ) (c : ℤ) (v : ℕ → ℤ) (last : ℕ) : Type 0 where
  pub some : 1 ≤ b
  pub rises_less : a * r.every ≤ b * r.gap
  pub past_list : length r.dates ≤ last + r.every
  pub round : (k due : ℕ) → last < k → k ≤ last + r.every → row_due r k ≡ Some due → line_at a c v r.transition.index k ≤ℤ pos (b * due)

-- with all inputs at 0, where the line of a row's transition is under the due dates of the row, no number past `last` is late,
-- and so none at all where none up to `last` is
abbrev pub NoneLatePastLine : Type 0
NoneLatePastLine =
    (net : NetLists) → HasEndsInRange net → IsLive net → (x : ℕ → ℕ → Date) → IsLeastUnder net inputs_at_zero x → (r : EndlessRow) → IsEndlessRow net r
    → (inside : ℕ → Bool) (a b : ℕ) (c : ℤ) (v : ℕ → ℤ) → ArePotentialsInto net inside a b v → AreStartsBelow net inputs_at_zero inside a b c v → IsTrue (inside r.transition.index)
    → (last : ℕ) → IsLineUnderDues r a b c v last
    → ((k due least : ℕ) → IsLateAt x r k due least → k ≤ last) × (NoneLateTo x r last → NoneLate x r)

-- where the due dates gain so much on the line in each round, the line is under them after the rounds in which they gain what each
-- number of the first round lacks
abbrev pub DuesPassLine : Type 0
DuesPassLine =
    (net : NetLists) (r : EndlessRow) → IsEndlessRow net r → (a b : ℕ) (c : ℤ) (v : ℕ → ℤ) (past gain rounds : ℕ)
    → 1 ≤ b → length r.dates ≤ past + r.every → b * r.gap ≡ a * r.every + gain
    → ((k due : ℕ) → past < k → k ≤ past + r.every → row_due r k ≡ Some due → line_at a c v r.transition.index k ≤ℤ pos (b * due + rounds * gain))
    → IsLineUnderDues r a b c v (past + rounds * r.every)
