-- How the latest dates move with the due dates, and that late due dates are met (chapter 5).
use Rattle.std.specs.Prelude.{ℕ, ◌+◌, ◌≤◌, ◌≡◌, Option, Some, None}
use Rattle.teg_model.specs.dioid.declared.dates.Date.{Date}
use Rattle.teg_model.specs.dioid.Dates.{delayed}
use Rattle.teg_model.specs.teg_net.Nets.{NetLists, HasEndsInRange}
use Rattle.teg_model.specs.teg_net.Circuits.{IsLive}
use Rattle.due_laws.specs.MeetingDueDates.{InputsMeet, inputs_at_zero}
use Rattle.due_laws.specs.LatestDates.{AreLatestDates}
use Rattle.latest_laws.specs.BackwardSolutions.{AreDueUpTo}
use Rattle.latest_laws.specs.Floats.{IsAtMostOn}

-- what is due by the second is due by the first, no later
abbrev pub AreDueNoLater : (ℕ → ℕ → Option ℕ) → (ℕ → ℕ → Option ℕ) → Type 0
AreDueNoLater due other = (t k e : ℕ) → other t k ≡ Some e → (d : ℕ) × (due t k ≡ Some d) × (d ≤ e)

-- later due dates, later latest dates
abbrev pub LaterDuesLaterLatest : Type 0
LaterDuesLaterLatest = (net : NetLists) (due other : ℕ → ℕ → Option ℕ) (y z : ℕ → ℕ → Date) → AreDueNoLater due other
    → AreLatestDates net due y → AreLatestDates net other z → IsAtMostOn net y z

-- the due date so much later
abbrev pub later_due : ℕ → Option ℕ → Option ℕ
later_due c None = None
later_due c (Some d) = Some (d + c)

-- due dates so much later have latest dates just so much later
abbrev pub ShiftedDuesShiftLatest : Type 0
ShiftedDuesShiftLatest = (net : NetLists) (due : ℕ → ℕ → Option ℕ) (y : ℕ → ℕ → Date) (c : ℕ) → AreLatestDates net due y
    → AreLatestDates net (λ t k. later_due c (due t k)) (λ t k. delayed c (y t k))

-- due dates of a live net up to a number are met by inputs at 0 where they are moved far enough
abbrev pub LateDuesAreMet : Type 0
LateDuesAreMet = (net : NetLists) → HasEndsInRange net → IsLive net → (due : ℕ → ℕ → Option ℕ) (last : ℕ) → AreDueUpTo net due last
    → (enough : ℕ) × ((c : ℕ) → enough ≤ c → InputsMeet net (λ t k. later_due c (due t k)) inputs_at_zero)
