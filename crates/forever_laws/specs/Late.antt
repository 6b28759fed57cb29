-- Numbers at which a dating comes too late for a row, and the first row that has one.
use Rattle.std.specs.Prelude.{ℕ, pos, ◌<◌, ◌≤◌, ◌≡◌, List, Some, All, slice_get, take}
use Rattle.walk_times.specs.dioid.declared.dates.Date.{Date}
use Rattle.walk_times.specs.dioid.declared.dates.Date.TheVariants.{At}
use Rattle.endless_due.specs.declared.row.EndlessRow.{EndlessRow}
use Rattle.endless_due.specs.EndlessRows.{row_due}

-- firing k of the row's transition is due at `due` and comes at `least`, which is later
pub record IsLateAt (x : ℕ → ℕ → Date) (r : EndlessRow) (k due least : ℕ) : Type 0 where
  pub from_one : 1 ≤ k
  pub is_due : row_due r k ≡ Some due
  pub comes : x r.transition.index k ≡ At (pos least)
  pub late : due < least

-- no number up to `last` is late
abbrev pub NoneLateTo : (ℕ → ℕ → Date) → EndlessRow → ℕ → Type 0
NoneLateTo x r last = (k due least : ℕ) → k ≤ last → IsLateAt x r k due least → ⊥

-- no number is late
abbrev pub NoneLate : (ℕ → ℕ → Date) → EndlessRow → Type 0
NoneLate x r = (k due least : ℕ) → IsLateAt x r k due least → ⊥

-- k is late, and no number before it
pub record IsLeastLate (x : ℕ → ℕ → Date) (r : EndlessRow) (k due least : ℕ) : Type 0 where
  pub late : IsLateAt x r k due least
  pub first : (j d z : ℕ) → IsLateAt x r j d z → k ≤ j

-- r is the first of the rows that has a late number, and k its least
pub record IsFirstLateRow (x : ℕ → ℕ → Date) (rows : List EndlessRow) (r : EndlessRow) (k due least : ℕ) : Type 0 where
  pub index : ℕ
  pub is_row : slice_get rows index ≡ Some r
  pub none_before : All (NoneLate x) (take index rows)
  pub least_late : IsLeastLate x r k due least
