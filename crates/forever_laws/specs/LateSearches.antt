-- Where a late number is looked for: as far as the dates and the due dates take to repeat together, and by their steps past that.
use Rattle.std.specs.Prelude.{ℕ, pos, ◌+◌, ◌-◌, ◌*◌, ◌/◌, ◌<◌, ◌≤◌, ◌≡◌, ◌⊎◌, Some, length}
use Rattle.walk_times.specs.dioid.declared.dates.Date.{Date}
use Rattle.walk_times.specs.dioid.declared.dates.Date.TheVariants.{At}
use Rattle.walk_times.specs.dioid.Dates.{move}
use Rattle.endless_due.specs.declared.row.EndlessRow.{EndlessRow}
use Rattle.endless_due.specs.EndlessRows.{row_due}

-- past number `past` each turn of `turn` firings adds `rise` to the dates of the row's transition and `fall` to the due dates of the row
pub record IsCommonPeriodOf (x : ℕ → ℕ → Date) (r : EndlessRow) (past turn rise fall : ℕ) : Type 0 where
  pub some : 1 ≤ turn
  pub dates_rise : (k : ℕ) → past < k → x r.transition.index (k + turn) ≡ move (pos rise) (x r.transition.index k)
  pub past_list : length r.dates ≤ past + r.every
  pub rounds : ℕ
  pub by_list : turn ≡ rounds * r.every
  pub fall_is : fall ≡ rounds * r.gap

-- the turns after which a firing that comes at `date` and is due at `due`, no earlier, is late, where each turn gains so much on its due date
abbrev pub turns_to : ℕ → ℕ → ℕ → ℕ
turns_to due date gain = (due - date) / gain + 1

-- of the numbers past `past` up to `last` the one that is late after the fewest turns, and the least of these
pub record IsSoonest (x : ℕ → ℕ → Date) (r : EndlessRow) (past last gain base due date : ℕ) : Type 0 where
  pub above : past < base
  pub within : base ≤ last
  pub is_due : row_due r base ≡ Some due
  pub comes : x r.transition.index base ≡ At (pos date)
  pub soonest : (k d z : ℕ) → past < k → k ≤ last → row_due r k ≡ Some d → x r.transition.index k ≡ At (pos z)
      → (turns_to due date gain < turns_to d z gain) ⊎ ((turns_to due date gain ≡ turns_to d z gain) × (base ≤ k))
