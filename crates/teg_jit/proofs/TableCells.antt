-- Where the dates of firings stand in a list with one row a number.
use Rattle.std.proofs.Common.{ℕ, ◌-◌, ◌*◌, ◌<◌, ◌≤◌, ◌≡◌, ◌≢◌, List, length, set, ap, arith, ⊎_elim}
use Rattle.std.proofs.lemmas.Bool.{cases_lt}
use Rattle.std.proofs.lemmas.List.{get_or_past, get_or-set_same, get_or-set_other}
use Rattle.date_rows.specs.DateTables.{firing_position}
use Rattle.date_rows.proofs.Cells.{rows_below, cell_within}
use Rattle.teg_jit.specs.declared.answers.LatestDate.{LatestDate}
use Rattle.teg_jit.specs.declared.answers.LatestDate.TheVariants.{Free}
use Rattle.teg_jit.specs.Plans.{latest_in}

pub cell_in : (w t k n : ℕ) → t < w → 1 ≤ k → k ≤ n → firing_position w t k < n * w
cell_in w t k n l o m = omega (arith, cell_within w t k l o, rows_below w k n m)

-- two firings have two cells
cell_before : (w t v j k : ℕ) → t < w → 1 ≤ j → j < k → firing_position w t j < firing_position w v k
cell_before w t v j k l o m = omega (arith, cell_within w t j l o, rows_below w j (k - 1) (omega arith))

pub cells_apart : (w t v j k : ℕ) → t < w → v < w → 1 ≤ j → 1 ≤ k → (t ≡ v → j ≡ k → ⊥) → firing_position w t j ≢ firing_position w v k
cells_apart w t v j k l m o p apart =
    ⊎_elim
    (λ (a : j < k). let low = cell_before w t v j k l o a in λ e. absurd (omega arith))
    (λ (a : k ≤ j).
    ⊎_elim
    (λ (b : k < j). let low = cell_before w v t k j m p b in λ e. absurd (omega arith))
    (λ (b : j ≤ k).
    let same : j ≡ k = omega arith in
    let row : (j - 1) * w ≡ (k - 1) * w = ap (λ z. (z - 1) * w) same in
    λ e. apart (omega arith) same)
    (cases_lt k j))
    (cases_lt j k)

-- past the last number each firing is free
pub past_last : (w last : ℕ) (dates : List LatestDate) (t k : ℕ) → length dates ≡ last * w → last < k → latest_in w dates t k ≡ Free
past_last w last dates t k full l = get_or_past dates (firing_position w t k) Free (omega (arith, full, rows_below w last (k - 1) (omega arith)))

-- a date is set, and no other
pub set_here : (w last : ℕ) (dates : List LatestDate) (t k : ℕ) (b : LatestDate) → length dates ≡ last * w → t < w → 1 ≤ k → k ≤ last → latest_in w (set dates (firing_position w t k) b) t k ≡ b
set_here w last dates t k b full l o m = get_or-set_same dates (firing_position w t k) b Free (omega (arith, full, cell_in w t k last l o m))

pub set_other : (w : ℕ) (dates : List LatestDate) (t k v s : ℕ) (b : LatestDate) → t < w → v < w → 1 ≤ k → 1 ≤ s → (v ≡ t → s ≡ k → ⊥)
    → latest_in w (set dates (firing_position w t k) b) v s ≡ latest_in w dates v s
set_other w dates t k v s b l m o p apart = get_or-set_other dates (firing_position w t k) (firing_position w v s) b Free (cells_apart w v t s k m l p o apart)
