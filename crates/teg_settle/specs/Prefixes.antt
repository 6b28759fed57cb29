-- Working definitions of how far the moves of a transition's dates agree with those before.
use Rattle.std.specs.Prelude.{ℕ, ℤ, pos, negsuc, ◌-ℤ◌, ◌+◌, ◌-◌, ◌^◌, ◌<◌, ◌≤◌, ◌≡◌, List, length, slice_index_or}
use Rattle.dioid.specs.declared.dates.Date.{Date}
use Rattle.dioid.specs.declared.dates.Date.TheVariants.{Early, At, Never}
use Rattle.periodic_laws.specs.teg_model.DateBounds.{IsDateWithin}
use Rattle.date_rows.specs.DateTables.{TableDates, date_at}
use Rattle.teg_settle.specs.ComparedRows.{most_window}

-- by what one date moves to another: 0 where both are Early or both Never, and -1 where one of them alone is a number, or they
-- are Early and Never
abbrev pub moved_by : Date → Date → ℤ
moved_by Early Early = pos 0
moved_by Early (At y) = negsuc 0
moved_by Early Never = negsuc 0
moved_by (At x) Early = negsuc 0
moved_by (At x) (At y) = y -ℤ x
moved_by (At x) Never = negsuc 0
moved_by Never Early = negsuc 0
moved_by Never (At y) = negsuc 0
moved_by Never Never = pos 0

-- by what the dates of transition t move to the one behind which there are so many later ones, from the one before it
abbrev pub move_back : TableDates → ℕ → ℕ → ℤ
move_back rows t back = moved_by (date_at rows t (rows.count - back - 1)) (date_at rows t (rows.count - back))

-- the transition has a row in the table, and its dates leave room for a difference
pub record HasMoves (rows : TableDates) (t : ℕ) : Type 0 where
  pub column : t < rows.width
  pub some : 1 ≤ rows.count
  pub few : rows.count ≤ most_window
  pub small : (k : ℕ) → 1 ≤ k → k ≤ rows.count → IsDateWithin (2 ^ 126) (date_at rows t k)

-- so many of the values from `at` on are the first ones
abbrev pub IsAgreeing : (ℕ → ℤ) → ℕ → ℕ → Type 0
IsAgreeing f at known = (j : ℕ) → j < known → f (at + j) ≡ f j

-- the length of the longest common prefix of the first `all` values and of those of them from `at` on
pub record IsCommonPrefix (f : ℕ → ℤ) (all at known : ℕ) : Type 0 where
  pub within : at + known ≤ all
  pub same : IsAgreeing f at known
  pub longest : at + known < all → f (at + known) ≡ f known → ⊥

-- entry i is that length of the values from i on
pub record AreCommonPrefixes (f : ℕ → ℤ) (all count : ℕ) (lengths : List ℕ) : Type 0 where
  pub full : length lengths ≡ count
  pub each : (i : ℕ) → i < count → IsCommonPrefix f all i (slice_index_or lengths i 0)
