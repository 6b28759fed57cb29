-- Counts of faults, and when they rose.
use Rattle.std.specs.Prelude.{ℕ, ◌+◌, ◌-◌, ◌^◌, ◌≤◌, ◌<◌, ◌≡◌, ◌≢◌, ◌⊎◌, min}

-- a count rose: it is greater than before, or stands at the greatest u64
abbrev pub Rose : ℕ → ℕ → Type 0
Rose before now = (before < now) ⊎ (now ≡ 2 ^ 64 - 1)

-- a count did not rise: it is no greater than before, and does not stand at the greatest u64
abbrev pub Rested : ℕ → ℕ → Type 0
Rested before now = (now ≤ before) × (now ≢ 2 ^ 64 - 1)

-- a u64 count after one more; it stays at its greatest value
abbrev pub counted_once_more : ℕ → ℕ
counted_once_more count = min (count + 1) (2 ^ 64 - 1)
