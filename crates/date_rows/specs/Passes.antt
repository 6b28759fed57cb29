-- One row more of a system's least dating: the rows before it as far as they are kept, how a row begins, and what it is in the end.
use Rattle.std.specs.Prelude.{ℕ, ◌+◌, ◌-◌, ◌<◌, ◌≤◌, ◌≡◌, List, [], length, min, All, nat_lt, slice_index_or, if◌then◌else◌}
use Rattle.dioid.specs.declared.dates.Date.{Date}
use Rattle.dioid.specs.declared.dates.Date.TheVariants.{Early}
use Rattle.dioid.specs.Dates.{later_of}
use Rattle.teg_net.specs.declared.entries.Place.{Place}
use Rattle.teg_net.specs.Nets.{NetLists}
use Rattle.teg_model.specs.Systems.{System, available_in, IsLeastIn}
use Rattle.teg_model.specs.DateBounds.{IsDateWithin}
use Rattle.teg_model.specs.Datings.{implicit_place}

-- the dates that a pass sees at number k: those of earlier numbers by how many rows back they stand, and those of number k in its row
abbrev pub seen_at : (ℕ → ℕ → Date) → List Date → ℕ → ℕ → ℕ → Date
seen_at back row k t j = if nat_lt j k then back t (k - j) else slice_index_or row t Early

-- rows that are kept: how many dates each has, how many are always kept, how many were given, how many of these are there, and the date of a transition so many rows back, 1 being the last
pub record KeptRows : Type 0 where
  pub width : ℕ
  pub reach : ℕ
  pub number : ℕ
  pub kept : ℕ
  pub back : ℕ → ℕ → Date

-- these have the row as their last, and each row that is still there one further back
pub record HaveNext (old new : KeptRows) (row : List Date) : Type 0 where
  pub width : new.width ≡ old.width
  pub reach : new.reach ≡ old.reach
  pub number : new.number ≡ old.number + 1
  pub there : min new.number new.reach ≤ new.kept
  pub kept : new.kept ≤ old.kept + 1
  pub last : (t : ℕ) → t < old.width → 1 ≤ new.kept → new.back t 1 ≡ slice_index_or row t Early
  pub before : (t b : ℕ) → t < old.width → 1 ≤ b → b + 1 ≤ new.kept → new.back t (b + 1) ≡ old.back t b

-- the rows before number k are enough: each place and each transition has the date there that it takes a token from
pub record ReachesBack (net : NetLists) (k : ℕ) (rows : KeptRows) : Type 0 where
  pub width : rows.width ≡ length net.transitions
  pub last : 1 < k → 1 ≤ rows.kept
  pub tokens : All (λ p. p.tokens < k → p.tokens ≤ rows.kept) net.places

-- the rows before number k have the dates that x gives to their firings, so many rows back
pub record AreRowsBack (net : NetLists) (x : ℕ → ℕ → Date) (k : ℕ) (rows : KeptRows) : Type 0 where
  pub same : (t b : ℕ) → t < length net.transitions → 1 ≤ b → b ≤ rows.kept → rows.back t b ≡ x t (k - b)

-- the rows before number k have the dates that each least dating of the system gives to their firings, so many rows back
abbrev pub AreLeastRowsBack : NetLists → System → ℕ → KeptRows → Type 0
AreLeastRowsBack net s k rows = (x : ℕ → ℕ → Date) → IsLeastIn s x → AreRowsBack net x k rows

-- a date for each transition, as the token of its implicit place and the release of number k have it
pub record HasBegun (net : NetLists) (s : System) (back : ℕ → ℕ → Date) (k : ℕ) (row : List Date) : Type 0 where
  pub full : length row ≡ length net.transitions
  pub begun : (t : ℕ) → t < length net.transitions
      → slice_index_or row t Early ≡ later_of (available_in s.initial (seen_at back [] k) (implicit_place t) k) (s.release t k)

-- where an earlier firing gives the token that the place has for number k, the date of that firing is at most so much
abbrev pub IsSourceWithin : ℕ → (ℕ → ℕ → Date) → List Date → ℕ → Place → Type 0
IsSourceWithin most back row k p = p.tokens < k → IsDateWithin most (seen_at back row k p.from.index (k - p.tokens))

-- the dates that x gives to number k of each transition
pub record IsRowOf (net : NetLists) (x : ℕ → ℕ → Date) (k : ℕ) (row : List Date) : Type 0 where
  pub full : length row ≡ length net.transitions
  pub same : (t : ℕ) → t < length net.transitions → slice_index_or row t Early ≡ x t k

-- the dates that each least dating of the system gives to number k of each transition
abbrev pub IsRowOfLeast : NetLists → System → ℕ → List Date → Type 0
IsRowOfLeast net s k row = (x : ℕ → ℕ → Date) → IsLeastIn s x → IsRowOf net x k row
