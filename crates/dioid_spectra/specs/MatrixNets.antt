-- The net of a matrix of dates, and why a matrix has no spectrum: a row is a transition, and a number is a place with one token, from the transition
-- of its column to that of its row, held for so long as the number is above the least one (chapter 3).
use Rattle.std.specs.Prelude.{ℕ, ℤ, pos, ◌<◌, ◌≤◌, ◌+◌, ◌*◌, ◌≡◌, ◌≢◌, ◌-ℤ◌, ◌+ℤ◌, ◌*ℤ◌, ◌≤ℤ◌, ◌<ℤ◌, List, Option, Some, None, length, get_or, All, Any, ⊤}
use Rattle.std.specs.Int.{int_min}
use Rattle.dioid.specs.declared.dates.Date.{Date}
use Rattle.dioid.specs.declared.dates.Date.TheVariants.{Early, At}
use Rattle.dioid_matrix.specs.Tables.{Table}
use Rattle.teg_net.specs.declared.entries.Place.{Place}
use Rattle.teg_net.specs.declared.entries.PlaceId.{PlaceId}
use Rattle.teg_net.specs.Circuits.{IsCircuit, time_of, tokens_of}
use Rattle.teg_net.specs.Limits.{greatest_hold, greatest_circuit_time, most_circuit_tokens}
use Rattle.teg_net.specs.NetFaults.{IsNetFault}
use Rattle.teg_net.specs.Nets.{NetLists}
use Rattle.teg_net.specs.Ratios.{Fraction}
use Rattle.dioid_spectra.specs.declared.refusals.NoSpectrum.{NoSpectrum}
use Rattle.dioid_spectra.specs.declared.refusals.NoSpectrum.TheVariants.{NotSquare, Far, Wide, NoNumber, Reducible, NoNet, OutOfMemory}
use Rattle.dioid_spectra.specs.Eigenvectors.{IsIrreducible, IsNumber, entry_at}

-- the greatest magnitude of an entry
abbrev pub greatest_entry : ℕ
greatest_entry = 1000000000000000000

-- a number of a magnitude of at most this
pub record IsNear (x : ℤ) : Type 0 where
  pub low : (pos 0 -ℤ pos greatest_entry) ≤ℤ x
  pub high : x ≤ℤ pos greatest_entry

-- Early, or such a number
abbrev pub IsPlain : Date → Type 0
IsPlain Early = ⊤
IsPlain (At x) = IsNear x
IsPlain Date.Never = ⊥

-- no number below this one
abbrev pub IsNotBelow : ℤ → Date → Type 0
IsNotBelow low Early = ⊤
IsNotBelow low (At x) = low ≤ℤ x
IsNotBelow low Date.Never = ⊤

-- the least number of the first n entries; none where each of them is Early
abbrev pub IsLeastNumber : List Date → ℕ → Option ℤ → Type 0
IsLeastNumber entries n None = (k : ℕ) → k < n → get_or entries k Early ≡ Early
IsLeastNumber entries n (Some low) =
    ((k : ℕ) × (k < n) × (get_or entries k Early ≡ At low)) × ((k : ℕ) → k < n → IsNotBelow low (get_or entries k Early))

-- the first n entries are plain, and this is the least number of them
pub record IsLowest (entries : List Date) (n : ℕ) (low : Option ℤ) : Type 0 where
  pub plain : (k : ℕ) → k < n → IsPlain (get_or entries k Early)
  pub least : IsLeastNumber entries n low

-- the place stands for the number in its row and column
pub record IsPlaceOfEntry (a : Table Date) (low : ℤ) (p : Place) : Type 0 where
  pub from_in : p.from.index < a.columns
  pub to_in : p.to.index < a.rows
  pub entry : entry_at a p.to.index p.from.index ≡ At (low +ℤ pos p.hold)
  pub token : p.tokens ≡ 1

-- a place for each number of the first n entries, and for nothing else
pub record ArePlacesOf (a : Table Date) (low : ℤ) (n : ℕ) (places : List Place) : Type 0 where
  pub each : All (IsPlaceOfEntry a low) places
  pub all : (k : ℕ) → k < n → IsNumber (get_or a.entries k Early) → Any (λ p. p.to.index * a.columns + p.from.index ≡ k) places

-- the net of the matrix, by its least number
pub record IsNetOf (a : Table Date) (low : ℤ) (net : NetLists) : Type 0 where
  pub width : length net.transitions ≡ a.rows
  pub lowest : IsLowest a.entries (a.rows * a.columns) (Some low)
  pub places : ArePlacesOf a low (a.rows * a.columns) net.places

-- the entry in this row and column
pub record IsEntryAt (a : Table Date) (row column : ℕ) (entry : Date) : Type 0 where
  pub in_rows : row < a.rows
  pub in_columns : column < a.columns
  pub is : entry_at a row column ≡ entry

-- a number that is no plain one
pub record IsFarEntry (a : Table Date) (row column : ℕ) : Type 0 where
  pub number : ℤ
  pub entry : IsEntryAt a row column (At number)
  pub far : IsNear number → ⊥

-- a number that is above the least one by more than a place can be held
pub record IsWideEntry (a : Table Date) (row column : ℕ) : Type 0 where
  pub number : ℤ
  pub low : ℤ
  pub entry : IsEntryAt a row column (At number)
  pub lowest : IsLowest a.entries (a.rows * a.columns) (Some low)
  pub wide : (low +ℤ pos greatest_hold) <ℤ number

-- the fault is one of the net of the matrix
pub record IsFaultOfMatrix (a : Table Date) (f : NetLists → Type 0) : Type 0 where
  pub low : ℤ
  pub net : NetLists
  pub is : IsNetOf a low net
  pub fault : f net

-- why the matrix has no spectrum; want of memory says nothing
abbrev pub IsWhyNoSpectrum : Table Date → NoSpectrum → Type 0
IsWhyNoSpectrum a NotSquare = a.rows ≢ a.columns
IsWhyNoSpectrum a (NoSpectrum.Never row column) = IsEntryAt a row column Date.Never
IsWhyNoSpectrum a (Far row column) = IsFarEntry a row column
IsWhyNoSpectrum a (Wide row column) = IsWideEntry a row column
IsWhyNoSpectrum a NoNumber = IsLowest a.entries (a.rows * a.columns) None
IsWhyNoSpectrum a (NoNet fault) = IsFaultOfMatrix a (λ net. IsNetFault net fault)
IsWhyNoSpectrum a Reducible = IsIrreducible a → ⊥
IsWhyNoSpectrum a OutOfMemory = ⊤

-- a ratio of a circuit of a net
pub record IsRatioOfCircuit (r : Fraction) : Type 0 where
  pub time : r.time ≤ greatest_circuit_time
  pub some : 1 ≤ r.tokens
  pub tokens : r.tokens ≤ most_circuit_tokens

-- the value of a ratio of the net by the least number of the matrix
abbrev pub value_of : ℤ → Fraction → ℤ
value_of low r = pos r.time +ℤ (pos r.tokens *ℤ low)

-- the lesser of a number and the least before it
abbrev pub lesser_of : Option ℤ → ℤ → ℤ
lesser_of None x = x
lesser_of (Some low) x = int_min x low

-- the least number with one entry more
abbrev pub least_with : Option ℤ → Date → Option ℤ
least_with low Early = low
least_with low (At x) = Some (lesser_of low x)
least_with low Date.Never = low

-- the place of the entry at this place of the list by rows, where it is a number; none where it is none
abbrev pub IsPlaceFor : Table Date → ℤ → ℕ → Option Place → Type 0
IsPlaceFor a low k None = IsNumber (get_or a.entries k Early) → ⊥
IsPlaceFor a low k (Some p) = IsPlaceOfEntry a low p × (p.to.index * a.columns + p.from.index ≡ k)

-- a circuit of the net with the ratio
pub record AttainsRatio (net : NetLists) (r : Fraction) (c : List PlaceId) : Type 0 where
  pub circuit : IsCircuit net c
  pub attains : time_of net c * r.tokens ≡ r.time * tokens_of net c
