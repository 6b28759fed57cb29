-- Working definitions of sums over places one after another, and of places that go on by equal steps.
use Rattle.std.specs.Prelude.{◌≡◌, ◌≤◌, ◌<◌, ◌+◌, ◌-◌, ◌*◌, ℕ, ℤ, cond, ltb, List, length, take}
use Rattle.std.specs.Int.RustNames.{unsigned_abs}
use Rattle.dioid.specs.declared.dates.Date.{Date}
use Rattle.dioid.specs.declared.dates.Date.TheVariants.{Early}
use Rattle.dioid.specs.Dates.{later_of, date_product, move}
use Rattle.series_ops.specs.declared.pieces.Piece.{Piece}
use Rattle.series_ops.specs.declared.splits.Span.{Span}
use Rattle.series_form.specs.SeriesLimits.{greatest_value_ahead}
use Rattle.series_laws.specs.SeriesForms.{table}
use Rattle.series_ops.specs.ListFunctions.{value_listed, AreUpTo}
use Rattle.series_ops.specs.Splits.{greatest_from, split_of, places_to}

-- the greatest sum of the splits of k whose first part is at one of the m places from p on, Early for none
abbrev pub window : (ℕ → Date) → (ℕ → Date) → ℕ → ℕ → ℕ → Date
window s t p m k = greatest_from (split_of s t k) p (places_to p m k)

-- the sum of d with the value of t n shifts before, Early where there is none
abbrev pub carried_at : (ℕ → Date) → ℕ → Date → ℕ → Date
carried_at t n d k = cond (ltb k n) Early (date_product d (t (k - n)))

-- the later of s and of that sum
abbrev pub joined_at : (ℕ → Date) → (ℕ → Date) → ℕ → Date → ℕ → Date
joined_at s t n d k = later_of (s k) (carried_at t n d k)

-- r has the greatest sums of l and m whose first part is at one of the n places from p on, as far as it goes
abbrev pub ArePieceSums : List Date → List Date → List Date → ℕ → ℕ → Type 0
ArePieceSums r l m p n = r ≡ table (window (value_listed l) (value_listed m) p n) (length r)

-- r has the greatest sums of l and the first n values of m whose first part is at one of the first p places, as far as it goes
pub record IsPieceBegun (n : ℕ) (r l m : List Date) (p : ℕ) : Type 0 where
  pub fits : n ≤ length m
  pub sums : ArePieceSums r l (take n m) 0 p

-- of the m places from p on, n places move each by x
abbrev pub RepeatsIn : (ℕ → Date) → ℕ → ℕ → ℕ → ℤ → Type 0
RepeatsIn s p m n x = (i : ℕ) → i + n < m → s (p + (i + n)) ≡ move x (s (p + i))

-- the places of the piece, from p on, repeat by its size and its step
pub record IsPiece (s : ℕ → Date) (p : ℕ) (piece : Piece) : Type 0 where
  pub size : 0 < piece.size
  pub turns : 0 < piece.turns
  pub step : unsigned_abs piece.step ≤ 40002000000000000000000
  pub repeats : RepeatsIn s p (piece.size * piece.turns) piece.size piece.step

-- the places of the span are places of l, which has at most 20,000 values up to those that a list may have
pub record IsSpanOf (l : List Date) (span : Span) : Type 0 where
  pub fits : span.from + span.count ≤ length l
  pub short : length l ≤ 20000
  pub period : 0 < span.period
  pub values : AreUpTo greatest_value_ahead l
