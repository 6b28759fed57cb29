-- Powers of a square matrix (chapter 4).
use Rattle.std.specs.Prelude.{◌≡◌, ◌≢◌, ◌<◌, ℕ, Result, Ok, Err, ⊤}
use Rattle.dioid.specs.declared.algebra.Dioid.{Ghosts as DioidOf}
use Rattle.dioid_matrix.specs.Products.{CellFits, StepFits}
use Rattle.dioid_matrix.specs.Tables.{Table, entry_of, IsFirstMisfit, StopsAt}
use Rattle.dioid_spectra.specs.MadeMatrices.{HasEntries, power_of}
use Rattle.dioid_spectra.specs.declared.powers.PowerRefused.{PowerRefused}
use Rattle.dioid_spectra.specs.declared.powers.PowerRefused.TheVariants.{NotSquare, Range, OutOfMemory}

module _ {M : Type 0} (d : DioidOf M) (a : Table M) where
  -- the entry in row i and column j of the n-th power of the table
  abbrev pub entry_of_power : ℕ → ℕ → ℕ → M
  entry_of_power n i j = power_of d a.rows (entry_of d a) n i j

  -- each entry of the n-th power times the table fits
  abbrev pub NextFits : ℕ → Type 0
  NextFits n = (i j : ℕ) → i < a.rows → j < a.columns → CellFits d a.columns (entry_of_power n) (entry_of d a) i j

  -- the n-th power of a square table, each product on the way to which fits
  pub record IsPower (n : ℕ) (t : Table M) : Type 0 where
    pub entries : HasEntries d a.rows a.columns (entry_of_power n) t
    pub fit : (m : ℕ) → m < n → NextFits m

  -- the power with this exponent is the first whose product with the table does not fit: at this entry by rows, and at this middle index
  pub record IsFirstMisfitOfPower (n before step row column : ℕ) : Type 0 where
    pub within : before < n
    pub fit : (m : ℕ) → m < before → NextFits m
    pub entry : IsFirstMisfit a.rows a.columns (CellFits d a.columns (entry_of_power before) (entry_of d a)) row column
    pub stops : StopsAt a.columns (StepFits d (entry_of_power before row) (λ k. entry_of d a k column)) step

  -- why there is no n-th power; want of memory says nothing
  abbrev pub IsWhyNoPower : ℕ → PowerRefused → Type 0
  IsWhyNoPower n NotSquare = a.rows ≢ a.columns
  IsWhyNoPower n (Range before step row column) = IsFirstMisfitOfPower n before step row column
  IsWhyNoPower n OutOfMemory = ⊤

  -- the power, or why there is none
  abbrev pub AnswersPower : ℕ → Result (Table M) PowerRefused → Type 0
  AnswersPower n (Ok t) = (a.rows ≡ a.columns) × IsPower n t
  AnswersPower n (Err e) = IsWhyNoPower n e
