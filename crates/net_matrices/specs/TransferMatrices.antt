-- The matrix of the transfers of a net, and why there is none (chapters 5 and 6).
use Rattle.std.specs.Prelude.{ℕ, ◌<◌, ◌≤◌, ◌≡◌, ◌-◌, length, ⊤}
use Rattle.dioid_matrix.specs.Tables.{Table, entry_of}
use Rattle.dioid_matrix.specs.Turns.{IsStar, StarRefused}
use Rattle.dioid_matrix.specs.declared.refusals.MatrixRefused.{MatrixRefused}
use Rattle.dioid_matrix.specs.declared.refusals.MatrixRefused.TheVariants.{Count, Shape, Range, OutOfMemory}
use Rattle.series_ops.specs.series_laws.SeriesForms.{value_at}
use Rattle.series_ops.specs.declared.gains.Gain.{Gain}
use Rattle.teg_net.specs.Nets.{NetLists}
use Rattle.teg_settle.specs.periodic_laws.Equations.{gains, gain_stars}
use Rattle.teg_settle.specs.walk_times.Transfers.{IsGreatestWalkTime}
use Rattle.net_matrices.specs.NetEntries.{IsMatrixOfNet}

-- a row and a column for each transition; the entry in row t and column i has the greatest times of walks from the first firing of i to
-- the firings of t, that of firing k at shift k - 1
pub record AreTransfers (net : NetLists) (s : Table Gain) : Type 0 where
  pub rows : s.rows ≡ length net.transitions
  pub columns : s.columns ≡ length net.transitions
  pub each : (i t k : ℕ) → i < length net.transitions → t < length net.transitions → 1 ≤ k
      → IsGreatestWalkTime net i t k (value_at (entry_of gains s t i).series (k - 1))

-- the star of the matrix of the net
pub record IsStarOfNet (net : NetLists) (s : Table Gain) : Type 0 where
  pub matrix : Table Gain
  pub is_matrix : IsMatrixOfNet net matrix
  pub is_star : IsStar gains gain_stars matrix s

-- the star of the matrix of the net is refused for this
pub record IsStarRefused (net : NetLists) (why : MatrixRefused) : Type 0 where
  pub matrix : Table Gain
  pub is_matrix : IsMatrixOfNet net matrix
  pub refused : StarRefused gains gain_stars matrix why

-- why there are no transfers: an operation of the recursion on the matrix of the net that does not fit; want of memory says nothing
abbrev pub IsWhyNoTransfers : NetLists → MatrixRefused → Type 0
IsWhyNoTransfers net (Count wanted given) = ⊥
IsWhyNoTransfers net (Shape left right) = ⊥
IsWhyNoTransfers net (Range step row column) = IsStarRefused net (Range step row column)
IsWhyNoTransfers net OutOfMemory = ⊤
