-- The matrix of a net over periodic series (chapters 5 and 6): shift k of a series stands for firing k + 1.
use Rattle.std.specs.Prelude.{ℕ, ◌<◌, ◌≡◌, length}
use Rattle.dioid_matrix.specs.Tables.{Table, entry_of}
use Rattle.series_ops.specs.series_laws.SeriesForms.{value_at}
use Rattle.series_ops.specs.declared.gains.Gain.{Gain}
use Rattle.series_ops.specs.Gains.{IsCanonicalGain}
use Rattle.teg_net.specs.Nets.{NetLists}
use Rattle.teg_settle.specs.periodic_laws.Equations.{gains, entry_at}

-- series for each two transitions: in row i and column j the latest, at each shift, of what the places from j to i ask for,
-- each its holding time from its number of tokens on, and Early where there is none
pub record AreEntriesOfNet (net : NetLists) (entries : ℕ → ℕ → Gain) : Type 0 where
  pub elements : (i j : ℕ) → IsCanonicalGain (entries i j)
  pub values : (i j k : ℕ) → i < length net.transitions → j < length net.transitions → value_at (entries i j).series k ≡ entry_at net.places i j k

-- a row and a column for each transition, and these entries
pub record IsMatrixOfNet (net : NetLists) (a : Table Gain) : Type 0 where
  pub rows : a.rows ≡ length net.transitions
  pub columns : a.columns ≡ length net.transitions
  pub entries : AreEntriesOfNet net (entry_of gains a)
