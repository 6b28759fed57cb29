-- Kleene's recursion on a matrix: which operands fit, and what `star` and `solve_least` answer.
use Rattle.std.specs.Prelude.{◌≡◌, ◌<◌, ◌+◌, ◌⊎◌, ◌≢◌, ℕ, eqb, IsTrue, Result, Ok, Err, ⊤}
use Rattle.dioid.specs.declared.algebra.Dioid.{Ghosts as DioidOf}
use Rattle.dioid.specs.declared.algebra.Kleene.{Ghosts as KleeneOf}
use Rattle.dioid_matrix.specs.Products.{IsProduct, ProductRefused}
use Rattle.dioid_matrix.specs.MatrixStars.{steps_of, star_of, IsLeastSolution}
use Rattle.dioid_matrix.specs.Sums.{dot}
use Rattle.dioid_matrix.specs.Tables.{Table, entry_of, IsTable, IsFirstMisfit}
use Rattle.dioid_matrix.specs.declared.refusals.MatrixRefused.{MatrixRefused}
use Rattle.dioid_matrix.specs.declared.refusals.MatrixRefused.TheVariants.{Count, Shape, Range, OutOfMemory}

module _ {M : Type 0} (d : DioidOf M) where
  -- the product of the way in with the loops fits, and so does its sum with the old entry
  abbrev pub WayFits : M → M → M → Type 0
  WayFits old into loops = d.product_fits into loops × d.sum_fits old (d.product into loops)

  -- the last step fits in row i and column j: one is added on the diagonal
  abbrev pub LastFits : (ℕ → ℕ → M) → ℕ → ℕ → Type 0
  LastFits r i j = IsTrue (eqb i j) → d.sum_fits (r i j) d.one

module _ {M : Type 0} (d : DioidOf M) (s : KleeneOf M) where
  -- the loops at `around`, after which the path goes on by `out`
  abbrev pub loop_of : M → M → M
  loop_of around out = d.product (s.star around) out

  -- the star of `around` and its product with `out` fit
  abbrev pub LoopFits : M → M → Type 0
  LoopFits around out = s.star_fits around × d.product_fits (s.star around) out

  -- step k + 1 fits in row i and column j of the table r: each of its four operations does
  abbrev pub EntryFits : (ℕ → ℕ → M) → ℕ → ℕ → ℕ → Type 0
  EntryFits r k i j = LoopFits (r k k) (r k j) × WayFits d (r i j) (r i k) (loop_of (r k k) (r k j))

  -- the first k steps fit in each entry of a square table of this size
  abbrev pub StepsFit : ℕ → (ℕ → ℕ → M) → ℕ → Type 0
  StepsFit size a k = (m i j : ℕ) → m < k → i < size → j < size → EntryFits (steps_of d s a m) m i j

  -- r is the star of a: it has the entries of the recursion, each operation of the recursion fits, and its product with
  -- each column of elements is the least solution
  pub record IsStar (a r : Table M) : Type 0 where
    pub square : a.columns ≡ a.rows
    pub rows : r.rows ≡ a.rows
    pub columns : r.columns ≡ a.rows
    pub table : IsTable d r
    pub entries : (i j : ℕ) → i < a.rows → j < a.rows → entry_of d r i j ≡ star_of d s a.rows (entry_of d a) i j
    pub least : (b : ℕ → M) → ((i : ℕ) → d.is_element (b i)) → IsLeastSolution d a.rows (entry_of d a) b (λ i. dot d a.rows (entry_of d r i) b)
    pub steps_fit : StepsFit a.rows (entry_of d a) a.rows
    pub last_fits : (i j : ℕ) → i < a.rows → j < a.rows → LastFits d (steps_of d s (entry_of d a) a.rows) i j

  -- why there is no star: Shape exactly where the matrix is not square, and Range at the first step that does not fit, and
  -- in it at the first entry by rows; steps count from 1, the last one adds one on the diagonal
  abbrev pub StarRefused : Table M → MatrixRefused → Type 0
  StarRefused a (Count wanted given) = ⊥
  StarRefused a (Shape left_columns right_rows) = (left_columns ≡ a.columns) × (right_rows ≡ a.rows) × (a.columns ≢ a.rows)
  StarRefused a (Range step row column) =
      (a.columns ≡ a.rows)
      × (((k : ℕ) × (k < a.rows) × (step ≡ k + 1) × StepsFit a.rows (entry_of d a) k × IsFirstMisfit a.rows a.rows (EntryFits (steps_of d s (entry_of d a) k) k) row column)
      ⊎ ((step ≡ a.rows + 1) × StepsFit a.rows (entry_of d a) a.rows × IsFirstMisfit a.rows a.rows (LastFits d (steps_of d s (entry_of d a) a.rows)) row column))
  StarRefused a OutOfMemory = ⊤

  -- the star of a matrix, or why there is none
  abbrev pub AnswersStar : Table M → Result (Table M) MatrixRefused → Type 0
  AnswersStar a (Ok r) = IsStar a r
  AnswersStar a (Err e) = StarRefused a e

  -- x is the product of the star of a with b, and each of its columns is the least solution for that column of b
  pub record IsSolved (a b x : Table M) : Type 0 where
    pub star : Table M
    pub is_star : IsStar a star
    pub product : IsProduct d star b x
    pub least : (j : ℕ) → j < b.columns → IsLeastSolution d a.rows (entry_of d a) (λ i. entry_of d b i j) (λ i. entry_of d x i j)

  -- the least solution for each column of b, or the refusal of the star, or else that of its product with b
  abbrev pub AnswersSolve : Table M → Table M → Result (Table M) MatrixRefused → Type 0
  AnswersSolve a b (Ok x) = IsSolved a b x
  AnswersSolve a b (Err e) = StarRefused a e ⊎ ((r : Table M) × IsStar a r × ProductRefused d r b e)
