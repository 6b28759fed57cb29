-- Square matrices over a dioid, as functions of row and column (chapter 4).
use Rattle.std.specs.Prelude.{◌≡◌, ◌≤◌, ◌⊎◌, ℕ, eqb, ltb, cond, true, ⊤}
use Rattle.dioid.specs.DioidAxioms.{IsClosed, DioidLaws, StarLaws, ResidualLaws}
use Rattle.dioid.specs.declared.algebra.Dioid.{Ghosts as DioidOf}
use Rattle.dioid.specs.declared.algebra.Kleene.{Ghosts as KleeneOf}
use Rattle.dioid.specs.declared.algebra.Residuated.{Ghosts as ResiduatedOf}
use Rattle.dioid_matrix.specs.Sums.{dot}
use Rattle.dioid_matrix.specs.MatrixStars.{star_of}
use Rattle.dioid_matrix.specs.Residuals.{residual_of}

-- each entry is an element, and those outside the first n rows and columns are zero
pub record IsSquare {M : Type 0} (d : DioidOf M) (n : ℕ) (a : ℕ → ℕ → M) : Type 0 where
  pub elements : (i j : ℕ) → d.is_element (a i j)
  pub outside : (i j : ℕ) → (n ≤ i) ⊎ (n ≤ j) → a i j ≡ d.zero

-- f in the first n rows and columns, and zero outside
abbrev pub cut : {M : Type 0} → DioidOf M → ℕ → (ℕ → ℕ → M) → ℕ → ℕ → M
cut d n f i j = cond (ltb i n) (cond (ltb j n) (f i j) d.zero) d.zero

-- zero everywhere
abbrev pub square_zero : {M : Type 0} → DioidOf M → ℕ → ℕ → M
square_zero d i j = d.zero

-- one on the diagonal
abbrev pub square_one : {M : Type 0} → DioidOf M → ℕ → ℕ → ℕ → M
square_one d n = cut d n (λ i j. cond (eqb i j) d.one d.zero)

-- the sums of the entries
abbrev pub square_sum : {M : Type 0} → DioidOf M → (ℕ → ℕ → M) → (ℕ → ℕ → M) → ℕ → ℕ → M
square_sum d a b i j = d.sum (a i j) (b i j)

-- the products of rows and columns
abbrev pub square_product : {M : Type 0} → DioidOf M → ℕ → (ℕ → ℕ → M) → (ℕ → ℕ → M) → ℕ → ℕ → M
square_product d n a b i k = dot d n (a i) (λ j. b j k)

-- the star by Kleene's recursion
abbrev pub square_star : {M : Type 0} → DioidOf M → KleeneOf M → ℕ → (ℕ → ℕ → M) → ℕ → ℕ → M
square_star d s n a = cut d n (star_of d s n a)

-- the residual: the meets over the rows
abbrev pub square_left : {M : Type 0} → DioidOf M → ResiduatedOf M → ℕ → (ℕ → ℕ → M) → (ℕ → ℕ → M) → ℕ → ℕ → M
square_left d l n a b = cut d n (residual_of d l n a b)

-- the meets of the entries
abbrev pub square_meet : {M : Type 0} → DioidOf M → ResiduatedOf M → ℕ → (ℕ → ℕ → M) → (ℕ → ℕ → M) → ℕ → ℕ → M
square_meet d l n a b = cut d n (λ i j. l.meet (a i j) (b i j))

-- the square matrices of n rows are closed under sum and product, and obey the laws of a dioid
pub record SquaresAreDioid {M : Type 0} (d : DioidOf M) (n : ℕ) : Type 0 where
  pub closed : IsClosed (IsSquare d n) (square_zero d) (square_one d n) (square_sum d) (square_product d n)
  pub laws : DioidLaws (IsSquare d n) (square_zero d) (square_one d n) (square_sum d) (square_product d n)

-- the square matrices of n rows have stars
abbrev pub SquaresHaveStars : {M : Type 0} → DioidOf M → KleeneOf M → ℕ → Type 0
SquaresHaveStars d s n = StarLaws (IsSquare d n) (square_sum d) (square_product d n) (square_star d s n)

-- the square matrices of n rows have residuals and meets
abbrev pub SquaresHaveResiduals : {M : Type 0} → DioidOf M → ResiduatedOf M → ℕ → Type 0
SquaresHaveResiduals d l n = ResidualLaws (IsSquare d n) (square_sum d) (square_product d n) (square_left d l n) (square_meet d l n)

-- the square matrices of n rows as a dioid in which each two operands fit
abbrev pub square_dioid : {M : Type 0} → DioidOf M → ℕ → DioidOf (ℕ → ℕ → M)
square_dioid d n = record {
  TAKES_MEMORY = true;
  is_element = IsSquare d n;
  zero = square_zero d;
  one = square_one d n;
  sum = square_sum d;
  product = square_product d n;
  sum_fits = λ _ _. ⊤;
  product_fits = λ _ _. ⊤;
}

-- their stars
abbrev pub square_stars : {M : Type 0} → DioidOf M → KleeneOf M → ℕ → KleeneOf (ℕ → ℕ → M)
square_stars d s n = record { star = square_star d s n; star_fits = λ _. ⊤ }

-- their residuals and meets
abbrev pub square_residuals : {M : Type 0} → DioidOf M → ResiduatedOf M → ℕ → ResiduatedOf (ℕ → ℕ → M)
square_residuals d l n = record { left = square_left d l n; meet = square_meet d l n; left_fits = λ _ _. ⊤; meet_fits = λ _ _. ⊤ }
