-- Kleene's recursion, and what it is for: least solutions (chapter 4; chapter 3 for paths).
use Rattle.std.specs.Prelude.{◌≡◌, ℕ, zero, suc, ◌<◌, eqb, cond}
use Rattle.dioid.specs.DioidAxioms.{IsAtMost}
use Rattle.dioid.specs.declared.algebra.Dioid.{Ghosts as DioidOf}
use Rattle.dioid.specs.declared.algebra.Kleene.{Ghosts as KleeneOf}
use Rattle.dioid_matrix.specs.Sums.{dot}

-- one step, on the table r: the paths that also go through k
abbrev pub through : {M : Type 0} → DioidOf M → KleeneOf M → (ℕ → ℕ → M) → ℕ → ℕ → ℕ → M
through d s r k i j = d.sum (r i j) (d.product (r i k) (d.product (s.star (r k k)) (r k j)))

-- the table after the first k steps; step k + 1 goes through k
abbrev pub steps_of : {M : Type 0} → DioidOf M → KleeneOf M → (ℕ → ℕ → M) → ℕ → ℕ → ℕ → M
steps_of d s a zero = a
steps_of d s a (suc k) = through d s (steps_of d s a k) k

-- the last step: one is added to each entry of the diagonal
abbrev pub star_of : {M : Type 0} → DioidOf M → KleeneOf M → ℕ → (ℕ → ℕ → M) → ℕ → ℕ → M
star_of d s n a i j = cond (eqb i j) (d.sum (steps_of d s a n i j) d.one) (steps_of d s a n i j)

-- x is the least column of n elements with a x + b at most x, and so the least with a x + b equal to x
pub record IsLeastSolution {M : Type 0} (d : DioidOf M) (n : ℕ) (a : ℕ → ℕ → M) (b x : ℕ → M) : Type 0 where
  pub element : (i : ℕ) → i < n → d.is_element (x i)
  pub solves : (i : ℕ) → i < n → IsAtMost d.sum (d.sum (dot d n (a i) x) (b i)) (x i)
  pub equal : (i : ℕ) → i < n → d.sum (dot d n (a i) x) (b i) ≡ x i
  pub least : (y : ℕ → M) → ((i : ℕ) → d.is_element (y i))
      → ((i : ℕ) → i < n → IsAtMost d.sum (d.sum (dot d n (a i) y) (b i)) (y i))
      → (i : ℕ) → i < n → IsAtMost d.sum (x i) (y i)

-- the star of every square table of elements, of any size, has elements and gives the least solution for every column of
-- elements; no operand has to fit
abbrev pub StarsAreLeast : {M : Type 0} → DioidOf M → KleeneOf M → Type 0
StarsAreLeast {M} d s =
    (n : ℕ) (a : ℕ → ℕ → M) (b : ℕ → M) → ((i j : ℕ) → d.is_element (a i j)) → ((i : ℕ) → d.is_element (b i))
    → ((i j : ℕ) → d.is_element (star_of d s n a i j))
    × IsLeastSolution d n a b (λ i. dot d n (star_of d s n a i) b)
