-- Stars and residuals on the right, of dioids whose products commute and of square matrices over them (chapter 4).
use Rattle.std.specs.Prelude.{◌≡◌, ◌↔◌, ℕ}
use Rattle.dioid.specs.DioidAxioms.{IsAtMost}
use Rattle.dioid.specs.declared.algebra.Dioid.{Ghosts as DioidOf}
use Rattle.dioid.specs.declared.algebra.Kleene.{Ghosts as KleeneOf}
use Rattle.dioid.specs.declared.algebra.Residuated.{Ghosts as ResiduatedOf}
use Rattle.dioid_laws.specs.SquareMatrices.{square_left}

-- a star and its element may change about; and the product of b with the star is the least x with x a + b at most x
pub record RightStarLaws {M : Type 0} (d : DioidOf M) (s : KleeneOf M) : Type 0 where
  pub turns : (a : M) → d.is_element a → d.product a (s.star a) ≡ d.product (s.star a) a
  pub solves : (a b : M) → d.is_element a → d.is_element b → IsAtMost d.sum (d.sum (d.product (d.product b (s.star a)) a) b) (d.product b (s.star a))
  pub least : (a b x : M) → d.is_element a → d.is_element b → d.is_element x → IsAtMost d.sum (d.sum (d.product x a) b) x → IsAtMost d.sum (d.product b (s.star a)) x

-- `right a b` is b / a, the greatest x with x a at most b; b / (a c) is (b / c) / a; and what is divided on both sides may be
-- divided on either one first
pub record RightResidualLaws {M : Type 0} (d : DioidOf M) (l : ResiduatedOf M) (right : M → M → M) : Type 0 where
  pub right_is : (a b : M) → d.is_element a → d.is_element b → d.is_element (right a b)
  pub galois : (x a b : M) → d.is_element x → d.is_element a → d.is_element b → IsAtMost d.sum (d.product x a) b ↔ IsAtMost d.sum x (right a b)
  pub by_product : (a b c : M) → d.is_element a → d.is_element b → d.is_element c → right (d.product a c) b ≡ right a (right c b)
  pub both_sides : (a b c : M) → d.is_element a → d.is_element b → d.is_element c → right c (l.left a b) ≡ l.left a (right c b)

-- rows and columns changed about
abbrev pub square_turned : {M : Type 0} → (ℕ → ℕ → M) → ℕ → ℕ → M
square_turned a i j = a j i

-- the right residual: that on the left, of the matrices with rows and columns changed about
abbrev pub square_right : {M : Type 0} → DioidOf M → ResiduatedOf M → ℕ → (ℕ → ℕ → M) → (ℕ → ℕ → M) → ℕ → ℕ → M
square_right d l n a b = square_turned (square_left d l n (square_turned a) (square_turned b))
