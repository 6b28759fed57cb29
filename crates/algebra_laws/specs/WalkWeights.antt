-- Weights of walks in a square matrix of dates, and that its star has the greatest (chapter 3).
use Rattle.std.specs.Prelude.{ℕ, pos, ◌<◌, ◌≡◌, List, [], ◌∷◌, All, false, ⊤}
use Rattle.dioid.specs.declared.dates.Date.{Date}
use Rattle.dioid.specs.declared.dates.Date.TheVariants.{Early, At}
use Rattle.dioid.specs.declared.algebra.Dioid.{Ghosts as DioidOf}
use Rattle.dioid.specs.declared.algebra.Kleene.{Ghosts as KleeneOf}
use Rattle.dioid.specs.Dates.{IsAtMostDate, later_of, date_product, date_star, DateProductFits}
use Rattle.dioid_matrix.specs.MatrixStars.{star_of}

-- dates as a dioid
abbrev pub dates : DioidOf Date
dates = record {
  TAKES_MEMORY = false;
  is_element = λ _. ⊤;
  zero = Early;
  one = At (pos 0);
  sum = later_of;
  product = date_product;
  sum_fits = λ _ _. ⊤;
  product_fits = DateProductFits;
}

-- the star of dates
abbrev pub date_stars : KleeneOf Date
date_stars = record { star = date_star; star_fits = λ _. ⊤ }

-- the weight of the walk from row i by these rows to column j, in one step more than there are rows between
abbrev pub walk_weight : (ℕ → ℕ → Date) → ℕ → List ℕ → ℕ → Date
walk_weight a i [] j = a i j
walk_weight a i (k ∷ ks) j = date_product (a i k) (walk_weight a k ks j)

-- each walk from i to j by the first n rows weighs at most z, that without a step, which weighs 0, among them
pub record BoundsWalks (n : ℕ) (a : ℕ → ℕ → Date) (i j : ℕ) (z : Date) : Type 0 where
  pub walks : (ks : List ℕ) → All (λ k. k < n) ks → IsAtMostDate (walk_weight a i ks j) z
  pub still : i ≡ j → IsAtMostDate (At (pos 0)) z

-- the entry bounds the walks, and each bound is at least it
pub record HasGreatestWeights (n : ℕ) (a : ℕ → ℕ → Date) (i j : ℕ) (entry : Date) : Type 0 where
  pub bounds : BoundsWalks n a i j entry
  pub least : (z : Date) → BoundsWalks n a i j z → IsAtMostDate entry z

-- the entries of the star have the greatest weights
abbrev pub StarsHaveGreatestWeights : Type 0
StarsHaveGreatestWeights = (n : ℕ) (a : ℕ → ℕ → Date) (i j : ℕ) → i < n → j < n → HasGreatestWeights n a i j (star_of dates date_stars n a i j)
