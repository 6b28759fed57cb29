-- The greatest of the numbers of a list, and of a number from which the search begins.
use Rattle.std.proofs.Common.{ℕ, ◌<◌, ◌≤◌, ◌≡◌, List, [], ◌∷◌, length, get_or, refl, arith, ⊎_elim}
use Rattle.std.specs.Prelude.{◌⊎◌, Any}

-- the greatest of the number and of f over the first elements
pub record IsMostUpTo {X : Type 0} (f : X → ℕ) (xs : List X) (start i most : ℕ) : Type 0 where
  pub few : i ≤ length xs
  pub least : start ≤ most
  pub attained : (most ≡ start) ⊎ Any (λ x. f x ≡ most) xs
  pub greatest : (k : ℕ) (d : X) → k < i → f (get_or xs k d) ≤ most

-- over a list that is not empty, from 0 on: it is that of some element
pub at_some : {X : Type 0} (f : X → ℕ) (xs : List X) (most : ℕ) → 0 < length xs → IsMostUpTo f xs 0 (length xs) most → Any (λ x. f x ≡ most) xs
at_some f [] most some h = absurd (omega arith)
at_some f (x ∷ xs) most some h =
    ⊎_elim
    (λ (e : most ≡ 0). let l = h.greatest 0 x some in (0, x, some, refl, (let is : f x ≡ most = omega arith in is)))
    (λ (a : Any (λ y. f y ≡ most) (x ∷ xs)). a)
    h.attained
