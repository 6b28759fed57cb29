-- Lists that are sorted by a strict order and have the same elements are equal.
use Rattle.std.proofs.Common.{◌≡◌, zero, suc, ◌⊎◌, ⊎_elim, inl, inr, List, [], ◌∷◌, refl, sym, subst, arith}
use Rattle.std.specs.Prelude.{All, AllPairs, Contains}

head_before : {A : Type 0} (Before : A → A → Type 0) (x : A) (xs : List A) → AllPairs Before (x ∷ xs) → All (Before x) xs
head_before Before x xs h = λ k d lt. h 0 (suc k) d (omega arith) (omega arith)

tail_sorted : {A : Type 0} (Before : A → A → Type 0) (x : A) (xs : List A) → AllPairs Before (x ∷ xs) → AllPairs Before xs
tail_sorted Before x xs h = λ i j d lt in_xs. h (suc i) (suc j) d (omega arith) (omega arith)

in_cons : {A : Type 0} (x z : A) (xs : List A) → Contains (x ∷ xs) z → (x ≡ z) ⊎ Contains xs z
in_cons x z xs (zero, lt, is) = inl is
in_cons x z xs (suc k, lt, is) = inr (k, omega arith, is)

here : {A : Type 0} (x : A) (xs : List A) → Contains (x ∷ xs) x
here x xs = (0, omega arith, refl)

there : {A : Type 0} (x z : A) (xs : List A) → Contains xs z → Contains (x ∷ xs) z
there x z xs h = (suc h.0, omega (arith, h.1), h.2)

-- what holds of each element holds of one that the list contains
pub of_contained : {A : Type 0} (P : A → Type 0) (xs : List A) (z : A) → All P xs → Contains xs z → P z
of_contained P xs z h k = subst P k.2 (h k.0 z k.1)

nothing_in : {A : Type 0} (z : A) → Contains [] z → ⊥
nothing_in z h = omega (arith, h.1)

module _ {A : Type 0} (Before : A → A → Type 0) (strict : (x : A) → Before x x → ⊥) (joined : (x y z : A) → Before x y → Before y z → Before x z) where
  first_same : (x y : A) (xs ys : List A) → AllPairs Before (x ∷ xs) → AllPairs Before (y ∷ ys) → Contains (y ∷ ys) x → Contains (x ∷ xs) y → x ≡ y
  first_same x y xs ys hx hy kx ky =
      ⊎_elim (λ (e : y ≡ x). sym e)
      (λ (later : Contains ys x). ⊎_elim (λ (e : x ≡ y). e)
      (λ (after : Contains xs y).
      absurd (strict x (joined x y x (of_contained (Before x) xs y (head_before Before x xs hx) after) (of_contained (Before y) ys x (head_before Before y ys hy) later))))
      (in_cons x y xs ky)) (in_cons y x ys kx)

  -- what is behind the first of the one is behind the same first of the other
  behind : (x z : A) (xs ys : List A) → AllPairs Before (x ∷ xs) → Contains xs z → Contains (x ∷ ys) z → Contains ys z
  behind x z xs ys hx k c =
      ⊎_elim (λ (e : x ≡ z). absurd (strict x (of_contained (Before x) xs x (head_before Before x xs hx) (subst (Contains xs) (sym e) k)))) (λ (later : Contains ys z). later) (in_cons x z ys c)

  pub sorted_same : (xs ys : List A) → AllPairs Before xs → AllPairs Before ys → ((z : A) → Contains xs z → Contains ys z) → ((z : A) → Contains ys z → Contains xs z) → xs ≡ ys
  sorted_same [] [] hx hy f g = refl
  sorted_same [] (y ∷ ys) hx hy f g = absurd (nothing_in y (g y (here y ys)))
  sorted_same (x ∷ xs) [] hx hy f g = absurd (nothing_in x (f x (here x xs)))
  sorted_same (x ∷ xs) (y ∷ ys) hx hy f g =
      let first : x ≡ y = first_same x y xs ys hx hy (f x (here x xs)) (g y (here y ys)) in
      let hy' : AllPairs Before (x ∷ ys) = subst (λ (w : A). AllPairs Before (w ∷ ys)) (sym first) hy in
      let rest : xs ≡ ys = sorted_same xs ys (tail_sorted Before x xs hx) (tail_sorted Before y ys hy)
      (λ z k. behind x z xs ys hx k (subst (λ (w : A). Contains (w ∷ ys) z) (sym first) (f z (there x z xs k))))
      (λ z k. behind x z ys xs hy' k (g z (there y z ys k))) in
      cc
