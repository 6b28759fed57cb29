-- Products and sums of whole numbers.
use Rattle.std.proofs.Common.{ℕ, suc, ◌+◌, ◌-◌, ◌*◌, ◌≤◌, ◌≡◌, List, [], ◌∷◌, length, ap, ◌∙◌, arith}
use Rattle.std.specs.Prelude.{All, sum_by}
use Rattle.std.proofs.lemmas.List.Sums.{sum_by-cons}

pub sum_small : {X : Type 0} (f : X → ℕ) (m : ℕ) (xs : List X) → All (λ x. f x ≤ m) xs → sum_by f xs ≤ length xs * m
sum_small f m [] h = omega arith
sum_small f m (x ∷ xs) h =
    let one = sum_by-cons f x xs in
    let here = h 0 x (omega arith) in
    let rest = sum_small f m xs (λ i d l. h (suc i) d (omega arith)) in
    let wide : suc (length xs) * m ≡ m + length xs * m = grind arith in
    omega (arith, one, here, rest, wide)

pub times_add : (m a b : ℕ) → m * (a + b) ≡ m * a + m * b
times_add m a b = grind arith

pub times_le : (m a b : ℕ) → a ≤ b → m * a ≤ m * b
times_le m a b l =
    let is : b ≡ a + (b - a) = omega arith in
    let wide : m * b ≡ m * a + m * (b - a) = ap (λ z. m * z) is ∙ times_add m a (b - a) in
    omega (arith, wide)

pub le_times : (m a b : ℕ) → a ≤ b → a * m ≤ b * m
le_times m a b l =
    let one : a * m ≡ m * a = grind arith in
    let two : b * m ≡ m * b = grind arith in
    omega (arith, one, two, times_le m a b l)

one_more : (m a : ℕ) → (1 + m) * a ≡ a + m * a
one_more m a = grind arith

pub more_of : (m a : ℕ) → 1 ≤ m → m * a ≡ a + (m - 1) * a
more_of m a l =
    let is : m ≡ 1 + (m - 1) = omega arith in
    ap (λ z. z * a) is ∙ one_more (m - 1) a

pub at_least : (m a : ℕ) → 1 ≤ m → a ≤ m * a
at_least m a l = let wide = more_of m a l in omega (arith, wide)
