-- How many ratios of limited time and tokens are at most one: a number that rises with it.
use Rattle.std.proofs.Common.{ℕ, zero, suc, ◌+◌, ◌*◌, ◌<◌, ◌≤◌, ◌≡◌, true, false, leb, cond, refl, ap, arith, ⊎_elim}
use Rattle.std.proofs.lemmas.Bool.{cases_lt, cases_Bool, cond-true, cond-false, leb-true, le-leb, lt-leb}
use Rattle.std.proofs.Math.Nat.{mul-le-mul_right, le_of_mul-le-mul_right}

-- the sum of f at 1 to n
abbrev pub tally : (ℕ → ℕ) → ℕ → ℕ
tally f zero = 0
tally f (suc n) = tally f n + f (suc n)

tally_most : (f : ℕ → ℕ) (most : ℕ) → ((i : ℕ) → f i ≤ most) → (n : ℕ) → tally f n ≤ n * most
tally_most f most h zero = omega arith
tally_most f most h (suc n) = let old = tally_most f most h n in let own = h (suc n) in let e : suc n * most ≡ n * most + most = grind arith in omega (arith, old, own, e)

tally_rises : (f g : ℕ → ℕ) → ((i : ℕ) → f i ≤ g i) → (n : ℕ) → tally f n ≤ tally g n
tally_rises f g h zero = omega arith
tally_rises f g h (suc n) = let old = tally_rises f g h n in let own = h (suc n) in omega (arith, old, own)

tally_more : (f g : ℕ → ℕ) → ((i : ℕ) → f i ≤ g i) → (j : ℕ) → 1 ≤ j → f j < g j → (n : ℕ) → j ≤ n → tally f n < tally g n
tally_more f g h j some less zero l = absurd (omega (arith, some, l))
tally_more f g h j some less (suc n) l = ⊎_elim
    (λ (q : j < suc n). let old = tally_more f g h j some less n (omega (arith, q)) in let own = h (suc n) in omega (arith, old, own))
    (λ (q : suc n ≤ j).
    let e : j ≡ suc n = omega (arith, q, l) in
    let old = tally_rises f g h n in
    let one : f j ≡ f (suc n) = ap f e in
    let two : g j ≡ g (suc n) = ap g e in
    omega (arith, old, less, one, two))
    (cases_lt j (suc n))

-- 1 where the ratio of s to m is at most that of t to k
abbrev pub counted : ℕ → ℕ → ℕ → ℕ → ℕ
counted t k m s = cond (leb (s * k) (t * m)) 1 0

-- how many of them there are, with times from 1 to top and tokens from 1 to most
abbrev pub ratios_up_to : ℕ → ℕ → ℕ → ℕ → ℕ
ratios_up_to top most t k = tally (λ m. tally (counted t k m) top) most

both_one : (a b : ℕ) → a ≡ 1 → b ≡ 1 → a ≤ b
both_one a b e f = omega (arith, e, f)

none_first : (a b : ℕ) → a ≡ 0 → a ≤ b
none_first a b e = omega (arith, e)

one_more : (a b : ℕ) → a ≡ 0 → b ≡ 1 → a < b
one_more a b e f = omega (arith, e, f)

next_le : (a b : ℕ) → a < b → a + 1 ≤ b
next_le a b l = omega (arith, l)

turned : (a m t : ℕ) → a ≤ m * (t * 1) → a ≤ t * m
turned a m t l = let e : m * (t * 1) ≡ t * m = grind arith in omega (arith, l, e)

counted_most : (t k m s : ℕ) → counted t k m s ≤ 1
counted_most t k m s = ⊎_elim
    (λ (e : leb (s * k) (t * m) ≡ true). both_one (counted t k m s) 1 (cond-true (leb (s * k) (t * m)) 1 0 e) refl)
    (λ (e : leb (s * k) (t * m) ≡ false). none_first (counted t k m s) 1 (cond-false (leb (s * k) (t * m)) 1 0 e))
    (cases_Bool (leb (s * k) (t * m)))

-- a ratio that is at most the lesser is at most the greater
at_most_both : (t k u l m s : ℕ) → 0 < k → t * l < u * k → s * k ≤ t * m → s * l ≤ u * m
at_most_both t k u l m s some less h =
    let one : s * k * l ≤ t * m * l = mul-le-mul_right l h in
    let two : t * l * m ≤ u * k * m = mul-le-mul_right m (let q : t * l ≤ u * k = omega (arith, less) in q) in
    let three : s * l * k ≤ u * m * k = omega (arith, one, two) in
    le_of_mul-le-mul_right three some

counted_rises : (t k u l : ℕ) → 0 < k → t * l < u * k → (m s : ℕ) → counted t k m s ≤ counted u l m s
counted_rises t k u l some less m s = ⊎_elim
    (λ (e : leb (s * k) (t * m) ≡ true).
    let there : leb (s * l) (u * m) ≡ true = le-leb (s * l) (u * m) (at_most_both t k u l m s some less (leb-true (s * k) (t * m) e)) in
    both_one (counted t k m s) (counted u l m s) (cond-true (leb (s * k) (t * m)) 1 0 e) (cond-true (leb (s * l) (u * m)) 1 0 there))
    (λ (e : leb (s * k) (t * m) ≡ false). none_first (counted t k m s) (counted u l m s) (cond-false (leb (s * k) (t * m)) 1 0 e))
    (cases_Bool (leb (s * k) (t * m)))

-- the greater ratio itself is not at most the lesser
counted_more : (t k u l : ℕ) → t * l < u * k → counted t k l u < counted u l l u
counted_more t k u l less =
    one_more (counted t k l u) (counted u l l u) (cond-false (leb (u * k) (t * l)) 1 0 (lt-leb (u * k) (t * l) less))
    (cond-true (leb (u * l) (u * l)) 1 0 (le-leb (u * l) (u * l) (omega arith)))

some_time : (t l u k : ℕ) → t * l < u * k → 1 ≤ u
some_time t l zero k less = absurd (omega (arith, less))
some_time t l (suc u) k less = omega arith

pub ratios_rise : (top most t k u l : ℕ) → 0 < k → 0 < l → l ≤ most → u ≤ top → t * l < u * k → ratios_up_to top most t k + 1 ≤ ratios_up_to top most u l
ratios_rise top most t k u l some one low high less =
    let inner : (m : ℕ) → tally (counted t k m) top ≤ tally (counted u l m) top = λ m. tally_rises (counted t k m) (counted u l m) (counted_rises t k u l some less m) top in
    let strict : tally (counted t k l) top < tally (counted u l l) top =
    tally_more (counted t k l) (counted u l l) (counted_rises t k u l some less l) u (some_time t l u k less) (counted_more t k u l less) top high in
    next_le (ratios_up_to top most t k) (ratios_up_to top most u l) (tally_more (λ m. tally (counted t k m) top) (λ m. tally (counted u l m) top) inner l one strict most low)

pub ratios_few : (top most t k : ℕ) → ratios_up_to top most t k ≤ top * most
ratios_few top most t k =
    let inner : (m : ℕ) → tally (counted t k m) top ≤ top * 1 = λ m. tally_most (counted t k m) 1 (counted_most t k m) top in
    turned (ratios_up_to top most t k) most top (tally_most (λ m. tally (counted t k m) top) (top * 1) inner most)
