-- Numbers that repeat and rise by at least a rate rise by it, and lines under and over numbers.
use Rattle.std.proofs.Common.{ℕ, zero, suc, ◌+◌, ◌-◌, ◌*◌, ◌<◌, ◌≤◌, ◌≡◌, sym, ap, ◌∙◌, arith, ⊎_elim}
use Rattle.std.proofs.lemmas.Bool.{cases_lt}
use Rattle.std.proofs.Math.Nat.{mul-le-mul_left}
use Rattle.growth_laws.proofs.Growth.{cancel, on}

-- what stays below without end does not rise faster
pub outgrown : (m n d : ℕ) → ((j : ℕ) → j * m ≤ d + j * n) → m ≤ n
outgrown m n d h = ⊎_elim
    (λ (l : n < m).
    let all = h (d + 1) in
    let more : (d + 1) * (n + 1) ≤ (d + 1) * m = mul-le-mul_left {m = n + 1} {n = m} (d + 1) (omega (arith, l)) in
    let spread : (d + 1) * (n + 1) ≡ (d + 1) * n + (d + 1) = grind arith in
    absurd (omega (arith, all, more, spread)))
    (λ (l : m ≤ n). l)
    (cases_lt n m)

pub same_of : (b m n : ℕ) → 1 ≤ b → b * m ≡ b * n → m ≡ n
same_of b m n some e =
    let left : m * b ≡ b * m = grind arith in
    let right : n * b ≡ b * n = grind arith in
    let up = cancel m n b some (omega (arith, e, left, right)) in
    let down = cancel n m b some (omega (arith, e, left, right)) in
    omega (arith, up, down)

module _ (v : ℕ → ℕ) (a b P K U L far : ℕ) (some_b : 1 ≤ b) (some : 1 ≤ P) (same : a * P ≡ U * b) (again : (k : ℕ) → K < k → v (k + P) ≡ v k + U) (beyond : K ≤ far)
    (rises : (k : ℕ) → far < k → b * v k + a * L ≤ b * v (k + L)) where
  rises_on : (i k : ℕ) → far < k → b * v k + i * (a * L) ≤ b * v (k + i * L)
  rises_on zero k past = let is : k + 0 * L ≡ k = omega arith in let e : v (k + 0 * L) ≡ v k = ap v is in omega (arith, ap (λ z. b * z) e)
  rises_on (suc i) k past =
      let rest = rises_on i (k + L) (omega (arith, past)) in
      let here = rises k past in
      let is : k + suc i * L ≡ (k + L) + i * L = grind arith in
      let e : b * v (k + suc i * L) ≡ b * v ((k + L) + i * L) = ap (λ z. b * v z) is in
      let more : suc i * (a * L) ≡ a * L + i * (a * L) = grind arith in
      omega (arith, rest, here, e, more)

  -- and not more, since they repeat
  just : (k : ℕ) → far < k → b * v (k + L) ≡ b * v k + a * L
  just k past =
      let low = rises k past in
      let rest = rises_on (P - 1) (k + L) (omega (arith, past)) in
      let is : (k + L) + (P - 1) * L ≡ k + L * P =
      (let e : P ≡ suc (P - 1) = omega (arith, some) in let f : L * P ≡ L * suc (P - 1) =
      ap (λ z. L * z) e in let g : (k + L) + (P - 1) * L ≡ k + L * suc (P - 1) = grind arith in g ∙ ap (λ z. k + z) (sym f)) in
      let there : b * v ((k + L) + (P - 1) * L) ≡ b * v (k + L * P) = ap (λ z. b * v z) is in
      let periods : v (k + L * P) ≡ v k + L * U = on v K P U some again L k (omega (arith, past, beyond)) in
      let date : b * v (k + L * P) ≡ b * (v k + L * U) = ap (λ z. b * z) periods in
      let spread : b * (v k + L * U) ≡ b * v k + L * (U * b) = grind arith in
      let own : L * (U * b) ≡ L * (a * P) = ap (λ z. L * z) (sym same) in
      let turned : L * (a * P) ≡ (P - 1) * (a * L) + a * L =
      (let e : P ≡ suc (P - 1) = omega (arith, some) in ap (λ z. L * (a * z)) e
      ∙ (let g : L * (a * suc (P - 1)) ≡ (P - 1) * (a * L) + a * L = grind arith in g)) in
      omega (arith, low, rest, there, date, spread, own, turned)

  step : ℕ
  step = v ((far + 1) + L) - v (far + 1)

  step_is : b * step ≡ a * L
  unfolding step
  step_is =
      let e = just (far + 1) (omega arith) in
      let m : ℕ = v (far + 1) in
      let n : ℕ = v ((far + 1) + L) in
      let low : m ≤ n = cancel m n b some_b (let f : m * b ≡ b * m = grind arith in let g : n * b ≡ b * n = grind arith in omega (arith, e, f, g)) in
      let is : n ≡ m + (n - m) = omega (arith, low) in
      let spread : b * (m + (n - m)) ≡ b * m + b * (n - m) = grind arith in
      let whole : b * n ≡ b * (m + (n - m)) = ap (λ z. b * z) is in
      omega (arith, e, spread, whole)

  goes_on : (k : ℕ) → far < k → v (k + L) ≡ v k + step
  goes_on k past =
      let e = just k past in
      let f = step_is in
      let spread : b * (v k + step) ≡ b * v k + b * step = grind arith in
      same_of b (v (k + L)) (v k + step) some_b (omega (arith, e, f, spread))

  pub rise_by : (s : ℕ) × (b * s ≡ a * L) × ((k : ℕ) → far < k → v (k + L) ≡ v k + s)
  rise_by = (step, step_is, goes_on)
