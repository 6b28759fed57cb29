-- Delays that are given, and releases: the running greatest of planned dates with their delays.
use Rattle.std.proofs.Common.{ℕ, ◌+◌, ◌-◌, ◌*◌, ◌≤◌, ◌≡◌, List, [], ◌∷◌, true, false, eqb, ◌&&◌, get_or, refl, ap, ◌∙◌, arith, ⊎_elim, inl, inr}
use Rattle.std.specs.Prelude.{All, ◌⊎◌}
use Rattle.std.proofs.lemmas.Bool.{cases_Bool}
use Rattle.std.proofs.lemmas.Bool.Decides.{nat_tests}
use Rattle.std.proofs.lemmas.List.Elements.{All-tail}
use Rattle.std.proofs.Math.Nat.{mul-le-mul_left}
use Rattle.delay_laws.specs.declared.table.Delay.{Delay}
use Rattle.delay_laws.specs.declared.table.Timetable.{Timetable}
use Rattle.delay_laws.specs.PlannedTimetables.{planned, delay_in, delay_given, AreDelaysUpTo, IsPastDelays}

-- the tests of a row
is_row : (d : Delay) (i s : ℕ) → (((eqb d.transition.index i && eqb d.number s) ≡ true) × (d.transition.index ≡ i) × (d.number ≡ s)) ⊎ ((eqb d.transition.index i && eqb d.number s) ≡ false)
is_row d i s =
    ⊎_elim
    (λ (a : eqb d.transition.index i ≡ true). ⊎_elim
    (λ (b : eqb d.number s ≡ true). inl (rw (a, b) refl, grind (arith, nat_tests), grind (arith, nat_tests)))
    (λ (b : eqb d.number s ≡ false). inr (rw (a, b) refl))
    (cases_Bool (eqb d.number s)))
    (λ (a : eqb d.transition.index i ≡ false). inr (rw a refl))
    (cases_Bool (eqb d.transition.index i))

-- the delay of a departure is 0 or that of a row of it
pub delay_in_by : (ds : List Delay) (i s : ℕ) (P : ℕ → Type 0) → P 0 → All (λ d. d.transition.index ≡ i → d.number ≡ s → P d.by) ds → P (delay_in ds i s)
delay_in_by [] i s P none all = none
delay_in_by (d ∷ ds) i s P none all =
    ⊎_elim
    (λ (a : ((eqb d.transition.index i && eqb d.number s) ≡ true) × (d.transition.index ≡ i) × (d.number ≡ s)).
    rw a.0 (all 0 d (omega arith) a.1 a.2))
    (λ (a : (eqb d.transition.index i && eqb d.number s) ≡ false).
    rw a (delay_in_by ds i s P none (All-tail (λ c. c.transition.index ≡ i → c.number ≡ s → P c.by) d ds all)))
    (is_row d i s)

-- no delay is above the greatest
pub given_most : (t : Timetable) (most i s : ℕ) → AreDelaysUpTo most t → delay_given t i s ≤ most
given_most t most i s h = delay_in_by t.delays.items i s (λ (z : ℕ). z ≤ most) (omega arith) (λ k d l a b. h k d l)

-- a multiple of a number from 1 on is that of the number before and one more
pub one_more : (a k : ℕ) → 1 ≤ k → a * k ≡ a * (k - 1) + a
one_more a k o =
    let e : k ≡ (k - 1) + 1 = omega arith in
    let distributes : (n : ℕ) → a * (n + 1) ≡ a * n + a = λ n. grind arith in
    ap (λ (z : ℕ). a * z) e ∙ distributes (k - 1)

-- the plan never falls
pub planned_rises : (period : ℕ) (t : Timetable) (i j k : ℕ) → j ≤ k → planned period t i j ≤ planned period t i k
planned_rises period t i j k l = let e : period * (j - 1) ≤ period * (k - 1) = mul-le-mul_left {m = j - 1} {n = k - 1} period (omega arith) in omega arith

-- a delay that is past lets the plan be
pub past_fits : (period : ℕ) (t : Timetable) (i s k : ℕ) → 1 ≤ s → s ≤ k → IsPastDelays period t i k → planned period t i s + delay_given t i s ≤ planned period t i k
past_fits period t i s k o l h =
    let rises = planned_rises period t i s k l in
    let P : ℕ → Type 0 = λ z. planned period t i s + z ≤ planned period t i k in
    delay_in_by t.delays.items i s P (omega arith)
    (λ n d m a b.
    let late : period * (get_or t.delays.items n d).number + (get_or t.delays.items n d).by ≤ period * k = h n d m a in
    let here : period * s + (get_or t.delays.items n d).by ≤ period * k = rw b at late in
    let one = one_more period s o in
    let two = one_more period k (omega arith) in
    omega arith)
