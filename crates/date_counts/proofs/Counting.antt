-- Whole periods and the numbers of one of them count what comes up to a date.
use Rattle.std.proofs.Common.{ℕ, ℤ, pos, negsuc, ◌+◌, ◌-◌, ◌*◌, ◌<◌, ◌≤◌, ◌≡◌, ◌+ℤ◌, inl, inr, Option, Some, None, refl, sym, ap, subst, ◌∙◌, arith, ⊎_elim}
use Rattle.std.specs.Prelude.{◌*ℤ◌, ◌≤ℤ◌, ◌↔◌}
use Rattle.std.proofs.Math.Nat.{mul-le-mul_left}
use Rattle.std.proofs.Math.IntN.{*ℤ-zero, zero-*ℤ, *ℤ_comm, *ℤ-one}
use Rattle.std.proofs.lemmas.Bool.{cases_lt}
use Rattle.std.proofs.lemmas.Int.{ints}
use Rattle.dioid.specs.declared.dates.Date.{Date}
use Rattle.dioid.specs.declared.dates.Date.TheVariants.{Early, At, Never}
use Rattle.dioid.specs.Dates.{IsAtMostDate, move}
use Rattle.dioid.proofs.DateOrder.{at_most_trans}
use Rattle.dioid.proofs.Moves.{move_zero}
use Rattle.date_counts.specs.declared.counts.Rounds.{Rounds}
use Rattle.date_counts.specs.Counts.{IsCountOf, Rise, AreSteps, IsRounds}

-- a number that is not below 0
pub natural : (z : ℤ) → pos 0 ≤ℤ z → (m : ℕ) × (z ≡ pos m)
natural (pos m) h = (m, refl)
natural (negsuc m) h = absurd (omega (arith, ints, h))

-- a moved date comes by the limit just where the date comes by what is left
pub left_by : (a : Date) (x : ℤ) (rest limit : ℕ) → (pos rest +ℤ x) ≡ pos limit → IsAtMostDate (move x a) (At (pos limit)) ↔ IsAtMostDate a (At (pos rest))
left_by Early x rest limit e = (λ h. tt, λ h. tt)
left_by (At s) x rest limit e = (λ h. let g : s ≤ℤ pos rest = omega (arith, ints, h, e) in g, λ h. let g : (s +ℤ x) ≤ℤ pos limit = omega (arith, ints, h, e) in g)
left_by Never x rest limit e = (λ h. h, λ h. h)

-- the steps of a number are those of its date
pub steps_of_date : (last step : ℕ) (limit : ℕ) (o : Option Rounds) → AreSteps last step limit o → IsRounds (At (pos last)) (pos step) limit o
steps_of_date last step limit None h = (let e : pos last ≤ℤ pos limit = omega (arith, ints, h.0) in e, inr (ap pos h.1))
steps_of_date last step limit (Some r) h = (
  ⊎_elim
      (λ (e : r.count ≡ 0). inl e)
      (λ (l : last + r.count * step ≤ limit). inr (let e : (pos last +ℤ pos (r.count * step)) ≤ℤ pos limit = omega (arith, ints, l) in e))
      h.0,
  λ (g : (pos last +ℤ (pos (r.count + 1) *ℤ pos step)) ≤ℤ pos limit).
      let e : (pos last +ℤ pos ((r.count + 1) * step)) ≤ℤ pos limit = g in
      absurd (omega (arith, ints, e, h.1)),
  (let e : (pos r.rest +ℤ pos (r.count * step)) ≡ pos limit = omega (arith, ints, h.2) in e),
)

-- what does not fall by a step does not fall by an equal one
pub rises_at : (a b : Date) (x y : ℤ) → a ≡ b → x ≡ y → IsAtMostDate b (move y b) → IsAtMostDate a (move x a)
rises_at a b x y e f h = subst (λ (z : ℤ). IsAtMostDate a (move z a)) (sym f) (subst (λ (z : Date). IsAtMostDate z (move y z)) (sym e) h)

module _ (dates : ℕ → Date) (after period : ℕ) (step : ℤ) (one : 1 ≤ period) (rise : Rise dates)
    (again : (k j : ℕ) → after < k → dates (k + j * period) ≡ move (pos j *ℤ step) (dates k)) where
  abbrev end : ℕ
  end = after + period

  -- the step does not let the last date fall
  pub last_rises : IsAtMostDate (dates (after + period)) (move step (dates (after + period)))
  unfolding lib.IntN.one
  last_rises =
      let e : dates (after + period + 1 * period) ≡ move (pos 1 *ℤ step) (dates (after + period)) = again (after + period) 1 (omega arith) in
      let s : (pos 1 *ℤ step) ≡ step = *ℤ_comm (pos 1) step ∙ *ℤ-one step in
      rw s at (rw e at (rise (after + period) (after + period + 1 * period) (omega arith) (omega arith)))

  -- all dates come by the limit where the last one does and the steps do not move it
  pub endless : (d : ℕ) → IsRounds (dates (after + period)) step d None → (k : ℕ) → 1 ≤ k → IsAtMostDate (dates k) (At (pos d))
  endless d h k o =
      let wide : k * 1 ≤ k * period = mul-le-mul_left k one in
      let far : k ≤ end + k * period = omega arith in
      at_most_trans (dates k) (dates (end + k * period)) (At (pos d)) (rise k (end + k * period) o far)
      (rw (again end k (omega arith))
      (⊎_elim
      (λ (e : dates (after + period) ≡ Early). rw e tt)
      (λ (e : step ≡ pos 0).
      let still : (pos k *ℤ step) ≡ pos 0 = rw e (*ℤ-zero (pos k)) in
      rw (still, move_zero (dates (after + period))) h.0)
      h.1))

  module _ (d : ℕ) (r : Rounds) (h : IsRounds (dates (after + period)) step d (Some r)) where
    abbrev by : ℤ
    by = pos r.count *ℤ step

    -- the date of the number a period past the last one does not come by what the whole periods leave
    pub past_end : IsAtMostDate (dates (after + period + period)) (At (pos r.rest)) → ⊥
    past_end g =
        let moved : IsAtMostDate (move by (dates (end + period))) (At (pos d)) = (left_by (dates (end + period)) by r.rest d h.2).1 g in
        let is : (end + period) + r.count * period ≡ end + (r.count + 1) * period = grind arith in
        let here : dates ((end + period) + r.count * period) ≡ move by (dates (end + period)) = again (end + period) r.count (omega arith) in
        let there : dates (end + (r.count + 1) * period) ≡ move (pos (r.count + 1) *ℤ step) (dates end) = again end (r.count + 1) (omega arith) in
        h.1 (subst (λ (z : Date). IsAtMostDate z (At (pos d))) (sym here ∙ (ap dates is ∙ there)) moved)

    -- whole periods, and the numbers of one of them
    pub counted : (count : ℕ) → IsCountOf dates r.rest count → (k : ℕ) → 1 ≤ k → IsAtMostDate (dates k) (At (pos d)) ↔ (k ≤ r.count * period + count)
    counted count own k o = ⊎_elim
        (λ (l : after + r.count * period < k).
        let j : ℕ = k - r.count * period in
        let is : j + r.count * period ≡ k = omega arith in
        let there : dates k ≡ move by (dates j) = ap dates (sym is) ∙ again j r.count (omega arith) in
        let moved = left_by (dates j) by r.rest d h.2 in
        let here = own j (omega arith) in
        (λ g. let m : j ≤ count = here.0 (moved.0 (rw there at g)) in omega arith, λ m. rw there (moved.1 (here.1 (let e : j ≤ count = omega arith in e)))))
        (λ (l : k ≤ after + r.count * period).
        ⊎_elim
        (λ (e : r.count ≡ 0).
        let none : by ≡ pos 0 = rw e (zero-*ℤ step) in
        let sum : (pos r.rest +ℤ by) ≡ pos d = h.2 in
        let rest : r.rest ≡ d = omega (arith, ints, none, sum) in
        let few : r.count * period ≡ 0 = rw e (omega arith) in
        let here : IsAtMostDate (dates k) (At (pos d)) ↔ (k ≤ count) = rw rest at (own k o) in
        (λ g. let m : k ≤ count = here.0 g in omega arith, λ m. here.1 (let q : k ≤ count = omega arith in q)))
        (λ (late : IsAtMostDate (move by (dates (after + period))) (At (pos d))).
        let there : dates (end + r.count * period) ≡ move by (dates end) = again end r.count (omega arith) in
        let last : end ≤ count = (own end (omega arith)).0 ((left_by (dates end) by r.rest d h.2).0 late) in
        (λ g. omega arith, λ m. at_most_trans (dates k) (dates (end + r.count * period)) (At (pos d)) (rise k (end + r.count * period) o (omega arith)) (rw there late)))
        h.0)
        (cases_lt (after + r.count * period) k)
