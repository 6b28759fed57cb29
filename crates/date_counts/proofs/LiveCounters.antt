-- Dates that never fall and go on by steps have a count to each date, and counts tell dates.
use Rattle.std.proofs.Common.{ℕ, ℤ, zero, suc, pos, negsuc, ◌+◌, ◌-◌, ◌*◌, ◌<◌, ◌≤◌, ◌≡◌, ◌+ℤ◌, ◌⊎◌, inl, inr, Option, Some, None, length, refl, arith, ⊎_elim}
use Rattle.std.specs.Prelude.{◌*ℤ◌, ◌≤ℤ◌}
use Rattle.std.proofs.Math.Nat.{mul-le-mul_left}
use Rattle.std.proofs.lemmas.Bool.{cases_lt}
use Rattle.std.proofs.lemmas.Int.{ints}
use Rattle.dioid.specs.declared.dates.Date.{Date}
use Rattle.dioid.specs.declared.dates.Date.TheVariants.{Early, At, Never}
use Rattle.dioid.specs.Dates.{IsAtMostDate, move}
use Rattle.dioid.proofs.DateOrder.{never_last, same_by_at_most}
use Rattle.teg_net.specs.Nets.{NetLists}
use Rattle.teg_model.specs.Datings.{IsLeastDating}
use Rattle.teg_model.proofs.Tokens.{not_before_zero}
use Rattle.settled_laws.specs.SettledForms.{RepeatsAfter}
use Rattle.settled_laws.proofs.Telling.{rounds_on}
use Rattle.periodic_laws.specs.LinearSystem.{LeastDatingsRepeat}
use Rattle.dating_laws.proofs.SlowerNets.{climb}
use Rattle.counter_laws.specs.Counters.{AreCounters}
use Rattle.counter_laws.proofs.Counting.{by_then, count_below}
use Rattle.date_counts.specs.Counts.{IsCountUpTo, Rise}
use Rattle.date_counts.specs.LiveCounters.{CountersOfLiveNetsExist, CountersTellDates}
use Rattle.date_counts.proofs.Counting.{natural, last_rises, endless}

module _ (dates : ℕ → Date) (after period : ℕ) (step : ℤ) (one : 1 ≤ period) (rise : Rise dates)
    (again : (k j : ℕ) → after < k → dates (k + j * period) ≡ move (pos j *ℤ step) (dates k)) (zero_on : (k : ℕ) → 1 ≤ k → IsAtMostDate (At (pos 0)) (dates k)) where
  -- one of them comes later, or all come by then
  abbrev LateOrAll : ℕ → Type 0
  LateOrAll d = ((k : ℕ) × (1 ≤ k) × (IsAtMostDate (dates k) (At (pos d)) → ⊥)) ⊎ ((k : ℕ) → 1 ≤ k → IsAtMostDate (dates k) (At (pos d)))

  -- by steps of one or more some date comes later
  later_on : (d s : ℕ) (z : ℤ) → dates (after + period) ≡ At z → pos 0 ≤ℤ z → step ≡ pos (suc s) → IsAtMostDate (dates (after + period + (d + 1) * period)) (At (pos d)) → ⊥
  later_on d s z e low up h =
      let there : dates (after + period + (d + 1) * period) ≡ move (pos (d + 1) *ℤ step) (dates (after + period)) = again (after + period) (d + 1) (omega arith) in
      let moved : (z +ℤ (pos (d + 1) *ℤ pos (suc s))) ≤ℤ pos d = rw (there, e, up) at h in
      let many : (z +ℤ pos ((d + 1) * suc s)) ≤ℤ pos d = moved in
      let wide : (d + 1) * 1 ≤ (d + 1) * suc s = mul-le-mul_left (d + 1) (omega arith) in
      omega (arith, ints, many, wide, low)

  by_step : (d m : ℕ) (z : ℤ) → dates (after + period) ≡ At z → pos 0 ≤ℤ z → step ≡ pos m → IsAtMostDate (dates (after + period)) (At (pos d)) → LateOrAll d
  by_step d zero z e low up by = inr (endless dates after period step one rise again d (by, inr up))
  by_step d (suc s) z e low up by = inl (after + period + (d + 1) * period, omega arith, later_on d s z e low up)

  by_last : (d : ℕ) (a : Date) → dates (after + period) ≡ a → IsAtMostDate (dates (after + period)) (At (pos d)) → LateOrAll d
  by_last d Early e by = inr (endless dates after period step one rise again d (by, inl e))
  by_last d (At z) e by =
      let up : z ≤ℤ (z +ℤ step) = rw e at (last_rises dates after period step one rise again) in
      let low : pos 0 ≤ℤ z = rw e at (zero_on (after + period) (omega arith)) in
      let s = natural step (omega (arith, ints, up)) in
      by_step d s.0 z e low s.1 by
  by_last d Never e by = absurd (rw e at by)

  late_or_all : (d : ℕ) → LateOrAll d
  late_or_all d = ⊎_elim
      (λ (by : IsAtMostDate (dates (after + period)) (At (pos d))). by_last d (dates (after + period)) refl by)
      (λ (late : IsAtMostDate (dates (after + period)) (At (pos d)) → ⊥). inl (after + period, omega arith, late))
      (by_then (dates (after + period)) d)

  pub count_to : (d : ℕ) → (o : Option ℕ) × IsCountUpTo dates d o
  count_to d = ⊎_elim
      (λ (w : (k : ℕ) × (1 ≤ k) × (IsAtMostDate (dates k) (At (pos d)) → ⊥)).
      let m = count_below dates d rise w.0 w.1 w.2 in
      let found : (o : Option ℕ) × IsCountUpTo dates d o = (Some m.0, m.1) in
      found)
      (λ (all : (k : ℕ) → 1 ≤ k → IsAtMostDate (dates k) (At (pos d))).
      let found : (o : Option ℕ) × IsCountUpTo dates d o = (None, λ k o. (λ g. tt, λ u. all k o)) in
      found)
      (late_or_all d)

module _ (net : NetLists) (x : ℕ → ℕ → Date) (least : IsLeastDating net x) (after period : ℕ) (step : ℕ → ℤ) (h : RepeatsAfter (length net.transitions) x after period step) where
  counted : (t d : ℕ) → t < length net.transitions → (o : Option ℕ) × IsCountUpTo (x t) d o
  counted t d l = count_to (x t) after period (step t) h.at_least_one
      (λ j k o m. let e : j + (k - j) ≡ k = omega (arith, m) in rw e at (climb net _ x least.feasible t j l o (k - j)))
      (λ k j m. rounds_on (length net.transitions) x after period step h t k j l m)
      (λ k o. not_before_zero net _ x least.feasible t k l o)
      d

  count_if : (t d : ℕ) → (t < length net.transitions) ⊎ (length net.transitions ≤ t) → Option ℕ
  count_if t d (inl l) = (counted t d l).0
  count_if t d (inr l) = None

  is_count : (t d : ℕ) (s : (t < length net.transitions) ⊎ (length net.transitions ≤ t)) → t < length net.transitions → IsCountUpTo (x t) d (count_if t d s)
  unfolding count_if
  is_count t d (inl l) in' k o = (counted t d l).1 k o
  is_count t d (inr l) in' k o = absurd (omega (arith, l, in'))

  pub counters : (c : ℕ → ℕ → Option ℕ) × AreCounters net x c
  counters = (λ t d. count_if t d (cases_lt t (length net.transitions)), λ t l d k o. is_count t d (cases_lt t (length net.transitions)) l k o)

pub counters_of_live : LeastDatingsRepeat → CountersOfLiveNetsExist
counters_of_live repeat net x ends rise rules live least = counters net x least _ _ _ (repeat net ends rise rules live x least)

-- where each date by which b comes is one by which a comes, a is at most b
below : (a b : Date) → IsAtMostDate (At (pos 0)) b → ((d : ℕ) → IsAtMostDate b (At (pos d)) → IsAtMostDate a (At (pos d))) → IsAtMostDate a b
below a Early z h = absurd z
below a (At (pos m)) z h = h m (let e : pos m ≤ℤ pos m = omega (arith, ints) in e)
below a (At (negsuc m)) z h = absurd (let e : pos 0 ≤ℤ negsuc m = z in omega (arith, ints, e))
below a Never z h = never_last a

pub counters_tell : CountersTellDates
counters_tell net x y c a b t k l o u v = same_by_at_most (x t k) (y t k)
    (below (x t k) (y t k) v (λ d g. (a t l d k o).1 ((b t l d k o).0 g)))
    (below (y t k) (x t k) u (λ d g. (b t l d k o).1 ((a t l d k o).0 g)))
