-- Dates that repeat by steps stay near a line, and the slope of a transition is one fraction.
use Rattle.std.proofs.Common.{ℕ, zero, suc, pos, negsuc, ◌+◌, ◌-◌, ◌*◌, ◌/◌, ◌%◌, ◌<◌, ◌≤◌, ◌≡◌, ◌≢◌, List, length, refl, sym, ap, ◌∙◌, arith, ⊎_elim}
use Rattle.std.specs.Prelude.{◌+ℤ◌, ◌*ℤ◌}
use Rattle.std.proofs.lemmas.Bool.{cases_lt}
use Rattle.std.proofs.lemmas.Int.{ints}
use Rattle.std.proofs.lemmas.Nat.{mod_below, div-add-mod'}
use Rattle.std.proofs.Math.Nat.{mul-le-mul_left, mul-le-mul_right}
use Rattle.periodic_laws.specs.dioid.declared.dates.Date.{Date}
use Rattle.periodic_laws.specs.dioid.declared.dates.Date.TheVariants.{Early, At, Never}
use Rattle.periodic_laws.specs.dioid.Dates.{IsAtMostDate, move}
use Rattle.periodic_laws.specs.teg_net.declared.entries.PlaceId.{PlaceId}
use Rattle.periodic_laws.specs.teg_net.declared.entries.Again.{Again}
use Rattle.periodic_laws.specs.teg_net.declared.entries.InputList.{InputList}
use Rattle.periodic_laws.specs.teg_net.Nets.{NetLists, HasEndsInRange, HasListsOfInputs, HasRisingLists, HasListsByRule}
use Rattle.periodic_laws.specs.teg_net.Circuits.{IsLive, time_of, tokens_of}
use Rattle.periodic_laws.specs.teg_model.Datings.{IsLeastDating, listed_releases}
use Rattle.periodic_laws.proofs.teg_model_proofs.Tokens.{not_before_zero}
use Rattle.periodic_laws.specs.RepeatNumbers.{repeats_past, repeats_in, repeats_by}
use Rattle.periodic_laws.specs.LinearSystem.{LeastDatingsRepeat}
use Rattle.slope_laws.specs.teg_loops.Loops.{IsCircuitTowards}
use Rattle.slope_laws.specs.Slopes.{IsGoingOnTowards, IsSlope, HasSlope}
use Rattle.slope_laws.proofs.FormSlopes.{forms_have_slopes}
use Rattle.slope_laws.proofs.Nevers.{nevers_come_from_ended_lists}
use Rattle.slope_laws.proofs.EndedLists.{rule_in, rule_of}
use Rattle.growth_laws.specs.Growth.{IsNearLine, GrowBy, IsEndless, DatesGrowBySlopes, SlopesExist, SlopesAreOne}

-- ---- one fraction

pub cancel : (a b k : ℕ) → 0 < k → a * k ≤ b * k → a ≤ b
cancel a b k p h = ⊎_elim
    (λ (l : b < a).
    let m : (b + 1) * k ≤ a * k = mul-le-mul_right k (let l : b + 1 ≤ a = omega arith in l) in
    let e : (b + 1) * k ≡ b * k + k = grind arith in
    absurd (omega (arith, h, p, m, e)))
    (λ (l : a ≤ b). l)
    (cases_lt b a)

-- a slope that something attains is at most one that nothing exceeds
no_more : (a b c d time units : ℕ) → 0 < units → a * units ≡ b * time → d * time ≤ c * units → a * d ≤ c * b
no_more a b c d time units some is most =
    let up : b * (d * time) ≤ b * (c * units) = mul-le-mul_left {m = d * time} {n = c * units} b most in
    let turned : a * d * units ≡ d * (a * units) = grind arith in
    let own : d * (a * units) ≡ d * (b * time) = ap (λ z. d * z) is in
    let back : d * (b * time) ≡ b * (d * time) = grind arith in
    let right : b * (c * units) ≡ c * b * units = grind arith in
    cancel (a * d) (c * b) units some (omega (arith, up, turned, own, back, right))

some_tokens : (net : NetLists) → IsLive net → (t : ℕ) (ps : List PlaceId) → IsCircuitTowards net t ps → 0 < tokens_of net ps
some_tokens net live t ps w = ⊎_elim
    (λ (l : 0 < tokens_of net ps). l)
    (λ (l : tokens_of net ps ≤ 0). absurd (live ps w.circuit (omega (arith, l))))
    (cases_lt 0 (tokens_of net ps))

-- each list of a net that goes on repeats some of its dates
pub lists_repeat : (net : NetLists) → HasListsByRule net → (t : ℕ) (l : InputList) (again : Again) → IsGoingOnTowards net t l again → 1 ≤ again.every
lists_repeat net rules t l again w = (rule_of l.dates l.again again w.goes_on (rule_in net l rules w.of_net)).some

at_most : (net : NetLists) → IsLive net → (t a b c d : ℕ) → ((l : InputList) (again : Again) → IsGoingOnTowards net t l again → 1 ≤ again.every)
    → IsSlope net t b a → IsSlope net t d c → a * d ≤ c * b
at_most net live t a b c d some h k =
    ⊎_elim
    (λ (e : a ≡ 0). let none : a * d ≡ 0 = rw e (omega arith) in omega (arith, none))
    (λ other. ⊎_elim
    (λ (w : (ps : List PlaceId) × IsCircuitTowards net t ps × (a * tokens_of net ps ≡ b * time_of net ps)).
    no_more a b c d (time_of net w.0) (tokens_of net w.0) (some_tokens net live t w.0 w.1) w.2 (k.circuits w.0 w.1))
    (λ (w : (l : InputList) × (again : Again) × IsGoingOnTowards net t l again × (a * again.every ≡ b * again.gap)).
    no_more a b c d w.1.gap w.1.every (some w.0 w.1 w.2) w.3 (k.lists w.0 w.1 w.2))
    other)
    h.attained

pub slopes_are_one : SlopesAreOne
slopes_are_one net live t a b c d some one two h k =
    let up = at_most net live t a b c d some h k in
    let down = at_most net live t c d a b some k h in
    omega (arith, up, down)

-- ---- numbers that repeat by steps

-- a bound of the first n values
pub bound : (m : ℕ → ℕ) (n : ℕ) → (k : ℕ) × ((t : ℕ) → t < n → m t ≤ k)
bound m zero = (0, λ t l. absurd (omega arith))
bound m (suc n) =
    let w = bound m n in (
      w.0 + m n,
      λ t l. ⊎_elim (λ (q : t < n). let h = w.1 t q in omega (arith, h)) (λ (q : n ≤ t). let e : t ≡ n = omega (arith, l, q) in let f : m t ≡ m n = ap m e in omega (arith, f)) (cases_lt t n),
    )

-- a number past `after` is one of the first period past it, some periods on
pub record IsSomePeriodsOn (after period k : ℕ) : Type 0 where
  pub base : ℕ
  pub rounds : ℕ
  pub within : base ≤ after + period
  pub above : after < base
  pub is : k ≡ base + rounds * period

pub periods_on : (after period k : ℕ) → 1 ≤ period → after < k → IsSomePeriodsOn after period k
periods_on after period k some l =
    let rest : ℕ = (k - after - 1) % period in
    let low : rest < period = mod_below (k - after - 1) period some in
    let e = div-add-mod' (k - after - 1) period in
    record {
      base = after + 1 + rest;
      rounds = (k - after - 1) / period;
      within = omega (arith, low);
      above = omega arith;
      is = omega (arith, e, l);
    }

module _ (m : ℕ → ℕ) (after period units : ℕ) (some : 1 ≤ period) (again : (k : ℕ) → after < k → m (k + period) ≡ m k + units) where
  pub on : (rounds base : ℕ) → after < base → m (base + rounds * period) ≡ m base + rounds * units
  on zero base l =
      let is : base + 0 * period ≡ base = omega arith in
      let none : m base + 0 * units ≡ m base = omega arith in
      ap m is ∙ sym none
  on (suc rounds) base l =
      let rest = on rounds base l in
      let is : base + suc rounds * period ≡ (base + rounds * period) + period = grind arith in
      let more : (m base + rounds * units) + units ≡ m base + suc rounds * units = grind arith in
      ap m is ∙ again (base + rounds * period) (omega (arith, l)) ∙ ap (λ z. z + units) rest ∙ more

  abbrev pub most : ℕ
  most = (bound m (after + period + 1)).0

  first_below : (k : ℕ) → k ≤ after + period → m k ≤ most
  first_below k l = (bound m (after + period + 1)).1 k (omega (arith, l))

  -- period times a number stays near units times its index
  pub near : (k : ℕ) → (units * k ≤ period * m k + units * (after + period)) × (period * m k ≤ units * k + period * most)
  near k = ⊎_elim
      (λ (past : after < k).
      let p : IsSomePeriodsOn after period k = periods_on after period k some past in
      let value : m k ≡ m p.base + p.rounds * units = ap m p.is ∙ on p.rounds p.base p.above in
      let left : units * k ≡ units * p.base + units * (p.rounds * period) =
      (let e : units * (p.base + p.rounds * period) ≡ units * p.base + units * (p.rounds * period) = grind arith in ap (λ z. units * z) p.is ∙ e) in
      let right : period * m k ≡ period * m p.base + units * (p.rounds * period) =
      (let e : period * (m p.base + p.rounds * units) ≡ period * m p.base + units * (p.rounds * period) = grind arith in ap (λ z. period * z) value ∙ e) in
      let low : units * p.base ≤ units * (after + period) = mul-le-mul_left {m = p.base} {n = after + period} units p.within in
      let high : period * m p.base ≤ period * most = mul-le-mul_left {m = m p.base} {n = most} period (first_below p.base p.within) in
      (omega (arith, left, right, low), omega (arith, left, right, high)))
      (λ (not : k ≤ after).
      let low : units * k ≤ units * (after + period) = mul-le-mul_left {m = k} {n = after + period} units (omega (arith, not)) in
      let high : period * m k ≤ period * most = mul-le-mul_left {m = m k} {n = most} period (first_below k (omega (arith, not))) in
      (omega (arith, low), omega (arith, high)))
      (cases_lt after k)

-- and so b times it near a times its index, where a / b is the same fraction
same_line : (a b units period value k low high : ℕ) → 1 ≤ period → a * period ≡ units * b → units * k ≤ period * value + low → period * value ≤ units * k + high
    → (a * k ≤ b * value + b * low) × (b * value ≤ a * k + b * high)
same_line a b units period value k low high some same down up =
    let one : b * (units * k) ≤ b * (period * value + low) = mul-le-mul_left {m = units * k} {n = period * value + low} b down in
    let two : b * (period * value) ≤ b * (units * k + high) = mul-le-mul_left {m = period * value} {n = units * k + high} b up in
    let turned : a * k * period ≡ k * (a * period) = grind arith in
    let own : k * (a * period) ≡ k * (units * b) = ap (λ z. k * z) same in
    let back : k * (units * b) ≡ b * (units * k) = grind arith in
    let line : a * k * period ≡ b * (units * k) = turned ∙ own ∙ back in
    let dates : b * value * period ≡ b * (period * value) = grind arith in
    let spread_one : b * (period * value + low) ≡ b * (period * value) + b * low = grind arith in
    let spread_two : b * (units * k + high) ≡ b * (units * k) + b * high = grind arith in
    let wide_low : b * low ≤ b * low * period = at_least_itself (b * low) period some in
    let wide_high : b * high ≤ b * high * period = at_least_itself (b * high) period some in
    let sum_low : (b * value + b * low) * period ≡ b * value * period + b * low * period = grind arith in
    let sum_high : (a * k + b * high) * period ≡ a * k * period + b * high * period = grind arith in (
      cancel (a * k) (b * value + b * low) period some (omega (arith, one, line, dates, spread_one, wide_low, sum_low)),
      cancel (b * value) (a * k + b * high) period some (omega (arith, two, line, dates, spread_two, wide_high, sum_high)),
    ) where
      at_least_itself : (n p : ℕ) → 1 ≤ p → n ≤ n * p
      at_least_itself n p l =
          let is : p ≡ suc (p - 1) = omega (arith, l) in
          let wide : n * suc (p - 1) ≡ n + n * (p - 1) = grind arith in
          let same : n * p ≡ n * suc (p - 1) = ap (λ z. n * z) is in
          omega (arith, wide, same)

-- ---- dates

-- a date from 0 on that is not Never is a number
number_from : (d : Date) → IsAtMostDate (At (pos 0)) d → d ≢ Never → (a : ℕ) × (d ≡ At (pos a))
number_from Early l n = absurd l
number_from (At (pos a)) l n = (a, refl)
number_from (At (negsuc a)) l n = absurd (omega (arith, ints, l))
number_from Never l n = absurd (n refl)

pub times_pos : (n x : ℕ) → (pos n *ℤ pos x) ≡ pos (n * x)
times_pos zero x = let e : 0 * x ≡ 0 = omega arith in rw e (omega (arith, ints))
times_pos (suc n) x = let rest = times_pos n x in let e : suc n * x ≡ n * x + x = grind arith in rw e (omega (arith, ints, rest))

-- the number of a date
abbrev pub unit : Date → ℕ
unit Early = 0
unit (At (pos a)) = a
unit (At (negsuc a)) = 0
unit Never = 0

near_line : (a b c d k value : ℕ) (date : Date) → date ≡ At (pos value) → a * k ≤ b * value + c → b * value ≤ a * k + d → IsNearLine a b c d k date
near_line a b c d k value date e low high =
    let is = times_pos b value in
    rw e (omega (arith, ints, is, low), omega (arith, ints, is, high))

module _ (repeat : LeastDatingsRepeat) (net : NetLists) (ends : HasEndsInRange net) (inputs : HasListsOfInputs net) (rise : HasRisingLists net) (rules : HasListsByRule net)
    (live : IsLive net) (x : ℕ → ℕ → Date) (least : IsLeastDating net x) (t : ℕ) (in' : t < length net.transitions) (endless : IsEndless net t) where
  abbrev after : ℕ
  after = repeats_past net

  abbrev period : ℕ
  period = repeats_in net

  again : (k : ℕ) → after < k → x t (k + period) ≡ move (repeats_by net t) (x t k)
  again k l = (repeat net ends rise rules live x least).again t k in' l

  some : 1 ≤ period
  some = (repeat net ends rise rules live x least).at_least_one

  number : (k : ℕ) → 1 ≤ k → (a : ℕ) × (x t k ≡ At (pos a))
  number k one = number_from (x t k) (not_before_zero net (listed_releases net) x least.feasible t k in' one)
      (λ e. let w = (nevers_come_from_ended_lists net ends inputs rules live x least t in').ended k one e in endless w.0 w.1)

  -- the dates rise by a whole number of units in each period, and this is the slope
  pub slope_of : (units : ℕ) × (repeats_by net t ≡ pos units) × IsSlope net t period units
  slope_of =
      let h : HasSlope net (x t) t after period (repeats_by net t) = forms_have_slopes net ends inputs rules live x least t after period (repeats_by net t) in' some again in
      h.slope (λ tail. let w = h.never.0 tail in endless w.0 w.1)

  abbrev values : ℕ → ℕ
  values k = unit (x t k)

  pub is_number : (k : ℕ) → 1 ≤ k → x t k ≡ At (pos (values k))
  is_number k one = let w = number k one in let e : values k ≡ w.0 = ap unit w.1 in w.1 ∙ ap (λ z. At (pos z)) (sym e)

  pub on_by : (k : ℕ) → after < k → values (k + period) ≡ values k + slope_of.0
  on_by k l =
      let one : 1 ≤ k = omega (arith, l) in
      let is = is_number k one in
      let next : x t (k + period) ≡ At (pos (values k) +ℤ pos slope_of.0) = again k l ∙ ap (λ z. move z (x t k)) slope_of.1 ∙ ap (move (pos slope_of.0)) is in
      ap unit (next ∙ ap At (let e : (pos (values k) +ℤ pos slope_of.0) ≡ pos (values k + slope_of.0) = omega (arith, ints) in e))

  pub grow_by : (a b : ℕ) → 1 ≤ b → IsSlope net t b a → GrowBy (x t) a b
  grow_by a b one h =
      let units : ℕ = slope_of.0 in
      let same : a * period ≡ units * b = slopes_are_one net live t a b units period (lists_repeat net rules t) one some h slope_of.2 in
      record {
        below = b * (units * (after + period));
        above = b * (period * most values after period units some on_by);
        near = λ k from_one.
            let w = near values after period units some on_by k in
            let line = same_line a b units period (values k) k (units * (after + period)) (period * most values after period units some on_by) some same w.0 w.1 in
            near_line a b (b * (units * (after + period))) (b * (period * most values after period units some on_by)) k (values k) (x t k) (is_number k from_one) line.0 line.1;
      }

pub dates_grow : LeastDatingsRepeat → DatesGrowBySlopes
dates_grow repeat net ends inputs rise rules live x least t in' endless a b one h = grow_by repeat net ends inputs rise rules live x least t in' endless a b one h

pub slopes_exist : LeastDatingsRepeat → SlopesExist
slopes_exist repeat net ends inputs rise rules live x least t in' endless =
    let w = slope_of repeat net ends inputs rise rules live x least t in' endless in
    (w.0, repeats_in net, (repeat net ends rise rules live x least).at_least_one, w.2)
