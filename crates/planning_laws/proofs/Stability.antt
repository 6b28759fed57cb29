-- Lines of one slope stay within a number of each other, and lines of two slopes do not.
use Rattle.std.proofs.Common.{ℕ, ◌+◌, ◌*◌, ◌<◌, ◌≤◌, ◌≡◌, ◌++◌, [], ◌∷◌, length, refl, ap, arith, ⊎_elim}
use Rattle.std.specs.Prelude.{pos, negsuc}
use Rattle.std.proofs.lemmas.Bool.{cases_lt}
use Rattle.std.proofs.lemmas.Int.{ints}
use Rattle.std.proofs.Math.Nat.{mul-le-mul, mul-le-mul_left, mul-le-mul_right}
use Rattle.teg_model.specs.dioid.declared.dates.Date.{Date}
use Rattle.teg_model.specs.dioid.declared.dates.Date.TheVariants.{Early, At, Never}
use Rattle.teg_model.specs.dioid.Dates.{IsAtMostDate, delayed}
use Rattle.teg_model.specs.teg_net.declared.entries.PlaceId.{PlaceId}
use Rattle.teg_model.specs.teg_net.declared.entries.Place.{Place}
use Rattle.teg_model.specs.teg_net.Nets.{NetLists}
use Rattle.teg_model.specs.teg_net.Circuits.{no_place, place_at, from_of}
use Rattle.teg_model.specs.teg_net.Parts.{to_of}
use Rattle.teg_model.proofs.teg_net_proofs.PathLaws.{IsPathBetween-append}
use Rattle.teg_model.specs.Datings.{initial_date, listed_releases, system_of, IsFeasibleUnder}
use Rattle.teg_model.proofs.DateFunctions.{Dating}
use Rattle.teg_model.proofs.OfNet.{feasible_in}
use Rattle.teg_model.proofs.Tokens.{not_before_zero}
use Rattle.teg_model.proofs.WalkSteps.{feasible_keeps_in}
use Rattle.growth_laws.specs.Growth.{IsNearLine, GrowBy, IsEndless, DatesGrowBySlopes}
use Rattle.growth_laws.proofs.Growth.{cancel, times_pos}
use Rattle.planning_laws.specs.Stability.{HasBoundedWaits, HasBoundedStock, WaitsLonger, AreWaitsBySlopes, WaitsAreBoundedByEqualSlopes}

-- ---- numbers near lines

-- a greater rise passes a lead at the number after it
far : (q p e : ℕ) → q < p → p * (e + 1) ≤ q * (e + 1) + e → ⊥
far q p e less h =
    let more : (q + 1) * (e + 1) ≤ p * (e + 1) = mul-le-mul_right (e + 1) (let l : q + 1 ≤ p = omega (arith, less) in l) in
    let is : (q + 1) * (e + 1) ≡ q * (e + 1) + (e + 1) = grind arith in
    absurd (omega (arith, h, more, is))

-- a line that stays at most so much over another does not rise more
no_more : (p q e : ℕ) → ((k : ℕ) → 1 ≤ k → p * k ≤ q * k + e) → p ≤ q
no_more p q e h = ⊎_elim
    (λ (l : q < p). absurd (far q p e l (h (e + 1) (omega arith))))
    (λ (l : p ≤ q). l)
    (cases_lt q p)

-- a number of times that stays so much over as many times is no more over by itself
by_one : (n x y e : ℕ) → 1 ≤ n → n * y ≤ n * x + e → y ≤ x + e
by_one n x y e some h =
    let wide : 1 * e ≤ n * e = mul-le-mul_right e some in
    let one : 1 * e ≡ e = omega arith in
    let all : (x + e) * n ≡ n * x + n * e = grind arith in
    let own : y * n ≡ n * y = grind arith in
    cancel y (x + e) n some (omega (arith, h, wide, one, all, own))

-- a number near the line of rise a / b, at k
pub record IsNumberNear (a b low high k : ℕ) (date : Date) : Type 0 where
  pub value : ℕ
  pub is : date ≡ At (pos value)
  pub below : a * k ≤ b * value + low
  pub above : b * value ≤ a * k + high

number_near : (a b low high k : ℕ) (date : Date) → IsAtMostDate (At (pos 0)) date → IsNearLine a b low high k date → IsNumberNear a b low high k date
number_near a b low high k Early from near = absurd near
number_near a b low high k (At (pos n)) from near =
    let e = times_pos b n in
    let l = near.0 in
    let m = near.1 in
    record { value = n; is = refl; below = omega (arith, ints, e, l); above = omega (arith, ints, e, m) }
number_near a b low high k (At (negsuc n)) from near = absurd (omega (arith, ints, from))
number_near a b low high k Never from near = absurd near

number_before : (h x y : ℕ) (d e : Date) → d ≡ At (pos x) → e ≡ At (pos y) → IsAtMostDate (delayed h d) e → x + h ≤ y
number_before h x y d e is is' l =
    let at : IsAtMostDate (delayed h (At (pos x))) (At (pos y)) = rw (is, is') at l in
    omega (arith, ints, at)

number_after : (h x y : ℕ) (d e : Date) → d ≡ At (pos x) → e ≡ At (pos y) → y ≤ x + h → IsAtMostDate e (delayed h d)
number_after h x y d e is is' l = rw (is, is') (let at : IsAtMostDate (At (pos y)) (delayed h (At (pos x))) = omega (arith, ints, l) in at)

-- ---- one firing of the start, and that of the end which takes its token

module _ (a b c d c1 d1 c2 d2 m k x y : ℕ) (below : a * k ≤ b * x + c1) (above : b * x ≤ a * k + d1) (below' : c * (k + m) ≤ d * y + c2) (above' : d * y ≤ c * (k + m) + d2) where
  -- the end is at most so much over, where the slopes are one
  over : a * d ≡ c * b → 1 ≤ b → 1 ≤ d → y ≤ x + (b * (c * m) + b * d2 + d * c1)
  over same some some' =
      let one : b * (d * y) ≤ b * (c * (k + m) + d2) = mul-le-mul_left {m = d * y} {n = c * (k + m) + d2} b above' in
      let two : d * (a * k) ≤ d * (b * x + c1) = mul-le-mul_left {m = a * k} {n = b * x + c1} d below in
      let spread : b * (c * (k + m) + d2) ≡ c * b * k + (b * (c * m) + b * d2) = grind arith in
      let spread' : d * (b * x + c1) ≡ b * d * x + d * c1 = grind arith in
      let left : b * (d * y) ≡ b * d * y = grind arith in
      let turned : d * (a * k) ≡ a * d * k = grind arith in
      let line : a * d * k ≡ c * b * k = ap (λ n. n * k) same in
      let product : 1 * d ≤ b * d = mul-le-mul_right d some in
      let own : 1 * d ≡ d = omega arith in
      by_one (b * d) x y (b * (c * m) + b * d2 + d * c1) (omega (arith, product, own, some')) (omega (arith, one, two, spread, spread', left, turned, line))

  -- the line of the start is at most so much over that of the end, which comes after it
  start_over : x ≤ y → a * d * k ≤ c * b * k + (b * (c * m) + b * d2 + d * c1)
  start_over up =
      let one : b * (d * y) ≤ b * (c * (k + m) + d2) = mul-le-mul_left {m = d * y} {n = c * (k + m) + d2} b above' in
      let two : d * (a * k) ≤ d * (b * x + c1) = mul-le-mul_left {m = a * k} {n = b * x + c1} d below in
      let spread : b * (c * (k + m) + d2) ≡ c * b * k + (b * (c * m) + b * d2) = grind arith in
      let spread' : d * (b * x + c1) ≡ b * d * x + d * c1 = grind arith in
      let left : b * (d * y) ≡ b * d * y = grind arith in
      let turned : d * (a * k) ≡ a * d * k = grind arith in
      let dates : b * d * x ≤ b * d * y = mul-le-mul_left {m = x} {n = y} (b * d) up in
      omega (arith, one, two, spread, spread', left, turned, dates)

  -- and the other way, where the waits are bounded
  end_over : (h : ℕ) → y ≤ x + h → c * b * k ≤ a * d * k + (b * d * h + b * c2 + d * d1)
  end_over h up =
      let one : b * (c * (k + m)) ≤ b * (d * y + c2) = mul-le-mul_left {m = c * (k + m)} {n = d * y + c2} b below' in
      let two : d * (b * x) ≤ d * (a * k + d1) = mul-le-mul_left {m = b * x} {n = a * k + d1} d above in
      let spread : b * (c * (k + m)) ≡ c * b * k + b * (c * m) = grind arith in
      let spread' : d * (a * k + d1) ≡ a * d * k + d * d1 = grind arith in
      let right : b * (d * y + c2) ≡ b * d * y + b * c2 = grind arith in
      let left : d * (b * x) ≡ b * d * x = grind arith in
      let dates : b * d * y ≤ b * d * (x + h) = mul-le-mul_left {m = y} {n = x + h} (b * d) up in
      let wide : b * d * (x + h) ≡ b * d * x + b * d * h = grind arith in
      omega (arith, one, two, spread, spread', right, left, dates, wide)

-- the same where the tokens that wait are bounded
stock_over : (a b c d d1 c2 m k n h x y : ℕ) → b * x ≤ a * (k + n) + d1 → c * (k + m) ≤ d * y + c2 → y ≤ x + h → c * b * k ≤ a * d * k + (a * d * n + (b * d * h + b * c2 + d * d1))
stock_over a b c d d1 c2 m k n h x y above below' up =
    let one : b * (c * (k + m)) ≤ b * (d * y + c2) = mul-le-mul_left {m = c * (k + m)} {n = d * y + c2} b below' in
    let two : d * (b * x) ≤ d * (a * (k + n) + d1) = mul-le-mul_left {m = b * x} {n = a * (k + n) + d1} d above in
    let spread : b * (c * (k + m)) ≡ c * b * k + b * (c * m) = grind arith in
    let spread' : d * (a * (k + n) + d1) ≡ a * d * k + a * d * n + d * d1 = grind arith in
    let right : b * (d * y + c2) ≡ b * d * y + b * c2 = grind arith in
    let left : d * (b * x) ≡ b * d * x = grind arith in
    let dates : b * d * y ≤ b * d * (x + h) = mul-le-mul_left {m = y} {n = x + h} (b * d) up in
    let wide : b * d * (x + h) ≡ b * d * x + b * d * h = grind arith in
    omega (arith, one, two, spread, spread', right, left, dates, wide)

-- the end comes before a start so much later, where the slopes are one and above 0
before_later : (a b c d c1 c2 d2 m k n x y : ℕ) → 1 ≤ a → 1 ≤ b → 1 ≤ d → a * d ≡ c * b → a * (k + n) ≤ b * x + c1 → d * y ≤ c * (k + m) + d2 → n ≡ b * (c * m) + b * d2 + d * c1
    → y ≤ x
before_later a b c d c1 c2 d2 m k n x y rise some some' same below above' is =
    let one : b * (d * y) ≤ b * (c * (k + m) + d2) = mul-le-mul_left {m = d * y} {n = c * (k + m) + d2} b above' in
    let two : d * (a * (k + n)) ≤ d * (b * x + c1) = mul-le-mul_left {m = a * (k + n)} {n = b * x + c1} d below in
    let spread : b * (c * (k + m) + d2) ≡ c * b * k + (b * (c * m) + b * d2) = grind arith in
    let spread' : d * (b * x + c1) ≡ b * d * x + d * c1 = grind arith in
    let left : b * (d * y) ≡ b * d * y = grind arith in
    let turned : d * (a * (k + n)) ≡ a * d * k + a * d * n = grind arith in
    let line : a * d * k ≡ c * b * k = ap (λ z. z * k) same in
    let units : 1 * 1 ≤ a * d = mul-le-mul rise some' in
    let gain : 1 * n ≤ a * d * n = mul-le-mul_right n (let u : 1 ≤ a * d = omega (arith, units) in u) in
    let own : 1 * n ≡ n = omega arith in
    let product : 1 * d ≤ b * d = mul-le-mul_right d some in
    let own' : 1 * d ≡ d = omega arith in
    let z = by_one (b * d) x y 0 (omega (arith, product, own', some')) (omega (arith, one, two, spread, spread', left, turned, line, gain, own, is)) in
    omega (arith, z)

-- ---- the place

-- an ended list that reaches the start of a place reaches its end
endless_start : (net : NetLists) (p : PlaceId) → p.index < length net.places → IsEndless net (to_of net p) → IsEndless net (from_of net p)
endless_start net p in' endless l e =
    let ps = e.reaches.0 in
    endless l (record {
      of_net = e.of_net;
      ends = e.ends;
      reaches = (ps ++ p ∷ [], IsPathBetween-append net ps (p ∷ []) l.transition.index (from_of net p) (to_of net p) e.reaches.1 (in', refl, refl));
    })

module _ (net : NetLists) (x : Dating) (f : IsFeasibleUnder net (listed_releases net) x) (p : PlaceId) (in' : p.index < length net.places)
    (from_in : from_of net p < length net.transitions) (to_in : to_of net p < length net.transitions)
    (a b c d : ℕ) (some : 1 ≤ b) (some' : 1 ≤ d) (start : GrowBy (x (from_of net p)) a b) (end : GrowBy (x (to_of net p)) c d) where
  abbrev place : Place
  place = place_at net p

  abbrev From : ℕ → Type 0
  From k = IsNumberNear a b start.below start.above k (x (from_of net p) k)

  from : (k : ℕ) → 1 ≤ k → From k
  from k one = number_near a b start.below start.above k (x (from_of net p) k) (not_before_zero net (listed_releases net) x f (from_of net p) k from_in one) (start.near k one)

  abbrev To : ℕ → Type 0
  To k = IsNumberNear c d end.below end.above (k + place.tokens) (x (to_of net p) (k + place.tokens))

  to : (k : ℕ) → 1 ≤ k → To k
  to k one =
      let on : 1 ≤ k + place.tokens = omega (arith, one) in
      number_near c d end.below end.above (k + place.tokens) (x (to_of net p) (k + place.tokens))
      (not_before_zero net (listed_releases net) x f (to_of net p) (k + place.tokens) to_in on) (end.near (k + place.tokens) on)

  held : (k : ℕ) (one : 1 ≤ k) → (from k one).value + place.hold ≤ (to k one).value
  held k one =
      let keeps = (feasible_keeps_in net initial_date (system_of net (listed_releases net)).release x (feasible_in net (listed_releases net) x f)).by p k in' one in
      number_before place.hold (from k one).value (to k one).value (x (from_of net p) k) (x (to_of net p) (k + place.tokens)) (from k one).is (to k one).is keeps

  abbrev most : ℕ
  most = b * (c * place.tokens) + b * end.above + d * start.below

  never_less : a * d ≤ c * b
  never_less = no_more (a * d) (c * b) most (λ k one.
      let l = held k one in
      start_over a b c d start.below start.above end.below end.above place.tokens k (from k one).value (to k one).value
      (from k one).below (from k one).above (to k one).below (to k one).above (omega (arith, l)))

  bounded : a * d ≡ c * b → HasBoundedWaits x place
  bounded same = (
    most,
    λ k one.
        let l = over a b c d start.below start.above end.below end.above place.tokens k (from k one).value (to k one).value
        (from k one).below (from k one).above (to k one).below (to k one).above same some some' in
        number_after (place.hold + most) (from k one).value (to k one).value (x (from_of net p) k) (x (to_of net p) (k + place.tokens)) (from k one).is (to k one).is (omega (arith, l)),
  )

  one_slope : HasBoundedWaits x place → a * d ≡ c * b
  one_slope w =
      let h : ℕ = place.hold + w.0 in
      let less : c * b ≤ a * d = no_more (c * b) (a * d) (b * d * h + b * end.below + d * start.above) (λ k one.
      let at : IsAtMostDate (At (pos (to k one).value)) (delayed h (At (pos (from k one).value))) = rw ((from k one).is, (to k one).is) at (w.1 k one) in
      end_over a b c d start.below start.above end.below end.above place.tokens k (from k one).value (to k one).value
      (from k one).below (from k one).above (to k one).below (to k one).above h (omega (arith, ints, at))) in
      let more = never_less in
      omega (arith, less, more)

  -- past each bound
  longer : a * d < c * b → (bound : ℕ) → WaitsLonger x place bound
  longer less bound =
      let h : ℕ = place.hold + bound in
      let e : ℕ = b * d * h + b * end.below + d * start.above in
      let one : 1 ≤ e + 1 = omega arith in (
        e + 1,
        one,
        λ l.
            let at : IsAtMostDate (At (pos (to (e + 1) one).value)) (delayed h (At (pos (from (e + 1) one).value))) = rw ((from (e + 1) one).is, (to (e + 1) one).is) at l in
            let up = end_over a b c d start.below start.above end.below end.above place.tokens (e + 1) (from (e + 1) one).value (to (e + 1) one).value
            (from (e + 1) one).below (from (e + 1) one).above (to (e + 1) one).below (to (e + 1) one).above h (omega (arith, ints, at)) in
            far (a * d) (c * b) e less up,
      )

  -- the tokens that wait
  few : 1 ≤ a → a * d ≡ c * b → HasBoundedStock x place
  few rise same = (
    most,
    λ k one.
        let on : 1 ≤ k + most = omega (arith, one) in
        let l = before_later a b c d start.below end.below end.above place.tokens k most (from (k + most) on).value (to k one).value
        rise some some' same (from (k + most) on).below (to k one).above refl in
        number_after place.hold (from (k + most) on).value (to k one).value (x (from_of net p) (k + most)) (x (to_of net p) (k + place.tokens))
        (from (k + most) on).is (to k one).is (omega (arith, l)),
  )

  one_by_stock : HasBoundedStock x place → a * d ≡ c * b
  one_by_stock w =
      let n : ℕ = w.0 in
      let less : c * b ≤ a * d = no_more (c * b) (a * d) (a * d * n + (b * d * place.hold + b * end.below + d * start.above)) (λ k one.
      let on : 1 ≤ k + n = omega (arith, one) in
      let at : IsAtMostDate (At (pos (to k one).value)) (delayed place.hold (At (pos (from (k + n) on).value))) = rw ((from (k + n) on).is, (to k one).is) at (w.1 k one) in
      stock_over a b c d start.above end.below place.tokens k n place.hold (from (k + n) on).value (to k one).value (from (k + n) on).above (to k one).below (omega (arith, ints, at))) in
      let more = never_less in
      omega (arith, less, more)

  pub by_slopes : AreWaitsBySlopes x (place_at net p) a b c d
  by_slopes = record { rises = never_less; waits = (bounded, one_slope); longer = longer; stock = λ rise. (few rise, one_by_stock) }

pub bounded_by_slopes : DatesGrowBySlopes → WaitsAreBoundedByEqualSlopes
bounded_by_slopes grow net ends inputs rise rules live x least p in' endless a b c d some some' start end =
    let own = ends p.index no_place in' in
    by_slopes net x least.feasible p in' own.0 own.1 a b c d some some'
    (grow net ends inputs rise rules live x least (from_of net p) own.0 (endless_start net p in' endless) a b some start)
    (grow net ends inputs rise rules live x least (to_of net p) own.1 endless c d some' end)
