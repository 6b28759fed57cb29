-- Two timetables of two periods, mixed by number and rounded down, are one of a period between.
use Rattle.std.proofs.Common.{ℕ, ◌+◌, ◌-◌, ◌*◌, ◌/◌, ◌%◌, ◌<◌, ◌≤◌, ◌≡◌, List, get_or, subst, sym, arith, ⊎_elim}
use Rattle.std.proofs.lemmas.Bool.{cases_lt}
use Rattle.std.proofs.lemmas.Nat.{mod_below, div-add-mod'}
use Rattle.std.proofs.Math.Nat.{mul-le-mul_left, mul-le-mul_right}
use Rattle.teg_model.specs.teg_net.declared.entries.Place.{Place}
use Rattle.teg_model.specs.teg_net.Nets.{NetLists}
use Rattle.teg_model.specs.teg_net.ReadyDates.{ready_date}
use Rattle.planning_laws.specs.GreatestTimes.{GreatestTime, KeepsAll, CanKeepAll, PeriodsBetweenKeepAll}

-- what leaves a multiple leaves as much when rounded down
rounded : (n x y h g : ℕ) → 1 ≤ n → x + n * h ≤ y + n * g → x / n + h ≤ y / n + g
rounded n x y h g some l =
    let low = div-add-mod' x n in
    let high = div-add-mod' y n in
    let rest : y % n < n = mod_below y n some in
    ⊎_elim
    (λ (over : y / n + g < x / n + h).
    let more : (y / n + g + 1) * n ≤ (x / n + h) * n = mul-le-mul_right n (let o : y / n + g + 1 ≤ x / n + h = omega (arith, over) in o) in
    let left : (y / n + g + 1) * n ≡ y / n * n + n * g + n = grind arith in
    let right : (x / n + h) * n ≡ x / n * n + n * h = grind arith in
    absurd (omega (arith, l, low, high, rest, more, left, right)))
    (λ (k : x / n + h ≤ y / n + g). k)
    (cases_lt (y / n + g) (x / n + h))

-- the periods are a, a + q and a + q + p
module _ (a p q : ℕ) (some : 1 ≤ p + q) where
  abbrev b : ℕ
  b = a + q

  abbrev c : ℕ
  c = a + q + p

  abbrev mix : ℕ → ℕ → ℕ
  mix x y = (p * x + q * y) / (p + q)

  mixed : (x1 x2 y1 y2 h g i j : ℕ) → x1 + h + a * i ≤ y1 + g + a * j → x2 + h + c * i ≤ y2 + g + c * j → mix x1 x2 + h + b * i ≤ mix y1 y2 + g + b * j
  mixed x1 x2 y1 y2 h g i j one two =
      let n : ℕ = p + q in
      let first : p * (x1 + h + a * i) ≤ p * (y1 + g + a * j) = mul-le-mul_left {m = x1 + h + a * i} {n = y1 + g + a * j} p one in
      let second : q * (x2 + h + c * i) ≤ q * (y2 + g + c * j) = mul-le-mul_left {m = x2 + h + c * i} {n = y2 + g + c * j} q two in
      let left : p * (x1 + h + a * i) + q * (x2 + h + c * i) ≡ (p * x1 + q * x2) + (p + q) * (h + b * i) = grind arith in
      let right : p * (y1 + g + a * j) + q * (y2 + g + c * j) ≡ (p * y1 + q * y2) + (p + q) * (g + b * j) = grind arith in
      let down = rounded (p + q) (p * x1 + q * x2) (p * y1 + q * y2) (h + b * i) (g + b * j) some (omega (arith, first, second, left, right)) in
      omega (arith, down)

  module _ (net : NetLists) (times : List GreatestTime) (f g : ℕ → ℕ) (low : KeepsAll net a times f) (high : KeepsAll net c times g) where
    abbrev first : ℕ → ℕ
    first t = mix (f t) (g t)

    between : KeepsAll net b times first
    between = record {
      keeps_places = λ i d l.
          let r : Place = get_or net.places i d in
          let one = (low.keeps_places i d l).leaves_time in
          let two = (high.keeps_places i d l).leaves_time in
          let time = mixed (f r.from.index) (g r.from.index) (f r.to.index) (g r.to.index) r.hold 0 0 r.tokens (omega (arith, one)) (omega (arith, two)) in
          record {
            leaves_time = omega (arith, time);
            ready = λ k some few.
                let one = (low.keeps_places i d l).ready k some few in
                let two = (high.keeps_places i d l).ready k some few in
                let time = mixed 0 0 (f r.to.index) (g r.to.index) (ready_date r k) 0 0 (k - 1) (omega (arith, one)) (omega (arith, two)) in
                omega (arith, time);
          };
      keeps_times = λ i d l k some.
          let t : GreatestTime = get_or times i d in
          let one = low.keeps_times i d l k some in
          let two = high.keeps_times i d l k some in
          let time = mixed (f t.to) (g t.to) (f t.from) (g t.from) 0 t.most (k + t.later - 1) (k - 1) (omega (arith, one)) (omega (arith, two)) in
          omega (arith, time);
    }

pub periods_between : PeriodsBetweenKeepAll
periods_between net times a b c low high v w = ⊎_elim
    (λ (l : a < c).
    let q : ℕ = b - a in
    let p : ℕ = c - b in
    let is : a + q ≡ b = omega (arith, low) in
    let top : a + q + p ≡ c = omega (arith, low, high) in
    let some : 1 ≤ p + q = omega (arith, low, high, l) in
    let last : KeepsAll net (a + q + p) times w.0 = subst (λ z. KeepsAll net z times w.0) (sym top) w.1 in
    let h = between a p q some net times v.0 w.0 v.1 last in
    subst (λ z. CanKeepAll net z times) is (first a p q some net times v.0 w.0 v.1 last, h))
    (λ (l : c ≤ a). let is : a ≡ b = omega (arith, low, high, l) in subst (λ z. CanKeepAll net z times) is v)
    (cases_lt a c)
