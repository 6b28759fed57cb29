-- Whole dates of a timetable whose period is a fraction.
use Rattle.std.proofs.Common.{ℕ, ◌+◌, ◌-◌, ◌*◌, ◌/◌, ◌%◌, ◌<◌, ◌≤◌, ◌≡◌, get_or, ap, ◌∙◌, arith}
use Rattle.std.proofs.lemmas.Nat.{div-add-mod', div_below, le-div, mod_below}
use Rattle.std.proofs.Math.Nat.{div-mul-le_self}
use Rattle.teg_net.specs.ReadyDates.{ready_date}
use Rattle.timetable_calls.specs.FractionPeriods.{WholeDatesKeepPlaces, WholeDatesRepeat}

-- a whole date and a time are at most what both are at most in parts
add_whole : (x y h scale : ℕ) → 0 < scale → x + scale * h ≤ y → x / scale + h ≤ y / scale
add_whole x y h scale some l =
    let low : (x / scale) * scale ≤ x = div-mul-le_self x scale in
    let all : (x / scale + h) * scale ≤ y = grind (arith, low, l) in
    le-div (x / scale + h) y scale some all

at_least_whole : (h y scale : ℕ) → 0 < scale → scale * h ≤ y → h ≤ y / scale
at_least_whole h y scale some l = le-div h y scale some (omega (arith, l))

pub keep_places : WholeDatesKeepPlaces
keep_places net scale period f some w i d l =
    let own = w i d l in
    record {
      keeps_time = λ k one.
          let time = own.leaves_time in
          add_whole (f (get_or net.places i d).from.index + period * (k - 1)) (f (get_or net.places i d).to.index + period * (k + (get_or net.places i d).tokens - 1))
          (get_or net.places i d).hold scale some (later (f (get_or net.places i d).from.index) (f (get_or net.places i d).to.index) (scale * (get_or net.places i d).hold)
          period (get_or net.places i d).tokens k one time);
      ready = λ k one few. at_least_whole (ready_date (get_or net.places i d) k) (f (get_or net.places i d).to.index + period * (k - 1)) scale some (own.ready k one few);
    } where
      later : (from to hold period tokens k : ℕ) → 1 ≤ k → from + hold ≤ to + period * tokens → from + period * (k - 1) + hold ≤ to + period * (k + tokens - 1)
      later from to hold period tokens k one time =
          let e : k + tokens - 1 ≡ (k - 1) + tokens = omega (arith, one) in
          let more : period * (k + tokens - 1) ≡ period * (k - 1) + period * tokens = rw e (grind arith) in
          omega (arith, time, more)

-- as many more parts as make so many units
more_whole : (x n scale : ℕ) → 0 < scale → (x + n * scale) / scale ≡ x / scale + n
more_whole x n scale some =
    let up : (x + n * scale) / scale < x / scale + n + 1 = div_below (x + n * scale) scale (x / scale + n + 1) some (below x n scale some) in
    let down : x / scale + n ≤ (x + n * scale) / scale = add_whole x (x + n * scale) n scale some (omega arith) in
    omega (arith, up, down) where
      below : (x n scale : ℕ) → 0 < scale → x + n * scale < (x / scale + n + 1) * scale
      below x n scale some =
          let rest : x / scale * scale + x % scale ≡ x = div-add-mod' x scale in
          let few : x % scale < scale = mod_below x scale some in
          let e : (x / scale + n + 1) * scale ≡ x / scale * scale + n * scale + scale = grind arith in
          omega (arith, rest, few, e)

pub repeat : WholeDatesRepeat
repeat scale period first k some one =
    let e : k + scale - 1 ≡ (k - 1) + scale = omega (arith, one) in
    let more : first + period * (k + scale - 1) ≡ first + period * (k - 1) + period * scale = rw e (grind arith) in
    ap (λ z. z / scale) more ∙ more_whole (first + period * (k - 1)) period scale some
