-- What a dating carries along paths and circuits does not outgrow its step.
use Rattle.std.proofs.Common.{ℕ, zero, suc, ◌+◌, ◌-◌, ◌*◌, ◌<◌, ◌≤◌, ◌≡◌, List, [], ◌∷◌, ap, ◌∙◌, arith, ⊎_elim}
use Rattle.std.specs.Prelude.{pos}
use Rattle.std.proofs.lemmas.Bool.{cases_lt}
use Rattle.std.proofs.lemmas.Int.{ints}
use Rattle.std.proofs.lemmas.List.Sums.{sum_by-cons}
use Rattle.settled_laws.specs.dioid.declared.dates.Date.{Date}
use Rattle.settled_laws.specs.dioid.declared.dates.Date.TheVariants.{At}
use Rattle.settled_laws.specs.dioid.Dates.{IsAtMostDate, delayed}
use Rattle.settled_laws.proofs.dioid_proofs.DateOrder.{at_most_refl, at_most_trans, delayed_rises, delayed_later}
use Rattle.settled_laws.specs.teg_net.declared.entries.PlaceId.{PlaceId}
use Rattle.settled_laws.specs.teg_net.declared.entries.Place.{Place}
use Rattle.settled_laws.specs.teg_net.Nets.{NetLists}
use Rattle.settled_laws.specs.teg_net.Circuits.{place_at, IsPathBetween, time_of, tokens_of}
use Rattle.settled_laws.proofs.teg_model_proofs.Delays.{delayed_twice, delayed_not}
use Rattle.settled_laws.proofs.teg_model_proofs.WalkSteps.{Keeps}
use Rattle.slope_laws.proofs.Sums.{times_add, times_le}
use Rattle.slope_laws.proofs.BestWalks.{GoesBy}

-- what a dating carries along a path
pub path_keeps : (net : NetLists) (x : ℕ → ℕ → Date) → Keeps net x → (ps : List PlaceId) (a b s : ℕ) → 1 ≤ s
    → IsPathBetween net a ps b → IsAtMostDate (delayed (time_of net ps) (x a s)) (x b (s + tokens_of net ps))
path_keeps net x c [] a b s o h =
    let is : s + 0 ≡ s = omega arith in
    rw (is, delayed_not (x a s), h) (at_most_refl (x b s))
path_keeps net x c (p ∷ ps) a b s o h =
    let place : Place = place_at net p in
    let from : x place.from.index s ≡ x a s = ap (λ t. x t s) h.1 in
    let here = rw from at (c.by p s h.0 o) in
    let rest = path_keeps net x c ps place.to.index b (s + place.tokens) (omega arith) h.2 in
    let long : time_of net (p ∷ ps) ≡ place.hold + time_of net ps = sum_by-cons (λ q. (place_at net q).hold) p ps in
    let many : tokens_of net (p ∷ ps) ≡ place.tokens + tokens_of net ps = sum_by-cons (λ q. (place_at net q).tokens) p ps in
    let there : (s + place.tokens) + tokens_of net ps ≡ s + (place.tokens + tokens_of net ps) = omega arith in
    rw (long, many, delayed_twice place.hold (time_of net ps) (x a s), ← there)
    (at_most_trans (delayed (time_of net ps) (delayed place.hold (x a s))) (delayed (time_of net ps) (x place.to.index (s + place.tokens))) (x b ((s + place.tokens) + tokens_of net ps))
    (delayed_rises (time_of net ps) (delayed place.hold (x a s)) (x place.to.index (s + place.tokens)) here) rest)

pub climb_many : (x : ℕ → ℕ → Date) (b : ℕ) → ((s : ℕ) → 1 ≤ s → IsAtMostDate (x b s) (x b (s + 1))) → (k j : ℕ) → 1 ≤ k → IsAtMostDate (x b k) (x b (k + j))
climb_many x b h k zero o = let is : k + 0 ≡ k = omega arith in rw is (at_most_refl (x b k))
climb_many x b h k (suc j) o =
    let is : k + suc j ≡ (k + j) + 1 = omega arith in
    rw is (at_most_trans (x b k) (x b (k + j)) (x b ((k + j) + 1)) (climb_many x b h k j o) (h (k + j) (omega arith)))

-- what grows without end does not outgrow the step
outgrown : (nu gain step each d : ℕ) → ((r : ℕ) → r * (nu * gain) ≤ d + r * (step * each)) → nu * gain ≤ step * each
outgrown nu gain step each d h =
    ⊎_elim
    (λ (l : step * each < nu * gain).
    let r : ℕ = suc d in
    let all = h r in
    let least : r * (step * each + 1) ≤ r * (nu * gain) = times_le r (step * each + 1) (nu * gain) (omega arith) in
    let wide : r * (step * each + 1) ≡ r * (step * each) + r * 1 = times_add r (step * each) 1 in
    let once : r * 1 ≡ r = grind arith in
    absurd (omega arith))
    (λ (l : nu * gain ≤ step * each). l)
    (cases_lt (step * each) (nu * gain))

once : (s : ℕ) → s * 1 ≡ s
once s = grind arith

reach_is : (s0 r nu each k0 : ℕ) → 1 ≤ nu → (s0 + (r * nu) * each) + (k0 + s0 * nu - s0) ≡ k0 + (s0 + r * each) * nu
reach_is s0 r nu each k0 n1 =
    let wide : (s0 + r * each) * nu ≡ s0 * nu + (r * nu) * each = grind arith in
    let is : nu ≡ 1 + (nu - 1) = omega arith in
    let more : s0 * nu ≡ s0 + s0 * (nu - 1) = ap (λ z. s0 * z) is ∙ (times_add s0 1 (nu - 1) ∙ ap (λ z. z + s0 * (nu - 1)) (once s0)) in
    omega (arith, wide, more)

-- nor do the dates of b, which grow by the step
pub lower : (x : ℕ → ℕ → Date) (b k0 nu c step s0 gain each : ℕ) → ((s : ℕ) → 1 ≤ s → IsAtMostDate (x b s) (x b (s + 1))) → 1 ≤ k0 → 1 ≤ nu → 1 ≤ s0 → GoesBy x b k0 nu c step
    → ((i : ℕ) → IsAtMostDate (At (pos (i * gain))) (x b (s0 + i * each))) → nu * gain ≤ step * each
lower x b k0 nu c step s0 gain each climbs o n1 s1 goes grows =
    outgrown nu gain step each (c + s0 * step)
    (λ r.
    let m : ℕ = s0 + r * each in
    let far : (s0 + (r * nu) * each) + (k0 + s0 * nu - s0) ≡ k0 + m * nu = reach_is s0 r nu each k0 n1 in
    let up = at_most_trans (At (pos ((r * nu) * gain))) (x b (s0 + (r * nu) * each))
    (x b ((s0 + (r * nu) * each) + (k0 + s0 * nu - s0))) (grows (r * nu)) (climb_many x b climbs (s0 + (r * nu) * each) (k0 + s0 * nu - s0) (omega arith)) in
    let there : IsAtMostDate (At (pos ((r * nu) * gain))) (At (pos (c + m * step))) = rw (far, goes m) at up in
    let low : (r * nu) * gain ≤ c + m * step = omega (arith, ints, there) in
    let left : (r * nu) * gain ≡ r * (nu * gain) = grind arith in
    let right : m * step ≡ s0 * step + r * (step * each) = grind arith in
    omega (arith, low, left, right))

-- a transition on a circuit grows by the time in each so many tokens
pub round_grows : (net : NetLists) (x : ℕ → ℕ → Date) → Keeps net x → (ps : List PlaceId) (a : ℕ) → IsPathBetween net a ps a
    → IsAtMostDate (At (pos 0)) (x a 1) → (i : ℕ) → IsAtMostDate (At (pos (i * time_of net ps))) (x a (1 + i * tokens_of net ps))
round_grows net x c ps a h zero' zero =
    let none : 0 * time_of net ps ≡ 0 = grind arith in
    let is : 1 + 0 * tokens_of net ps ≡ 1 = grind arith in
    rw (none, is) zero'
round_grows net x c ps a h zero' (suc i) =
    let before = round_grows net x c ps a h zero' i in
    let s : ℕ = 1 + i * tokens_of net ps in
    let on = path_keeps net x c ps a a s (omega arith) h in
    let up = delayed_rises (time_of net ps) (At (pos (i * time_of net ps))) (x a s) before in
    let sum : suc i * time_of net ps ≡ i * time_of net ps + time_of net ps = grind arith in
    let date : At (pos (suc i * time_of net ps)) ≡ delayed (time_of net ps) (At (pos (i * time_of net ps))) = ap At (omega (arith, ints, sum)) in
    let is : 1 + suc i * tokens_of net ps ≡ s + tokens_of net ps = grind arith in
    rw (date, is) (at_most_trans (delayed (time_of net ps) (At (pos (i * time_of net ps)))) (delayed (time_of net ps) (x a s)) (x a (s + tokens_of net ps)) up on)

-- what grows at a grows at b
pub carried : (net : NetLists) (x : ℕ → ℕ → Date) → Keeps net x → (qs : List PlaceId) (a b s gain each : ℕ) → 1 ≤ s
    → IsPathBetween net a qs b → ((i : ℕ) → IsAtMostDate (At (pos (i * gain))) (x a (s + i * each))) → (i : ℕ)
    → IsAtMostDate (At (pos (i * gain))) (x b ((s + tokens_of net qs) + i * each))
carried net x c qs a b s gain each o h grows i =
    let on = path_keeps net x c qs a b (s + i * each) (omega arith) h in
    let later = at_most_trans (x a (s + i * each)) (delayed (time_of net qs) (x a (s + i * each))) (x b ((s + i * each) + tokens_of net qs)) (delayed_later (time_of net qs) (x a (s + i * each))) on in
    let is : (s + tokens_of net qs) + i * each ≡ (s + i * each) + tokens_of net qs = omega arith in
    rw is (at_most_trans (At (pos (i * gain))) (x a (s + i * each)) (x b ((s + i * each) + tokens_of net qs)) (grows i) later)
