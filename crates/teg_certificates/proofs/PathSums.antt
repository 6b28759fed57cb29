-- What the places of a path weigh together, and potentials along it.
use Rattle.std.proofs.Common.{ℕ, ◌+◌, ◌*◌, ◌≡◌, List, [], ◌∷◌, ◌++◌, refl, ap, arith}
use Rattle.std.specs.Prelude.{ℤ, pos, ◌+ℤ◌, ◌≤ℤ◌, All}
use Rattle.std.proofs.lemmas.Int.{ints}
use Rattle.std.proofs.lemmas.List.Sums.{sum_by-cons}
use Rattle.std.proofs.lemmas.List.Elements.{All-tail}
use Rattle.teg_net.specs.declared.entries.PlaceId.{PlaceId}
use Rattle.teg_net.specs.Nets.{NetLists}
use Rattle.teg_net.specs.Circuits.{place_at, IsPathBetween, time_of, tokens_of, from_of}
use Rattle.teg_net.specs.Parts.{to_of}
use Rattle.teg_net.specs.ReducedTimes.{reduced_time, reduced_time_of}
use Rattle.teg_certificates.specs.Weights.{weight_of, PotentialsBoundWeights}

-- ---- any weights

along_none : (x y : ℤ) → x ≡ y → (pos 0 +ℤ x) ≤ℤ y
along_none x y e = omega (arith, ints)

-- where no place lifts its end above the potential there, no path does
pub lifted_along :
    (net : NetLists) (w : PlaceId → ℤ) (v : ℕ → ℤ) (ps : List PlaceId) (s t : ℕ) → All (λ p. (w p +ℤ v (from_of net p)) ≤ℤ v (to_of net p)) ps → IsPathBetween net s ps t
    → (weight_of w ps +ℤ v s) ≤ℤ v t
lifted_along net w v [] s t h l = along_none (v s) (v t) (ap v l)
lifted_along net w v (p ∷ ps) s t h l =
    let here = h 0 p (omega arith) in
    let rest = lifted_along net w v ps (to_of net p) t (All-tail (λ q. (w q +ℤ v (from_of net q)) ≤ℤ v (to_of net q)) p ps h) l.2 in
    let from : v (from_of net p) ≡ v s = ap v l.1 in
    omega (arith, ints, here, rest, from)

pub weights_bounded : PotentialsBoundWeights
weights_bounded net w v ps c h =
    let up = lifted_along net w v ps c.closed.0 c.closed.0 h c.closed.1 in
    omega (arith, ints, up)

-- ---- reduced times

pub reduced_is : (net : NetLists) (a b : ℕ) (ps : List PlaceId) → weight_of (reduced_time net a b) ps ≡ reduced_time_of net a b ps
reduced_is net a b [] = refl
reduced_is net a b (p ∷ ps) = ap (λ z. reduced_time net a b p +ℤ z) (reduced_is net a b ps)

pub weight_is : (net : NetLists) (a b : ℕ) (ps : List PlaceId) → (reduced_time_of net a b ps +ℤ pos (a * tokens_of net ps)) ≡ pos (b * time_of net ps)
weight_is net a b [] = let e : a * 0 ≡ b * 0 = omega arith in rw e (omega (arith, ints))
weight_is net a b (p ∷ ps) =
    let rest = weight_is net a b ps in
    let time : b * time_of net (p ∷ ps) ≡ b * (place_at net p).hold + b * time_of net ps = rw (sum_by-cons (λ q. (place_at net q).hold) p ps) (grind arith) in
    let tokens : a * tokens_of net (p ∷ ps) ≡ a * (place_at net p).tokens + a * tokens_of net ps = rw (sum_by-cons (λ q. (place_at net q).tokens) p ps) (grind arith) in
    rw (time, tokens) (omega (arith, ints, rest))

pub weight-append : (net : NetLists) (a b : ℕ) (ps qs : List PlaceId) → reduced_time_of net a b (ps ++ qs) ≡ (reduced_time_of net a b ps +ℤ reduced_time_of net a b qs)
weight-append net a b [] qs = omega (arith, ints)
weight-append net a b (p ∷ ps) qs = omega (arith, ints, weight-append net a b ps qs)

-- where no place offers its end more than the potential there, no path does
pub above_along :
    (net : NetLists) (a b : ℕ) (v : ℕ → ℤ) (ps : List PlaceId) (s t : ℕ) → All (λ p. (reduced_time net a b p +ℤ v (from_of net p)) ≤ℤ v (to_of net p)) ps → IsPathBetween net s ps t
    → (reduced_time_of net a b ps +ℤ v s) ≤ℤ v t
above_along net a b v ps s t h l = rw (reduced_is net a b ps) at (lifted_along net (reduced_time net a b) v ps s t h l)
