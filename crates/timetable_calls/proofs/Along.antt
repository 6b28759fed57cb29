-- Dates in parts of the unit that leave time for each place leave time for each path.
use Rattle.std.proofs.Common.{ℕ, ◌+◌, ◌*◌, ◌<◌, ◌≤◌, ◌≡◌, List, [], ◌∷◌, length, ap, arith}
use Rattle.std.proofs.lemmas.List.Sums.{sum_by-cons}
use Rattle.teg_net.specs.declared.entries.PlaceId.{PlaceId}
use Rattle.teg_net.specs.Nets.{NetLists}
use Rattle.teg_net.specs.Parts.{to_of}
use Rattle.teg_net.specs.Circuits.{place_at, from_of, IsPathBetween, time_of, tokens_of}

pub along :
    (net : NetLists) (scale period : ℕ) (f : ℕ → ℕ)
    → ((p : PlaceId) → p.index < length net.places → f (from_of net p) + scale * (place_at net p).hold ≤ f (to_of net p) + period * (place_at net p).tokens)
    → (ps : List PlaceId) (a b : ℕ) → IsPathBetween net a ps b → f a + scale * time_of net ps ≤ f b + period * tokens_of net ps
along net scale period f h [] a b l = let e : f a ≡ f b = ap f l in omega arith
along net scale period f h (p ∷ ps) a b l =
    let here = h p l.0 in
    let rest = along net scale period f h ps (to_of net p) b l.2 in
    let from : f (from_of net p) ≡ f a = ap f l.1 in
    let one = sum_by-cons (λ q. (place_at net q).hold) p ps in
    let two = sum_by-cons (λ q. (place_at net q).tokens) p ps in
    let time : scale * time_of net (p ∷ ps) ≡ scale * (place_at net p).hold + scale * time_of net ps = rw one (grind arith) in
    let tokens : period * tokens_of net (p ∷ ps) ≡ period * (place_at net p).tokens + period * tokens_of net ps = rw two (grind arith) in
    omega arith
