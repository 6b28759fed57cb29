-- The places that are left have ranks where those before had: first by how often a transition fired, then by the rank that it had.
use Rattle.std.proofs.Common.{ℕ, zero, suc, ◌+◌, ◌-◌, ◌*◌, ◌<◌, ◌≤◌, ◌≡◌, List, [], ◌∷◌, length, get_or, refl, ap, arith}
use Rattle.std.specs.Prelude.{All}
use Rattle.std.proofs.lemmas.List.Sums.{sum_by-cons}
use Rattle.teg_net.specs.declared.entries.PlaceId.{PlaceId}
use Rattle.teg_net.specs.declared.entries.Place.{Place}
use Rattle.teg_net.specs.Nets.{NetLists}
use Rattle.teg_net.specs.Circuits.{no_place, place_at, IsPathBetween, tokens_of, IsLive}
use Rattle.teg_model.specs.LiveRanks.{AreRanks}
use Rattle.state_laws.specs.Rests.{tokens_left, ArePaid}

times_le : (a b c : ℕ) → a ≤ b → a * c ≤ b * c
times_le a b c l =
    let d : ℕ = b - a in
    let is : b ≡ a + d = omega (arith, l) in
    let product : b * c ≡ a * c + d * c = rw is (grind arith) in
    omega (arith, product)

rise_by : (b nf nt tk rf rt : ℕ) → nt ≡ tk + nf → rf < b → (tk ≡ 0 → rf < rt) → nf * b + rf < nt * b + rt
rise_by b nf nt zero rf rt e l h =
    let same : nt ≡ nf = omega (arith, e) in
    rw same (omega (arith, h refl))
rise_by b nf nt (suc m) rf rt e l h =
    let product : nt * b ≡ nf * b + (b + m * b) = rw e (grind arith) in
    omega (arith, product, l)

-- the rank of a transition in what is left
abbrev pub rank_left : (ℕ → ℕ) → ℕ → (ℕ → ℕ) → ℕ → ℕ
rank_left count bound r t = count t * bound + r t

pub rank_left_below : (count : ℕ → ℕ) (most bound : ℕ) (r : ℕ → ℕ) (t : ℕ) → count t ≤ most → r t < bound → rank_left count bound r t < (most + 1) * bound
rank_left_below count most bound r t few low =
    let product = times_le (count t) most bound few in
    let one : (most + 1) * bound ≡ most * bound + bound = grind arith in
    omega (arith, product, one, low)

pub ranks_rise_left : (places : List Place) (count : ℕ → ℕ) (bound : ℕ) (r : ℕ → ℕ) → AreRanks places bound r → ArePaid count places
    → All (λ p. tokens_left count p ≡ 0 → rank_left count bound r p.from.index < rank_left count bound r p.to.index) places
ranks_rise_left places count bound r rr paid i d l none =
    let p : Place = get_or places i d in
    rise_by bound (count p.from.index) (count p.to.index) p.tokens (r p.from.index) (r p.to.index) (omega (arith, none, paid i d l)) (rr.below p.from.index) (rr.rise i d l)

-- along a path without tokens the rank rises by the number of its places or more
rises_along : (net : NetLists) (bound : ℕ) (r : ℕ → ℕ) → AreRanks net.places bound r → (ps : List PlaceId) (a b : ℕ) → IsPathBetween net a ps b → tokens_of net ps ≡ 0 → r a + length ps ≤ r b
rises_along net bound r rr [] a b h t = omega (arith, ap r h)
rises_along net bound r rr (p ∷ ps) a b h t =
    let s = sum_by-cons (λ q. (place_at net q).tokens) p ps in
    let here : (place_at net p).tokens ≡ 0 = omega arith in
    let rest : tokens_of net ps ≡ 0 = omega arith in
    let step = rr.rise p.index no_place h.0 here in
    let more = rises_along net bound r rr ps (place_at net p).to.index b h.2 rest in
    omega (arith, ap r h.1, step, more)

pub ranked_is_live : (net : NetLists) (bound : ℕ) (r : ℕ → ℕ) → AreRanks net.places bound r → IsLive net
ranked_is_live net bound r rr ps c t = absurd (omega (arith, rises_along net bound r rr ps c.closed.0 c.closed.0 c.closed.1 t, c.not_empty))
