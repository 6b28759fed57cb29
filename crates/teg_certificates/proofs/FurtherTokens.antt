-- What circuits above a target and potentials show of further tokens of a place.
use Rattle.std.proofs.Common.{ℕ, suc, ◌+◌, ◌*◌, ◌<◌, ◌≤◌, ◌≡◌, ◌≢◌, List, [], ◌∷◌, true, false, eqb, get_or, refl, sym, ap, ◌∙◌, arith, inl, inr, ⊎_elim}
use Rattle.std.specs.Prelude.{ℤ, pos, ◌+ℤ◌, ◌-ℤ◌, All, AllPairs, Contains, sum_by}
use Rattle.std.proofs.Math.Nat.{mul-le-mul_left}
use Rattle.std.proofs.lemmas.Int.{ints}
use Rattle.std.proofs.lemmas.Bool.{cases_lt, cases_eq, eq-eqb, ne_eqb}
use Rattle.std.proofs.lemmas.List.{get_or_default}
use Rattle.std.proofs.lemmas.List.Sums.{sum_by-cons}
use Rattle.std.proofs.lemmas.List.Elements.{All-tail}
use Rattle.teg_net.specs.declared.entries.PlaceId.{PlaceId}
use Rattle.teg_net.specs.Nets.{NetLists}
use Rattle.teg_net.specs.Ratios.{Fraction}
use Rattle.teg_net.specs.Circuits.{place_at, from_of, IsCircuit, time_of, tokens_of}
use Rattle.teg_net.proofs.PathLaws.{IsPathBetween-in_range}
use Rattle.teg_net.proofs.Reading.{same_id}
use Rattle.teg_certificates.specs.Weights.{weight_of}
use Rattle.teg_certificates.specs.Sizes.{OthersKeepTarget, extra_at, StillAboveShowsMore, AlwaysAboveShowsNone, FewestAreShown, NeverEnoughIsShown, TargetPotentialsShowEnough}
use Rattle.teg_certificates.proofs.PathSums.{weights_bounded}

-- ---- circuits

pub still_above : StillAboveShowsMore
still_above net r p extra ps h d enough =
    ⊎_elim
    (λ (l : extra < d). l)
    (λ (l : d ≤ extra).
    let low = enough.passing ps h.circuit h.passes in
    let more : r.time * (tokens_of net ps + d) ≤ r.time * (tokens_of net ps + extra) = mul-le-mul_left r.time (omega arith) in
    let above = h.above in
    absurd (omega arith))
    (cases_lt extra d)

pub always_above : AlwaysAboveShowsNone
always_above net r p ps h d enough =
    let above = h.above in
    let apart : (Contains ps p → ⊥) → ⊥ = λ off. let low = enough.others ps h.circuit off in absurd (omega arith) in
    ⊎_elim
    apart
    (λ (zero_time : r.time ≡ 0). apart (λ has.
    let low = enough.passing ps h.circuit has in
    let none : r.time * (tokens_of net ps + d) ≡ 0 = rw zero_time (omega arith) in
    absurd (omega arith)))
    h.by

pub fewest_shown : FewestAreShown
fewest_shown net r p extra ps h = record { circuit = h.circuit; passes = h.passes; above = h.one_less }

pub never_shown : NeverEnoughIsShown
never_shown net r p ps h = record {
  circuit = h.circuit;
  above = h.above;
  by = ⊎_elim (λ (off : Contains ps p → ⊥). inl off) (λ (zero_time : (r.time ≡ 0) × OthersKeepTarget net r p). inr zero_time.0) h.by;
}

-- ---- potentials

module _ (net : NetLists) (r : Fraction) (p : PlaceId) (extra : ℕ) where
  abbrev weight : PlaceId → ℤ
  weight q = pos (r.tokens * (place_at net q).hold) -ℤ pos (r.time * ((place_at net q).tokens + extra_at p extra q))

  abbrev extras : List PlaceId → ℕ
  extras ps = sum_by (extra_at p extra) ps

  weighs : (ps : List PlaceId) → (weight_of weight ps +ℤ pos (r.time * (tokens_of net ps + extras ps))) ≡ pos (r.tokens * time_of net ps)
  weighs [] = let e : r.time * (0 + 0) ≡ r.tokens * 0 = grind arith in rw e (omega (arith, ints))
  weighs (q ∷ ps) =
      let rest = weighs ps in
      let time : r.tokens * time_of net (q ∷ ps) ≡ r.tokens * (place_at net q).hold + r.tokens * time_of net ps = rw (sum_by-cons (λ x. (place_at net x).hold) q ps) (grind arith) in
      let tokens : r.time * (tokens_of net (q ∷ ps) + extras (q ∷ ps)) ≡ r.time * ((place_at net q).tokens + extra_at p extra q) + r.time * (tokens_of net ps + extras ps) =
      rw (sum_by-cons (λ x. (place_at net x).tokens) q ps, sum_by-cons (extra_at p extra) q ps) (grind arith) in
      rw (time, tokens) (omega (arith, ints, rest))

  extra_here : (q : PlaceId) → q.index ≡ p.index → extra_at p extra q ≡ extra
  extra_here q e = let b : eqb q.index p.index ≡ true = eq-eqb q.index p.index e in rw b refl

  extra_apart : (q : PlaceId) → q.index ≢ p.index → extra_at p extra q ≡ 0
  extra_apart q ne = let b : eqb q.index p.index ≡ false = ne_eqb q.index p.index ne in rw b refl

  -- the further tokens count nothing on a path that avoids the place
  extras_none : (ps : List PlaceId) → All (λ q. q.index ≢ p.index) ps → extras ps ≡ 0
  extras_none [] h = refl
  extras_none (q ∷ ps) h =
      let s = sum_by-cons (extra_at p extra) q ps in
      let here = extra_apart q (h 0 q (omega arith)) in
      let rest = extras_none ps (All-tail (λ x. x.index ≢ p.index) q ps h) in
      omega arith

  -- and at most once on one that leaves no transition twice
  extras_once : (ps : List PlaceId) → AllPairs (λ x y. from_of net x ≢ from_of net y) ps → extras ps ≤ extra
  extras_once [] h = omega arith
  extras_once (q ∷ ps) h =
      let s = sum_by-cons (extra_at p extra) q ps in
      ⊎_elim
      (λ (e : q.index ≡ p.index).
      let here = extra_here q e in
      let rest = extras_none ps (λ i d l f. h 0 (suc i) d (omega arith) (omega arith) (ap (from_of net) (same_id q (get_or ps i d) (e ∙ sym f)))) in
      omega arith)
      (λ (ne : q.index ≢ p.index).
      let here = extra_apart q ne in
      let rest = extras_once ps (λ i j d l m. h (suc i) (suc j) d (omega arith) (omega arith)) in
      omega arith)
      (cases_eq q.index p.index)

pub potentials_enough : TargetPotentialsShowEnough
potentials_enough net r p extra vs h =
    let low = λ (ps : List PlaceId) (c : IsCircuit net ps).
    let there = IsPathBetween-in_range net ps c.closed.0 c.closed.0 c.closed.1 in
    weights_bounded net (weight net r p extra) (λ t. get_or vs t (pos 0)) ps c (λ i d l. h.kept (get_or ps i d) (there i d l)) in
    let counts = λ (ps : List PlaceId) (c : IsCircuit net ps).
    let down = low ps c in
    let is = weighs net r p extra ps in
    let e : r.tokens * time_of net ps ≤ r.time * (tokens_of net ps + extras net r p extra ps) = omega (arith, ints) in
    e in
    record {
      passing = λ ps c has.
          let few = extras_once net r p extra ps c.leaves_once in
          let most : r.time * (tokens_of net ps + extras net r p extra ps) ≤ r.time * (tokens_of net ps + extra) = mul-le-mul_left r.time (omega arith) in
          let down = counts ps c in
          let turned : time_of net ps * r.tokens ≡ r.tokens * time_of net ps = grind arith in
          omega arith;
      others = λ ps c off.
          let none = extras_none net r p extra ps (λ i d l f. off (i, l, same_id (get_or ps i p) p (ap (λ x. x.index) (get_or_default ps i p d l) ∙ f))) in
          let down : r.tokens * time_of net ps ≤ r.time * (tokens_of net ps + 0) = rw none at (counts ps c) in
          let turned : time_of net ps * r.tokens ≡ r.tokens * time_of net ps = grind arith in
          let plain : tokens_of net ps + 0 ≡ tokens_of net ps = omega arith in
          rw plain at (let z : time_of net ps * r.tokens ≤ r.time * (tokens_of net ps + 0) = omega arith in z);
    }
