-- Potentials along paths, and paths of a policy's own places.
use Rattle.std.proofs.Common.{ℕ, zero, suc, ◌+◌, ◌<◌, ◌≡◌, ◌≢◌, List, [], ◌∷◌, ◌++◌, length, get_or, refl, sym, ap, ◌∙◌, arith}
use Rattle.std.specs.Prelude.{ℤ, pos, ◌+ℤ◌, ◌≤ℤ◌, ◌<ℤ◌, All}
use Rattle.std.proofs.lemmas.Int.{ints}
use Rattle.std.proofs.lemmas.List.Elements.{All-tail}
use Rattle.teg_net.specs.declared.entries.PlaceId.{PlaceId}
use Rattle.teg_net.specs.Nets.{NetLists}
use Rattle.teg_net.specs.Circuits.{IsPathBetween, from_of}
use Rattle.teg_net.specs.Parts.{IsMember, to_of}
use Rattle.policy_rounds.specs.Policies.{Policy, IsPolicy, step_back, offer_of, AreSums}
use Rattle.teg_net.specs.ReducedTimes.{reduced_time_of}
use Rattle.policy_rounds.proofs.Back.{trail, back_add, back_member}

below_zero : (x y : ℤ) → x ≡ y → y ≤ℤ (pos 0 +ℤ x)
below_zero x y e = omega (arith, ints)

-- where each place offers its end at least the potential there, the path does so too
pub below_along :
    (net : NetLists) (a b : ℕ) (v : ℕ → ℤ) (ps : List PlaceId) (s t : ℕ) → All (λ p. v (to_of net p) ≤ℤ offer_of net a b v p) ps → IsPathBetween net s ps t
    → v t ≤ℤ (reduced_time_of net a b ps +ℤ v s)
below_along net a b v [] s t h l = below_zero (v s) (v t) (ap v l)
below_along net a b v (p ∷ ps) s t h l =
    let here = h 0 p (omega arith) in
    let rest = below_along net a b v ps (to_of net p) t (All-tail (λ q. v (to_of net q) ≤ℤ offer_of net a b v q) p ps h) l.2 in
    let from : v (from_of net p) ≡ v s = ap v l.1 in
    omega (arith, ints, here, rest, from)

-- and more than the potential, where one place offers more
pub above_by_one :
    (net : NetLists) (a b : ℕ) (v : ℕ → ℤ) (ps : List PlaceId) (s t k : ℕ) (d : PlaceId) → All (λ p. v (to_of net p) ≤ℤ offer_of net a b v p) ps → IsPathBetween net s ps t
    → k < length ps → v (to_of net (get_or ps k d)) <ℤ offer_of net a b v (get_or ps k d)
    → v t <ℤ (reduced_time_of net a b ps +ℤ v s)
above_by_one net a b v [] s t k d h l n m = absurd (omega arith)
above_by_one net a b v (p ∷ ps) s t zero d h l n m =
    let rest = below_along net a b v ps (to_of net p) t (All-tail (λ q. v (to_of net q) ≤ℤ offer_of net a b v q) p ps h) l.2 in
    let from : v (from_of net p) ≡ v s = ap v l.1 in
    omega (arith, ints, m, rest, from)
above_by_one net a b v (p ∷ ps) s t (suc k) d h l n m =
    let here = h 0 p (omega arith) in
    let rest = above_by_one net a b v ps (to_of net p) t k d (All-tail (λ q. v (to_of net q) ≤ℤ offer_of net a b v q) p ps h) l.2 (omega arith) m in
    let from : v (from_of net p) ≡ v s = ap v l.1 in
    omega (arith, ints, here, rest, from)

pub trail_add : (net : NetLists) (π : Policy) (m k t : ℕ) → trail net π (m + k) t ≡ trail net π m (step_back net π k t) ++ trail net π k t
trail_add net π zero k t = let e : 0 + k ≡ k = omega arith in rw e refl
trail_add net π (suc m) k t =
    let e : suc m + k ≡ suc (m + k) = omega arith in
    rw (e, back_add net π m k t, trail_add net π m k t) refl

-- a path of the policy's own places is a trail
pub own_trail : (net : NetLists) (π : Policy) (n : ℕ) (ps : List PlaceId) (s t : ℕ) → length ps ≡ n → All (λ p. π (to_of net p) ≡ p) ps
    → IsPathBetween net s ps t → (ps ≡ trail net π n t) × (s ≡ step_back net π n t)
own_trail net π zero [] s t e h l = (refl, l)
own_trail net π (suc n) [] s t e h l = absurd (omega arith)
own_trail net π zero (p ∷ ps) s t e h l = absurd (omega arith)
own_trail net π (suc n) (p ∷ ps) s t e h l =
    let rest = own_trail net π n ps (to_of net p) t (omega arith) (All-tail (λ q. π (to_of net q) ≡ q) p ps h) l.2 in
    let p_is : p ≡ π (step_back net π n t) = sym (h 0 p (omega arith)) ∙ ap π rest.1 in
    (ap (λ x. x ∷ ps) p_is ∙ ap (λ x. π (step_back net π n t) ∷ x) rest.0, sym l.1 ∙ ap (from_of net) p_is)

module _ (net : NetLists) (parts : List ℕ) (part : ℕ) (π : Policy) (ok : IsPolicy net parts part π) (a b s : ℕ) (v : ℕ → ℤ) (sums : AreSums net parts part a b π s v) where
  -- a potential is the sum of what the places count on the way back
  pub sum_back : (m t : ℕ) → IsMember parts part t → ((j : ℕ) → j < m → step_back net π j t ≢ s) → v t ≡ (reduced_time_of net a b (trail net π m t) +ℤ v (step_back net π m t))
  sum_back zero t h apart = omega (arith, ints)
  sum_back (suc m) t h apart =
      let rest = sum_back m t h (λ j l. apart j (omega arith)) in
      let here = sums.others (step_back net π m t) (back_member net parts part π ok m t h) (apart m (omega arith)) in
      omega (arith, ints, rest, here)
