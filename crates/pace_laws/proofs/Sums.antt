-- What the places of a path count together, and potentials along it.
use Rattle.std.proofs.Common.{ℕ, zero, suc, ◌+◌, ◌*◌, ◌<◌, ◌≤◌, ◌≡◌, List, [], ◌∷◌, ◌++◌, true, false, eqb, length, get_or, refl, ap, subst, arith, ⊎_elim}
use Rattle.std.specs.Prelude.{ℤ, pos, ◌+ℤ◌, ◌≤ℤ◌, All, Contains}
use Rattle.std.proofs.lemmas.Int.{ints}
use Rattle.std.proofs.lemmas.Bool.{cases_Bool, eqb-true, eq-eqb}
use Rattle.std.proofs.lemmas.List.Sums.{sum_by-cons}
use Rattle.std.proofs.lemmas.List.Elements.{All-tail, All-append, All-cons, All-nil}
use Rattle.teg_net.specs.declared.entries.PlaceId.{PlaceId}
use Rattle.teg_net.specs.declared.answers.Potential.{Potential}
use Rattle.teg_net.specs.Nets.{NetLists}
use Rattle.teg_net.specs.Circuits.{place_at, from_of, IsPathBetween, IsCircuit, time_of, tokens_of}
use Rattle.teg_net.specs.Parts.{to_of, IsMember, IsPlaceOfPart}
use Rattle.teg_net.specs.ReducedTimes.{reduced_time, reduced_time_of, IsGreatestPathTime}
use Rattle.teg_net.specs.PartAnswers.{transitions_of}
use Rattle.teg_net.specs.Certificates.{potential_at}
use Rattle.teg_net.proofs.PathLaws.{IsPathBetween-append}

pub all_left : {X : Type 0} (P : X → Type 0) (xs ys : List X) → All P (xs ++ ys) → All P xs
all_left P [] ys h = All-nil P
all_left P (x ∷ xs) ys h = All-cons P x xs (h 0 x (omega arith)) (all_left P xs ys (All-tail P x (xs ++ ys) h))

pub all_right : {X : Type 0} (P : X → Type 0) (xs ys : List X) → All P (xs ++ ys) → All P ys
all_right P [] ys h = h
all_right P (x ∷ xs) ys h = all_right P xs ys (All-tail P x (xs ++ ys) h)

pub weight_is : (net : NetLists) (a b : ℕ) (ps : List PlaceId) → (reduced_time_of net a b ps +ℤ pos (a * tokens_of net ps)) ≡ pos (b * time_of net ps)
weight_is net a b [] = let e : a * 0 ≡ b * 0 = omega arith in rw e (omega (arith, ints))
weight_is net a b (p ∷ ps) =
    let rest = weight_is net a b ps in
    let time : b * time_of net (p ∷ ps) ≡ b * (place_at net p).hold + b * time_of net ps = rw (sum_by-cons (λ q. (place_at net q).hold) p ps) (grind arith) in
    let tokens : a * tokens_of net (p ∷ ps) ≡ a * (place_at net p).tokens + a * tokens_of net ps = rw (sum_by-cons (λ q. (place_at net q).tokens) p ps) (grind arith) in
    rw (time, tokens) (omega (arith, ints, rest))

pub weight-append : (net : NetLists) (a b : ℕ) (ps qs : List PlaceId) → reduced_time_of net a b (ps ++ qs) ≡ (reduced_time_of net a b ps +ℤ reduced_time_of net a b qs)
weight-append net a b [] qs = omega (arith, ints)
weight-append net a b (p ∷ ps) qs = omega (arith, ints, weight-append net a b ps qs)

-- where no place offers its end more than the potential there, no path does
pub above_along :
    (net : NetLists) (a b : ℕ) (v : ℕ → ℤ) (ps : List PlaceId) (s t : ℕ) → All (λ p. (reduced_time net a b p +ℤ v (from_of net p)) ≤ℤ v (to_of net p)) ps → IsPathBetween net s ps t
    → (reduced_time_of net a b ps +ℤ v s) ≤ℤ v t
above_along net a b v [] s t h l = let e : v s ≡ v t = ap v l in omega (arith, ints, e)
above_along net a b v (p ∷ ps) s t h l =
    let here = h 0 p (omega arith) in
    let rest = above_along net a b v ps (to_of net p) t (All-tail (λ q. (reduced_time net a b q +ℤ v (from_of net q)) ≤ℤ v (to_of net q)) p ps h) l.2 in
    let from : v (from_of net p) ≡ v s = ap v l.1 in
    omega (arith, ints, here, rest, from)

-- and so potentials bound the ratio of each circuit
pub bound_ratios : (net : NetLists) (part_of : List ℕ) (part a b : ℕ) (v : ℕ → ℤ)
    → ((p : PlaceId) → IsPlaceOfPart net part_of part p → (reduced_time net a b p +ℤ v (from_of net p)) ≤ℤ v (to_of net p))
    → (ps : List PlaceId) → IsCircuit net ps → All (IsPlaceOfPart net part_of part) ps → time_of net ps * b ≤ a * tokens_of net ps
bound_ratios net part_of part a b v h ps c inside =
    let up = above_along net a b v ps c.closed.0 c.closed.0 (λ i d l. h (get_or ps i d) (inside i d l)) c.closed.1 in
    let w = weight_is net a b ps in
    let low : b * time_of net ps ≤ a * tokens_of net ps = omega (arith, ints, up, w) in
    grind (arith, low)

-- what holds of each potential told holds of that of each transition told of
pub told_at : (P : ℕ → ℤ → Type 0) (vs : List Potential) (t : ℕ) → All (λ v. P v.transition.index v.value) vs → Contains (transitions_of vs) t → P t (potential_at vs t)
told_at P [] t h c = let l = c.1 in absurd (omega arith)
told_at P (v ∷ vs) t h (zero, l, e) =
    let here : v.transition.index ≡ t = e in
    let b : eqb v.transition.index t ≡ true = eq-eqb v.transition.index t here in
    rw b (subst (λ x. P x v.value) here (h 0 v (omega arith)))
told_at P (v ∷ vs) t h (suc k, l, e) =
    ⊎_elim
    (λ (b : eqb v.transition.index t ≡ true). rw b (subst (λ x. P x v.value) (eqb-true v.transition.index t b) (h 0 v (omega arith))))
    (λ (b : eqb v.transition.index t ≡ false). rw b (told_at P vs t (All-tail (λ w. P w.transition.index w.value) v vs h) (k, (let m : k < length (transitions_of vs) = omega arith in m), e)))
    (cases_Bool (eqb v.transition.index t))

-- greatest sums of paths in the part are potentials that no place exceeds
pub greatest_are_potentials : (net : NetLists) (part_of : List ℕ) (part a b s : ℕ) (v : ℕ → ℤ) → ((t : ℕ) → IsMember part_of part t → IsGreatestPathTime net part_of part a b s t (v t))
    → (p : PlaceId) → IsPlaceOfPart net part_of part p → (reduced_time net a b p +ℤ v (from_of net p)) ≤ℤ v (to_of net p)
greatest_are_potentials net part_of part a b s v h p inside =
    let from = h (from_of net p) inside.from_member in
    let to = h (to_of net p) inside.to_member in
    let ps : List PlaceId = from.attained.0 in
    let path : IsPathBetween net s (ps ++ p ∷ []) (to_of net p) = IsPathBetween-append net ps (p ∷ []) s (from_of net p) (to_of net p) from.attained.1 (inside.in_range, refl, refl) in
    let all = All-append (IsPlaceOfPart net part_of part) ps (p ∷ []) from.attained.2 (All-cons (IsPlaceOfPart net part_of part) p [] inside (All-nil (IsPlaceOfPart net part_of part))) in
    let low = to.greatest (ps ++ p ∷ []) path all in
    let sum = weight-append net a b ps (p ∷ []) in
    let at = from.attained.3 in
    omega (arith, ints, low, sum, at)
