-- Sums of paths of a part: places make them longer, and potentials that no place exceeds bound them.
use Rattle.std.proofs.Common.{ℕ, zero, suc, ◌<◌, ◌≡◌, ◌≢◌, List, [], ◌∷◌, ◌++◌, Option, Some, None, true, false, eqb, length, get_or, replicate, set, refl, ap, arith, ⊎_elim, ◌∙◌}
use Rattle.std.specs.Prelude.{ℤ, pos, ◌+ℤ◌, All}
use Rattle.std.proofs.lemmas.Int.{ints}
use Rattle.std.proofs.lemmas.Bool.{cases_Bool, cases_eq, eqb-true}
use Rattle.std.proofs.lemmas.List.{get_or-map, get_or-set_other, get_or-set_same, get_or-replicate, length-map, length-replicate, length-set}
use Rattle.std.proofs.lemmas.List.Elements.{All-append, All-tail}
use Rattle.teg_net.specs.declared.entries.PlaceId.{PlaceId}
use Rattle.teg_net.specs.declared.answers.Potential.{Potential}
use Rattle.teg_net.specs.Certificates.{ArePotentials, potential_at}
use Rattle.teg_net.specs.Circuits.{from_of}
use Rattle.teg_net.specs.Nets.{NetLists}
use Rattle.teg_net.specs.PartAnswers.{transitions_of}
use Rattle.teg_net.specs.Parts.{IsMember, IsPlaceOfPart, ListsMembers, to_of}
use Rattle.teg_net.specs.Ratios.{Fraction}
use Rattle.teg_net.specs.ReducedTimes.{reduced_time}
use Rattle.teg_net.proofs.PathLaws.{IsPathBetween-append}
use Rattle.teg_certificates.proofs.Deciding.{potential_found}
use Rattle.teg_certificates.proofs.PathSums.{above_along, weight-append}
use Rattle.pace_check.specs.PathSums.{AreGreatestFrom, ArePathSums, IsNoughtAt, IsPathSum}

-- ---- lists of sums

-- at first none is known
pub none_summed : (net : NetLists) (part_of : List ℕ) (part : ℕ) (r : Fraction) (s : ℕ) (sums : List (Option ℤ)) → sums ≡ replicate (length net.transitions) None
    → ArePathSums net part_of part r s sums
none_summed net part_of part r s sums is = record {
  count = ap length is ∙ length-replicate {A = Option ℤ} (length net.transitions) None;
  each = λ t l.
      let none : get_or sums t None ≡ None = ap (λ (z : List (Option ℤ)). get_or z t None) is ∙ get_or-replicate (length net.transitions) t None None l in
      rw none tt;
}

-- the sum of one transition is that of a path
pub sums_more : (net : NetLists) (part_of : List ℕ) (part : ℕ) (r : Fraction) (s : ℕ) (sums : List (Option ℤ)) (t : ℕ) (z : ℤ) → t < length net.transitions
    → IsPathSum net part_of part r s t z → ArePathSums net part_of part r s sums → ArePathSums net part_of part r s (set sums t (Some z))
sums_more net part_of part r s sums t z l path h = record {
  count = length-set sums t (Some z) ∙ h.count;
  each = λ j m. ⊎_elim
      (λ (q : j ≡ t). rw (q, get_or-set_same sums t (Some z) None (omega (arith, h.count, l))) path)
      (λ (q : j ≢ t). rw (get_or-set_other sums t j (Some z) None q) (h.each j m))
      (cases_eq j t);
}

-- the empty path has the sum 0
pub empty_path : (net : NetLists) (part_of : List ℕ) (part : ℕ) (r : Fraction) (s : ℕ) → IsPathSum net part_of part r s s (pos 0)
empty_path net part_of part r s = record { places = []; path = refl; inside = λ i d l. absurd (omega (arith, l)); is = refl }

-- a path with a place behind it
pub one_place : (net : NetLists) (part_of : List ℕ) (part : ℕ) (p : PlaceId) → IsPlaceOfPart net part_of part p → All (IsPlaceOfPart net part_of part) (p ∷ [])
one_place net part_of part p h zero d l = h
one_place net part_of part p h (suc i) d l = absurd (omega (arith, l))

pub path_by_place : (net : NetLists) (part_of : List ℕ) (part : ℕ) (r : Fraction) (s : ℕ) (p : PlaceId) (y z : ℤ) → IsPlaceOfPart net part_of part p
    → IsPathSum net part_of part r s (from_of net p) y → z ≡ (y +ℤ reduced_time net r.time r.tokens p) → IsPathSum net part_of part r s (to_of net p) z
path_by_place net part_of part r s p y z inside before is =
    let sum = weight-append net r.time r.tokens before.places (p ∷ []) in
    let at = before.is in
    record {
      places = before.places ++ p ∷ [];
      path = IsPathBetween-append net before.places (p ∷ []) s (from_of net p) (to_of net p) before.path (inside.in_range, refl, refl);
      inside = All-append (IsPlaceOfPart net part_of part) before.places (p ∷ []) before.inside (one_place net part_of part p inside);
      is = omega (arith, ints, sum, at, is);
    }

-- ---- potentials

-- a potential that is told is the one of its transition
pub own_potential : (part_of : List ℕ) (part : ℕ) (vs : List Potential) → ListsMembers part_of part (transitions_of vs) → (i : ℕ) (d : Potential) → i < length vs
    → potential_at vs (get_or vs i d).transition.index ≡ (get_or vs i d).value
own_potential part_of part vs members i d l =
    let long : length (transitions_of vs) ≡ length vs = length-map vs (λ v. v.transition.index) in
    let own = get_or-map (λ (v : Potential). v.transition.index) vs i d 0 l in
    potential_found vs (get_or vs i d).transition.index i d l
    (λ k m.
    let other = get_or-map (λ (v : Potential). v.transition.index) vs k d 0 (omega (arith, l, m)) in
    let below : (get_or vs k d).transition.index < (get_or vs i d).transition.index = rw (own, other) at (members.ordered k i 0 m (omega (arith, l, long))) in
    λ e. omega (arith, below, e))
    refl

-- each transition of which a potential is told is a member
pub are_members : (part_of : List ℕ) (part : ℕ) (vs : List Potential) → ListsMembers part_of part (transitions_of vs) → All (λ v. IsMember part_of part v.transition.index) vs
are_members part_of part vs members i d l =
    let long : length (transitions_of vs) ≡ length vs = length-map vs (λ v. v.transition.index) in
    rw (get_or-map (λ (v : Potential). v.transition.index) vs i d 0 l) at (members.only i 0 (omega (arith, l, long)))

-- the potential at a transition is 0 where what is told there is 0
nought_at : (s : ℕ) (vs : List Potential) → IsNoughtAt s vs → potential_at vs s ≡ pos 0
nought_at s [] h = refl
nought_at s (v ∷ vs) h =
    ⊎_elim
    (λ (b : eqb v.transition.index s ≡ true). rw b (h 0 v (omega arith) (eqb-true v.transition.index s b)))
    (λ (b : eqb v.transition.index s ≡ false). rw b (nought_at s vs (All-tail (λ w. w.transition.index ≡ s → w.value ≡ pos 0) v vs h)))
    (cases_Bool (eqb v.transition.index s))

-- potentials that no place exceeds, 0 where paths begin, are the greatest sums where each is the sum of a path
pub sums_are_greatest : (net : NetLists) (part_of : List ℕ) (part : ℕ) (r : Fraction) (s : ℕ) (vs : List Potential) → ListsMembers part_of part (transitions_of vs)
    → ArePotentials net part_of part r vs → IsNoughtAt s vs → All (λ v. IsPathSum net part_of part r s v.transition.index v.value) vs → AreGreatestFrom net part_of part r s vs
sums_are_greatest net part_of part r s vs members kept nought sums i d l =
    let own = own_potential part_of part vs members i d l in
    let start = nought_at s vs nought in
    let at = sums i d l in
    record {
      attained = (at.places, at.path, at.inside, at.is);
      greatest = λ ps path inside.
          let up = above_along net r.time r.tokens (potential_at vs) ps s (get_or vs i d).transition.index (λ k q m. kept (get_or ps k q) (inside k q m)) path in
          omega (arith, ints, up, own, start);
    }
