-- Where part numbers never fall along a place, each circuit lies in one part.
use Rattle.std.proofs.Common.{ℕ, zero, suc, ◌<◌, ◌≤◌, ◌≡◌, List, [], ◌∷◌, length, get_or, ap, arith}
use Rattle.std.specs.Prelude.{All}
use Rattle.teg_net.specs.declared.entries.PlaceId.{PlaceId}
use Rattle.teg_net.specs.Nets.{NetLists, HasEndsInRange}
use Rattle.teg_net.specs.Circuits.{no_place, from_of, IsPathBetween, IsCircuit}
use Rattle.teg_net.specs.Parts.{to_of, IsPlaceOfPart}

module _ (net : NetLists) (ends : HasEndsInRange net) (part_of : List ℕ) (count : length part_of ≡ length net.transitions)
    (rises : All (λ p. get_or part_of p.from.index 0 ≤ get_or part_of p.to.index 0) net.places) where
  abbrev part : ℕ → ℕ
  part t = get_or part_of t 0

  here : (p : PlaceId) → p.index < length net.places → part (from_of net p) ≤ part (to_of net p)
  here p l = rises p.index no_place l

  along : (ps : List PlaceId) (a b : ℕ) → IsPathBetween net a ps b → part a ≤ part b
  along [] a b h = let e : part a ≡ part b = ap part h in omega arith
  along (p ∷ ps) a b h =
      let rest = along ps (to_of net p) b h.2 in
      let up = here p h.0 in
      let e : part (from_of net p) ≡ part a = ap part h.1 in
      omega arith

  between : (ps : List PlaceId) (a b k : ℕ) → IsPathBetween net a ps b → k ≤ part a → part b ≤ k → (i : ℕ) (d : PlaceId) → i < length ps → IsPlaceOfPart net part_of k (get_or ps i d)
  between [] a b k h low high i d l = absurd (omega arith)
  between (p ∷ ps) a b k h low high zero d l =
      let rest = along ps (to_of net p) b h.2 in
      let up = here p h.0 in
      let e : part (from_of net p) ≡ part a = ap part h.1 in
      let from_in = (ends p.index no_place h.0).0 in
      let to_in = (ends p.index no_place h.0).1 in
      record {
        in_range = h.0;
        from_member = record { in_range = omega arith; here = omega arith };
        to_member = record { in_range = omega arith; here = omega arith };
      }
  between (p ∷ ps) a b k h low high (suc i) d l =
      let up = here p h.0 in
      let e : part (from_of net p) ≡ part a = ap part h.1 in
      between ps (to_of net p) b k h.2 (omega arith) high i d (omega arith)

  pub circuit_in_part : (ps : List PlaceId) → IsCircuit net ps → (k : ℕ) × All (IsPlaceOfPart net part_of k) ps
  circuit_in_part ps c =
      let a : ℕ = c.closed.0 in
      (part a, λ i d l. between ps a a (part a) c.closed.1 (omega arith) (omega arith) i d l)
