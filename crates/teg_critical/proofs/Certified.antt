-- What a certificate says of paths: those that end in the part where they begin stay there.
use Rattle.std.proofs.Common.{ℕ, ◌<◌, ◌≤◌, ◌≡◌, List, [], ◌∷◌, length, zero, suc, Option, Some, None, refl, ap, subst, ◌∙◌, arith}
use Rattle.std.specs.Prelude.{All, slice_index, slice_index_or}
use Rattle.teg_net.specs.declared.entries.PlaceId.{PlaceId}
use Rattle.teg_net.specs.declared.answers.PartAnswer.{PartAnswer}
use Rattle.teg_net.specs.declared.answers.PartAnswer.TheVariants.{NoCircuit, Best}
use Rattle.teg_net.specs.declared.answers.CycleAnswer.{CycleAnswer}
use Rattle.teg_net.specs.Nets.{NetLists, IsNet, IsPlaceOf}
use Rattle.teg_net.specs.Ratios.{Fraction}
use Rattle.teg_net.specs.Circuits.{no_place, place_at, from_of, IsPathBetween}
use Rattle.teg_net.specs.Parts.{to_of, IsPlaceOfPart}
use Rattle.teg_net.specs.GreatestRatios.{IsAnyPlace, HasNoCircuit, ratio_in, ratio_at}
use Rattle.teg_net.specs.Certificates.{IsPartCertificate, IsCertificate}
use Rattle.teg_critical.specs.Losses.{ratio_of}

-- a part in which some place lies tells a ratio
pub ratio_told : (net : NetLists) (part_of : List ℕ) (k : ℕ) (q : PartAnswer) → IsPartCertificate net part_of k q → (p : PlaceId) → IsPlaceOfPart net part_of k p → ratio_in q ≡ Some (ratio_of q)
ratio_told net part_of k NoCircuit h p inside = absurd (h p inside)
ratio_told net part_of k (Best ratio circuit potentials) h p inside = refl

module _ (net : NetLists) (ok : IsNet net) (answer : CycleAnswer) (h : IsCertificate net answer) where
  abbrev parts : List ℕ
  parts = answer.part_of.items

  abbrev told_of : ℕ → PartAnswer
  told_of k = slice_index_or answer.parts.items k NoCircuit

  rules_of : (p : PlaceId) → p.index < length net.places → IsPlaceOf net (place_at net p)
  rules_of p l = ok.each_place p.index no_place l

  -- along a path part numbers never fall
  pub parts_rise : (ps : List PlaceId) (a b : ℕ) → IsPathBetween net a ps b → slice_index parts a ≤ slice_index parts b
  parts_rise [] a b path = let e : slice_index parts a ≡ slice_index parts b = ap (slice_index parts) path in omega arith
  parts_rise (p ∷ ps) a b path =
      let from : slice_index parts (from_of net p) ≡ slice_index parts a = ap (slice_index parts) path.1 in
      let here : slice_index parts (from_of net p) ≤ slice_index parts (to_of net p) = h.rises p.index no_place path.0 in
      let rest = parts_rise ps (to_of net p) b path.2 in
      omega arith

  place_inside : (k : ℕ) (p : PlaceId) (ps : List PlaceId) (a b : ℕ) → slice_index parts a ≡ k → slice_index parts b ≡ k
      → IsPathBetween net a (p ∷ ps) b → (slice_index parts (from_of net p) ≡ k) × (slice_index parts (to_of net p) ≡ k)
  place_inside k p ps a b ea eb path =
      let from : slice_index parts (from_of net p) ≡ k = ap (slice_index parts) path.1 ∙ ea in
      let here : slice_index parts (from_of net p) ≤ slice_index parts (to_of net p) = h.rises p.index no_place path.0 in
      let on = parts_rise ps (to_of net p) b path.2 in
      (from, omega arith)

  -- a path that ends in the part where it begins stays there
  pub path_inside : (k : ℕ) (ps : List PlaceId) (a b : ℕ) → slice_index parts a ≡ k → slice_index parts b ≡ k → IsPathBetween net a ps b → All (IsPlaceOfPart net parts k) ps
  path_inside k [] a b ea eb path i d l = absurd (omega arith)
  path_inside k (p ∷ ps) a b ea eb path zero d l =
      let ends = place_inside k p ps a b ea eb path in
      let rules = rules_of p path.0 in
      let count = h.count in
      let from_in : from_of net p < length net.transitions = rules.from_in in
      let to_in : to_of net p < length net.transitions = rules.to_in in
      record { in_range = path.0; from_member = record { in_range = omega arith; here = ends.0 }; to_member = record { in_range = omega arith; here = ends.1 } }
  path_inside k (p ∷ ps) a b ea eb path (suc i) d l = path_inside k ps (to_of net p) b (place_inside k p ps a b ea eb path).1 eb path.2 i d (omega arith)

  -- the number of a transition's part is that of an answer
  pub part_below : (t : ℕ) → t < length net.transitions → slice_index parts t < length answer.parts.items
  part_below t l = h.below t 0 (let e = h.count in omega arith)

  -- the answer of a part is certified
  pub certified : (k : ℕ) → k < length answer.parts.items → IsPartCertificate net parts k (told_of k)
  certified k l = h.parts k l

  -- the part of a closed path
  pub closed_inside : (p : PlaceId) (ps : List PlaceId) (a : ℕ) → IsPathBetween net a (p ∷ ps) a → All (IsPlaceOfPart net parts (slice_index parts a)) (p ∷ ps)
  closed_inside p ps a path = path_inside (slice_index parts a) (p ∷ ps) a a refl refl path

  start_below : (p : PlaceId) (ps : List PlaceId) (a b : ℕ) → IsPathBetween net a (p ∷ ps) b → a < length net.transitions
  start_below p ps a b path = subst (λ (z : ℕ). z < length net.transitions) path.1 (rules_of p path.0).from_in

  own_told : (p : PlaceId) (ps : List PlaceId) (a : ℕ) → IsPathBetween net a (p ∷ ps) a → ratio_at answer.parts.items (slice_index parts a) ≡ Some (ratio_of (told_of (slice_index parts a)))
  own_told p ps a path =
      let k : ℕ = slice_index parts a in
      ratio_told net parts k (told_of k) (certified k (part_below a (start_below p ps a a path))) p (closed_inside p ps a path 0 p (omega arith))

  -- where no part tells a ratio there is no circuit
  pub no_circuit : ((j : ℕ) → ratio_at answer.parts.items j ≡ None) → HasNoCircuit net IsAnyPlace
  no_circuit none ps c all = closed ps c.closed.0 c.not_empty c.closed.1 where
    apart : (r : Fraction) (o : Option Fraction) → o ≡ None → o ≡ Some r → ⊥
    apart r o e f = cc

    closed : (ps : List PlaceId) (a : ℕ) → 0 < length ps → IsPathBetween net a ps a → ⊥
    closed [] a l path = absurd (omega arith)
    closed (p ∷ ps) a l path = apart (ratio_of (told_of (slice_index parts a))) (ratio_at answer.parts.items (slice_index parts a)) (none (slice_index parts a)) (own_told p ps a path)
