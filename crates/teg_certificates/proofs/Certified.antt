-- What a certificate shows, from the certificate alone.
use Rattle.std.proofs.Common.{ℕ, ◌*◌, ◌<◌, ◌≤◌, ◌≡◌, List, Option, Some, None, length, get_or, refl, subst, arith}
use Rattle.std.specs.Prelude.{All}
use Rattle.std.proofs.lemmas.Int.{ints}
use Rattle.teg_net.specs.declared.entries.PlaceId.{PlaceId}
use Rattle.teg_net.specs.declared.answers.Potential.{Potential}
use Rattle.teg_net.specs.declared.answers.PartAnswer.{PartAnswer}
use Rattle.teg_net.specs.declared.answers.PartAnswer.TheVariants.{NoCircuit, Best}
use Rattle.teg_net.specs.declared.answers.CycleAnswer.{CycleAnswer}
use Rattle.teg_net.specs.Nets.{NetLists, HasEndsInRange}
use Rattle.teg_net.specs.Ratios.{Fraction}
use Rattle.teg_net.specs.Circuits.{IsCircuit, time_of, tokens_of}
use Rattle.teg_net.specs.Parts.{IsPlaceOfPart}
use Rattle.teg_net.specs.ReducedTimes.{reduced_time}
use Rattle.teg_net.specs.GreatestRatios.{IsGreatestRatio, HasNoCircuit, ratio_in, IsFirstGreatest, IsCycleTime}
use Rattle.teg_net.specs.Certificates.{potential_at, ArePotentials, IsPartCertificate, IsCertificate}
use Rattle.teg_certificates.proofs.PathSums.{weight_is, reduced_is, weights_bounded}
use Rattle.teg_certificates.proofs.Ratios.{ratio_trans}
use Rattle.teg_certificates.specs.CertifiedNets.{TellsOfPart, CertificatesTellOfNets, CertificatesTellOfParts, PotentialsBoundRatios}
use Rattle.teg_certificates.proofs.Inside.{circuit_in_part}
use Rattle.teg_certificates.proofs.NamedRatios.{told_in}

-- a part without a place in it has no circuit
pub no_place_no_circuit : (net : NetLists) (part_of : List ℕ) (part : ℕ) → ((p : PlaceId) → IsPlaceOfPart net part_of part p → ⊥) → HasNoCircuit net (IsPlaceOfPart net part_of part)
no_place_no_circuit net part_of part none ps c inside = let p : PlaceId = get_or ps 0 (record { index = 0 }) in none p (inside 0 (record { index = 0 }) c.not_empty)

pub bound_ratios : PotentialsBoundRatios
bound_ratios net part_of part a b v h ps c inside =
    let up = rw (reduced_is net a b ps) at (weights_bounded net (reduced_time net a b) v ps c (λ i d l. h (get_or ps i d) (inside i d l))) in
    let w = weight_is net a b ps in
    let low : b * time_of net ps ≤ a * tokens_of net ps = omega (arith, ints, up, w) in
    grind (arith, low)

-- potentials that no place of a part exceeds bound the ratio of each circuit in it
pub bounded : (net : NetLists) (part_of : List ℕ) (part : ℕ) (r : Fraction) (vs : List Potential) → ArePotentials net part_of part r vs
    → (ps : List PlaceId) → IsCircuit net ps → All (IsPlaceOfPart net part_of part) ps
    → time_of net ps * r.tokens ≤ r.time * tokens_of net ps
bounded net part_of part r vs h = bound_ratios net part_of part r.time r.tokens (potential_at vs) h

tells : (net : NetLists) (part_of : List ℕ) (part : ℕ) (answer : PartAnswer) → IsPartCertificate net part_of part answer → TellsOfPart net part_of part answer
tells net part_of part NoCircuit h = no_place_no_circuit net part_of part h
tells net part_of part (Best ratio circuit potentials) h = record {
  some = h.terms.some;
  attained = (circuit.places.items, h.circuit, h.inside, h.attains);
  token = h.token;
  greatest = bounded net part_of part ratio potentials.items h.potentials;
}

pub tell_of_parts : CertificatesTellOfParts
tell_of_parts net answer h k l = tells net answer.part_of.items k (get_or answer.parts.items k NoCircuit) (h.parts k l)

-- the part that an answer tells of has this ratio
told_part : (net : NetLists) (part_of : List ℕ) (part : ℕ) (answer : PartAnswer) (q : Fraction) → TellsOfPart net part_of part answer
    → ratio_in answer ≡ Some q → IsGreatestRatio net (IsPlaceOfPart net part_of part) q
told_part net part_of part NoCircuit q h e = let f : ⊥ = cc in absurd f
told_part net part_of part (Best ratio circuit potentials) q h e = let is : ratio ≡ q = cc in subst (IsGreatestRatio net (IsPlaceOfPart net part_of part)) is h

-- a circuit in the part bounds below what the answer tells
told_of : (net : NetLists) (part_of : List ℕ) (part : ℕ) (answer : PartAnswer) → TellsOfPart net part_of part answer → (ps : List PlaceId) → IsCircuit net ps → All (IsPlaceOfPart net part_of part) ps
    → (q : Fraction) × (ratio_in answer ≡ Some q) × (1 ≤ q.tokens) × (time_of net ps * q.tokens ≤ q.time * tokens_of net ps)
told_of net part_of part NoCircuit h ps c i = absurd (h ps c i)
told_of net part_of part (Best ratio circuit potentials) h ps c i = (ratio, refl, h.some, h.greatest ps c i)

-- each circuit lies in a part that the answer tells of
in_told : (net : NetLists) (answer : CycleAnswer) → HasEndsInRange net → IsCertificate net answer → (ps : List PlaceId) → IsCircuit net ps
    → (k : ℕ) × (k < length answer.parts.items) × All (IsPlaceOfPart net answer.part_of.items k) ps
in_told net answer ends h ps c =
    let w = circuit_in_part net ends answer.part_of.items h.count h.rises ps c in
    let p : PlaceId = get_or ps 0 (record { index = 0 }) in
    let first = (w.1 0 (record { index = 0 }) c.not_empty).from_member in
    let b = h.below _ 0 first.in_range in
    let here = first.here in
    (w.0, omega arith, w.1)

by_best : (net : NetLists) (answer : CycleAnswer) → HasEndsInRange net → IsCertificate net answer → (best : Option ℕ) → IsFirstGreatest answer.parts.items best → IsCycleTime net answer.parts.items best
by_best net answer ends h None none = λ ps c i.
    let w = in_told net answer ends h ps c in
    let t = told_of net answer.part_of.items w.0 (get_or answer.parts.items w.0 NoCircuit) (tell_of_parts net answer h w.0 w.1) ps c w.2 in
    let e = none w.0 in
    let s = t.1 in
    let f : ⊥ = cc in f
by_best net answer ends h (Some k) best =
    let r : Fraction = best.0 in
    let b = best.1 in
    let l = told_in answer.parts.items k r b.here in
    let g = told_part net answer.part_of.items k (get_or answer.parts.items k NoCircuit) r (tell_of_parts net answer h k l) b.here in (
      r,
      b.here,
      record {
        some = g.some;
        attained = (g.attained.0, g.attained.1, (λ i d m. tt), g.attained.3);
        token = g.token;
        greatest = λ ps c i.
            let w = in_told net answer ends h ps c in
            let t = told_of net answer.part_of.items w.0 (get_or answer.parts.items w.0 NoCircuit) (tell_of_parts net answer h w.0 w.1) ps c w.2 in
            let q : Fraction = t.0 in
            ratio_trans (time_of net ps) (tokens_of net ps) q.time q.tokens r.time r.tokens (let s = t.2 in omega arith) t.3 (b.greatest w.0 q t.1);
      },
    )

pub tell_of_nets : CertificatesTellOfNets
tell_of_nets net answer ends h = by_best net answer ends h answer.best h.best
