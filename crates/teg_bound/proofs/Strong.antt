-- What the parts of a net and its certificate tell of a net without dates from outside.
use Rattle.std.proofs.Common.{ℕ, ◌<◌, ◌≤◌, ◌≡◌, ◌≢◌, List, Option, Some, None, length, get_or, refl, sym, subst, ◌∙◌, arith}
use Rattle.teg_net.specs.declared.entries.PlaceId.{PlaceId}
use Rattle.teg_net.specs.declared.answers.PartAnswer.{PartAnswer}
use Rattle.teg_net.specs.declared.answers.PartAnswer.TheVariants.{NoCircuit, Best}
use Rattle.teg_net.specs.declared.answers.CycleAnswer.{CycleAnswer}
use Rattle.teg_net.specs.Nets.{NetLists, IsNet}
use Rattle.teg_net.specs.Ratios.{Fraction, IsLowestTerms}
use Rattle.teg_net.specs.Circuits.{no_place, from_of, IsCircuit, IsLive}
use Rattle.teg_net.specs.Parts.{to_of}
use Rattle.teg_net.specs.GreatestRatios.{IsGreatestRatio, IsAnyPlace, IsCycleTime, ratio_in, ratio_at}
use Rattle.teg_net.specs.Certificates.{IsCertificate, IsPartCertificate}
use Rattle.teg_net.specs.Limits.{greatest_circuit_time, most_circuit_tokens}
use Rattle.teg_net.proofs.NetRules.{net_ends}
use Rattle.teg_parts.specs.Partitions.{PartLists, AreParts}
use Rattle.teg_certificates.specs.BestRatios.{named_ratio, best_ratio_of}
use Rattle.teg_certificates.proofs.Certified.{tell_of_nets}
use Rattle.teg_certificates.proofs.NamedRatios.{told_in}
use Rattle.bound_laws.proofs.teg_loops_proofs.Through.{pass_back}
use Rattle.teg_bound.specs.PeriodicBounds.{EachReachesEach, HasNoWay}
use Rattle.teg_bound.proofs.Small.{ratio_small}

-- ---- parts

-- in one part each transition reaches each
pub one_part : (net : NetLists) (p : PartLists) → AreParts net p → length p.inner ≤ 1 → EachReachesEach net
one_part net p h few s t s_in t_in =
    let count = h.strong.count in
    let first : get_or p.part_of s 0 < length p.inner = h.below s 0 (omega arith) in
    let second : get_or p.part_of t 0 < length p.inner = h.below t 0 (omega arith) in
    let same : get_or p.part_of s 0 ≡ get_or p.part_of t 0 = omega arith in
    ((h.strong.strong s t (omega arith) (omega arith)).0 same).0

-- in several some transition does not reach some other: one of the second does not reach one of the first, which is upstream of it
pub two_parts : (net : NetLists) (p : PartLists) → AreParts net p → 1 < length p.inner → HasNoWay net
two_parts net p h more =
    let first = h.some_member 0 (omega arith) in
    let second = h.some_member 1 more in
    let count = h.strong.count in
    let here = first.1.in_range in
    let there = second.1.in_range in
    record {
      from = second.0;
      to = first.0;
      from_in = omega arith;
      to_in = omega arith;
      none = λ way.
          let is : get_or p.part_of second.0 0 ≡ 1 = second.1.here in
          let below = h.order.may 0 (omega arith) first.0 second.0 first.1 second.1.in_range way (λ e. (omega arith)) in
          (omega arith);
    }

-- ---- circuits

-- where each transition reaches each, and there is a place, there is a circuit
pub some_circuit : (net : NetLists) → IsNet net → EachReachesEach net → 0 < length net.places → (ps : List PlaceId) × IsCircuit net ps
some_circuit net rules each some =
    let p : PlaceId = record { index = 0 } in
    let is = rules.each_place 0 no_place some in
    let round = (pass_back net p some).1 (each (to_of net p) (from_of net p) is.to_in is.from_in) in
    (round.0, round.1)

-- ---- the answer on cycle times

-- the answer of the best part tells this ratio
pub record TellsBest (answer : CycleAnswer) (r : Fraction) : Type 0 where
  pub part : ℕ
  pub named : answer.best ≡ Some part
  pub told : ratio_at answer.parts.items part ≡ Some r

named_tells : (answers : List PartAnswer) (best : Option ℕ) (r : Fraction) → named_ratio answers best ≡ Some r → (k : ℕ) × (best ≡ Some k) × (ratio_at answers k ≡ Some r)
named_tells answers None r e = let f : ⊥ = cc in absurd f
named_tells answers (Some k) r e = (k, refl, e)

pub tells_best : (answer : CycleAnswer) (r : Fraction) → best_ratio_of answer ≡ Some r → TellsBest answer r
tells_best answer r e = let w = named_tells answer.parts.items answer.best r e in record { part = w.0; named = w.1; told = w.2 }

named_some : (net : NetLists) (answers : List PartAnswer) (best : Option ℕ) → IsCycleTime net answers best → named_ratio answers best ≡ None → best ≡ None
named_some net answers None told e = refl
named_some net answers (Some k) told e = let r = told.1 in let f : ⊥ = cc in absurd f

pub some_best : (net : NetLists) (answer : CycleAnswer) → IsNet net → IsCertificate net answer → EachReachesEach net → 0 < length net.places → best_ratio_of answer ≢ None
some_best net answer rules cert each some none =
    let c = some_circuit net rules each some in
    let told : IsCycleTime net answer.parts.items answer.best = tell_of_nets net answer (net_ends net rules) cert in
    let no : IsCycleTime net answer.parts.items None = subst (IsCycleTime net answer.parts.items) (named_some net answer.parts.items answer.best told none) told in
    no c.0 c.1 (λ i d l. tt)

-- the ratio of the best part is the greatest
best_greatest : (net : NetLists) (answer : CycleAnswer) (r : Fraction) → IsNet net → IsCertificate net answer → TellsBest answer r → IsGreatestRatio net IsAnyPlace r
best_greatest net answer r rules cert h =
    let told : IsCycleTime net answer.parts.items (Some h.part) = subst (IsCycleTime net answer.parts.items) h.named (tell_of_nets net answer (net_ends net rules) cert) in
    let both : Some told.0 ≡ Some r = sym told.1 ∙ h.told in
    let is : told.0 ≡ r = cc in
    subst (IsGreatestRatio net IsAnyPlace) is told.2

part_terms : (net : NetLists) (part_of : List ℕ) (part : ℕ) (answer : PartAnswer) (r : Fraction) → IsPartCertificate net part_of part answer → ratio_in answer ≡ Some r → IsLowestTerms r
part_terms net part_of part NoCircuit r h e = let f : ⊥ = cc in absurd f
part_terms net part_of part (Best ratio circuit potentials) r h e = let is : ratio ≡ r = cc in subst IsLowestTerms is h.terms

-- and in lowest terms
best_terms : (net : NetLists) (answer : CycleAnswer) (r : Fraction) → IsCertificate net answer → TellsBest answer r → IsLowestTerms r
best_terms net answer r cert h =
    part_terms net answer.part_of.items h.part (get_or answer.parts.items h.part NoCircuit) r (cert.parts h.part (told_in answer.parts.items h.part r h.told)) h.told

-- what the ratio of the best part is
pub record IsBest (net : NetLists) (r : Fraction) : Type 0 where
  pub greatest : IsGreatestRatio net IsAnyPlace r
  pub terms : IsLowestTerms r
  pub small : (r.time ≤ greatest_circuit_time) × (r.tokens ≤ most_circuit_tokens)

pub best_is : (net : NetLists) (answer : CycleAnswer) (r : Fraction) → IsNet net → IsLive net → IsCertificate net answer → TellsBest answer r → IsBest net r
best_is net answer r rules live cert h =
    let greatest = best_greatest net answer r rules cert h in
    let terms = best_terms net answer r cert h in
    record { greatest = greatest; terms = terms; small = ratio_small net r rules live greatest terms }
