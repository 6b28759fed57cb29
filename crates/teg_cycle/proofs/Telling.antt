-- What an answer tells makes a certificate of it.
use Rattle.std.proofs.Common.{ℕ, zero, suc, ◌<◌, ◌≤◌, ◌≡◌, ◌≢◌, List, [], ◌∷◌, ◌++◌, Some, true, false, eqb, length, get_or, refl, sym, subst, arith, ⊎_elim}
use Rattle.std.specs.Prelude.{ℤ, All, Contains}
use Rattle.std.proofs.lemmas.Int.{ints}
use Rattle.std.proofs.lemmas.Bool.{cases_Bool, eqb-true, eq-eqb}
use Rattle.std.proofs.lemmas.List.Elements.{All-tail, All-append}
use Rattle.teg_net.specs.declared.entries.PlaceId.{PlaceId}
use Rattle.teg_net.specs.declared.answers.Potential.{Potential}
use Rattle.teg_net.specs.declared.answers.PartAnswer.{PartAnswer}
use Rattle.teg_net.specs.declared.answers.PartAnswer.TheVariants.{NoCircuit, Best}
use Rattle.teg_net.specs.Nets.{NetLists}
use Rattle.teg_net.specs.Ratios.{Fraction}
use Rattle.teg_net.specs.Circuits.{from_of, IsPathBetween}
use Rattle.teg_net.specs.Parts.{to_of, IsPlaceOfPart}
use Rattle.teg_net.specs.ReducedTimes.{IsGreatestPathTime}
use Rattle.teg_net.specs.PartAnswers.{first_transition_of, transitions_of, IsBestOfPart, IsPartAnswer}
use Rattle.teg_net.specs.Certificates.{potential_at, ArePotentials, IsPartCertificate}
use Rattle.teg_net.proofs.PathLaws.{IsPathBetween-append}
use Rattle.std.proofs.lemmas.Bool.{cases_lt}
use Rattle.std.proofs.lemmas.List.{length_push, get_or_push, get_or_append_left}
use Rattle.teg_net.specs.declared.rounds.Round.{Round}
use Rattle.teg_net.specs.GreatestRatios.{ratio_in}
use Rattle.teg_net.specs.PartAnswers.{ArePartAnswers}
use Rattle.policy_rounds.specs.PolicyRounds.{IsPolicyRun}
use Rattle.teg_cycle.specs.BestParts.{HaveTokens}
use Rattle.teg_certificates.proofs.NamedRatios.{told_in}
use Rattle.policy_rounds.specs.RunAnswers.{KeepsLimits, IsAnswerOfLast}
use Rattle.teg_certificates.proofs.PathSums.{weight-append}

-- what holds of each potential told holds of that of each transition told of
pub told_at : (P : ℕ → ℤ → Type 0) (vs : List Potential) (t : ℕ) → All (λ v. P v.transition.index v.value) vs → Contains (transitions_of vs) t → P t (potential_at vs t)
told_at P [] t h c = let l = c.1 in absurd (omega arith)
told_at P (v ∷ vs) t h (zero, l, e) =
    let here : v.transition.index ≡ t = e in
    let b : eqb v.transition.index t ≡ true = eq-eqb v.transition.index t here in
    rw b (subst (λ x. P x v.value) here (h 0 v (omega arith)))
told_at P (v ∷ vs) t h (suc k, l, e) =
    ⊎_elim
    (λ (b : eqb v.transition.index t ≡ true). rw b (subst (λ x. P x v.value) (eqb-true v.transition.index t b) (h 0 v (omega arith))))
    (λ (b : eqb v.transition.index t ≡ false). rw b (told_at P vs t (All-tail (λ w. P w.transition.index w.value) v vs h) (k, (let m : k < length (transitions_of vs) = omega arith in m), e)))
    (cases_Bool (eqb v.transition.index t))

one_place : (net : NetLists) (part_of : List ℕ) (part : ℕ) (p : PlaceId) → IsPlaceOfPart net part_of part p → All (IsPlaceOfPart net part_of part) (p ∷ [])
one_place net part_of part p h zero d l = h
one_place net part_of part p h (suc i) d l = absurd (omega arith)

-- greatest sums are potentials that no place exceeds
pub sums_are_potentials : (net : NetLists) (part_of : List ℕ) (part : ℕ) (r : Fraction) (c : List PlaceId) (vs : List Potential)
    → IsBestOfPart net part_of part r c vs → ArePotentials net part_of part r vs
sums_are_potentials net part_of part r c vs h p inside =
    let s : ℕ = first_transition_of net c in
    let a : ℕ = r.time in
    let b : ℕ = r.tokens in
    let P : ℕ → ℤ → Type 0 = λ t z. IsGreatestPathTime net part_of part a b s t z in
    let from = told_at P vs (from_of net p) h.sums (h.members.all (from_of net p) inside.from_member) in
    let to = told_at P vs (to_of net p) h.sums (h.members.all (to_of net p) inside.to_member) in
    let ps : List PlaceId = from.attained.0 in
    let path : IsPathBetween net s (ps ++ p ∷ []) (to_of net p) = IsPathBetween-append net ps (p ∷ []) s (from_of net p) (to_of net p) from.attained.1 (inside.in_range, refl, refl) in
    let all = All-append (IsPlaceOfPart net part_of part) ps (p ∷ []) from.attained.2 (one_place net part_of part p inside) in
    let low = to.greatest (ps ++ p ∷ []) path all in
    let sum = weight-append net a b ps (p ∷ []) in
    let at = from.attained.3 in
    omega (arith, ints, low, sum, at)

pub answer_certifies : (net : NetLists) (part_of : List ℕ) (part : ℕ) (answer : PartAnswer) → IsPartAnswer net part_of part answer
    → KeepsLimits answer → answer ≢ NoCircuit → IsPartCertificate net part_of part answer
answer_certifies net part_of part NoCircuit h k n = absurd (n refl)
answer_certifies net part_of part (Best ratio circuit potentials) h k n = record {
  time_in = let l = k.0 in omega arith;
  tokens_in = let l = k.1 in omega arith;
  terms = h.terms;
  circuit = h.circuit;
  inside = h.inside;
  attains = h.attains;
  token = h.token;
  members = h.members;
  within = λ i d l. let w = k.2 i d l in let low = w.low in let high = w.high in record { low = omega (arith, ints); high = omega (arith, ints) };
  potentials = sums_are_potentials net part_of part ratio circuit.places.items potentials.items h;
}

-- a part with a policy run is not told to have no circuit
pub run_tells : (net : NetLists) (part_of : List ℕ) (part : ℕ) (rounds : List Round) (answer : PartAnswer) → IsPolicyRun net part_of part rounds → IsAnswerOfLast rounds answer → answer ≢ NoCircuit
run_tells net part_of part [] answer run is = absurd (omega (arith, run.run.some))
run_tells net part_of part (r ∷ rs) NoCircuit run is = absurd (is r)
run_tells net part_of part (r ∷ rs) (Best ratio circuit potentials) run is = λ e. cc

-- what holds of each answer, and of one more at the end, holds of each
pub each_push : (P : ℕ → PartAnswer → Type 0) (xs : List PartAnswer) (x : PartAnswer)
    → ((k : ℕ) → k < length xs → P k (get_or xs k NoCircuit)) → P (length xs) x → (k : ℕ) → k < length (xs ++ x ∷ []) → P k (get_or (xs ++ x ∷ []) k NoCircuit)
each_push P xs x h here k l =
    let long = length_push xs x in
    ⊎_elim
    (λ (q : k < length xs). subst (P k) (sym (get_or_append_left xs (x ∷ []) NoCircuit k q)) (h k q))
    (λ (q : length xs ≤ k).
    let at : length xs ≡ k = omega arith in
    subst (P k) (sym (get_or_push xs x NoCircuit k at)) (subst (λ y. P y x) at here))
    (cases_lt k (length xs))

tokens_in : (net : NetLists) (part_of : List ℕ) (part : ℕ) (answer : PartAnswer) (q : Fraction) → IsPartAnswer net part_of part answer → ratio_in answer ≡ Some q → 1 ≤ q.tokens
tokens_in net part_of part NoCircuit q h e = let f : ⊥ = cc in absurd f
tokens_in net part_of part (Best ratio circuit potentials) q h e = let is : ratio ≡ q = cc in subst (λ x. 1 ≤ x.tokens) is h.terms.some

pub have_tokens : (net : NetLists) (part_of : List ℕ) (answers : List PartAnswer) → ArePartAnswers net part_of answers → HaveTokens answers
have_tokens net part_of answers h k q e = tokens_in net part_of k (get_or answers k NoCircuit) q (h k (told_in answers k q e)) e
