-- What circuits, potentials and numbers show of the slack of a place.
use Rattle.std.proofs.Common.{ℕ, zero, suc, ◌+◌, ◌*◌, ◌≤◌, ◌≡◌, List, [], ◌∷◌, Option, Some, None, true, eqb, get_or, refl, ap, subst, arith}
use Rattle.std.specs.Prelude.{ℤ, pos, ◌+ℤ◌, ◌-ℤ◌, ◌≤ℤ◌, Contains, sum_by, max}
use Rattle.std.proofs.lemmas.Int.{ints}
use Rattle.std.proofs.lemmas.Bool.{eq-eqb}
use Rattle.std.proofs.lemmas.List.Sums.{sum_by-cons}
use Rattle.teg_net.specs.declared.entries.PlaceId.{PlaceId}
use Rattle.teg_net.specs.declared.answers.PartAnswer.{PartAnswer}
use Rattle.teg_net.specs.declared.answers.CycleAnswer.{CycleAnswer}
use Rattle.teg_net.specs.Nets.{NetLists, HasEndsInRange}
use Rattle.teg_net.specs.Ratios.{Fraction}
use Rattle.teg_net.specs.Circuits.{place_at, IsCircuit, time_of, tokens_of}
use Rattle.teg_net.specs.Parts.{IsPlaceOfPart}
use Rattle.teg_net.specs.GreatestRatios.{IsGreatestRatio, IsAnyPlace, IsCycleTime}
use Rattle.teg_net.specs.Certificates.{IsCertificate}
use Rattle.teg_net.proofs.PathLaws.{IsPathBetween-in_range}
use Rattle.teg_certificates.specs.Weights.{weight_of}
use Rattle.teg_certificates.specs.BestRatios.{named_ratio, best_ratio_of}
use Rattle.teg_certificates.specs.SlackWitnesses.{gain_at, CriticalCircuitsTell, RisePotentialsTell, RisingNumbersShowNoCircuit}
use Rattle.teg_certificates.proofs.PathSums.{weights_bounded}
use Rattle.teg_certificates.proofs.Certified.{tell_of_nets}
use Rattle.teg_certificates.proofs.Inside.{circuit_in_part}

-- ---- circuits

named_greatest : (net : NetLists) (answers : List PartAnswer) (best : Option ℕ) (r : Fraction) → IsCycleTime net answers best → named_ratio answers best ≡ Some r → IsGreatestRatio net IsAnyPlace r
named_greatest net answers None r h e = let f : ⊥ = cc in absurd f
named_greatest net answers (Some k) r h e = let here = h.1 in let is : h.0 ≡ r = cc in subst (IsGreatestRatio net IsAnyPlace) is h.2

-- the ratio of the best part of a certified answer is the greatest of the net
pub best_greatest : (net : NetLists) (answer : CycleAnswer) → HasEndsInRange net → IsCertificate net answer → (r : Fraction) → best_ratio_of answer ≡ Some r → IsGreatestRatio net IsAnyPlace r
best_greatest net answer ends h r e = named_greatest net answer.parts.items answer.best r (tell_of_nets net answer ends h) e

pub critical_shown : CriticalCircuitsTell
critical_shown net answer ends h r e p ps c = (best_greatest net answer ends h r e, (ps, c.circuit, c.passes, c.attains))

-- ---- potentials

-- what one element counts is no more than what all count together
counted : (f : PlaceId → ℕ) (p : PlaceId) (ps : List PlaceId) → Contains ps p → f p ≤ sum_by f ps
counted f p [] h = absurd (let l = h.1 in omega arith)
counted f p (q ∷ ps) (zero, l, e) = let s = sum_by-cons f q ps in let is : f q ≡ f p = ap f e in omega arith
counted f p (q ∷ ps) (suc k, l, e) = let s = sum_by-cons f q ps in let rest = counted f p ps (k, omega arith, e) in omega arith

module _ (net : NetLists) (r : Fraction) (p : PlaceId) (by : ℕ) where
  abbrev weight : PlaceId → ℤ
  weight q = (pos (r.tokens * (place_at net q).hold) -ℤ pos (r.time * (place_at net q).tokens)) +ℤ pos (gain_at r p by q)

  abbrev gains : List PlaceId → ℕ
  gains ps = sum_by (gain_at r p by) ps

  weighs : (ps : List PlaceId) → (weight_of weight ps +ℤ pos (r.time * tokens_of net ps)) ≡ (pos (r.tokens * time_of net ps) +ℤ pos (gains ps))
  weighs [] = let e : r.time * 0 ≡ r.tokens * 0 = grind arith in rw e (omega (arith, ints))
  weighs (q ∷ ps) =
      let rest = weighs ps in
      let time : r.tokens * time_of net (q ∷ ps) ≡ r.tokens * (place_at net q).hold + r.tokens * time_of net ps = rw (sum_by-cons (λ x. (place_at net x).hold) q ps) (grind arith) in
      let tokens : r.time * tokens_of net (q ∷ ps) ≡ r.time * (place_at net q).tokens + r.time * tokens_of net ps = rw (sum_by-cons (λ x. (place_at net x).tokens) q ps) (grind arith) in
      let gain : gains (q ∷ ps) ≡ gain_at r p by q + gains ps = sum_by-cons (gain_at r p by) q ps in
      rw (time, tokens, gain) (omega (arith, ints, rest))

  gain_here : gain_at r p by p ≡ max 1 (r.tokens * by)
  gain_here = let b : eqb p.index p.index ≡ true = eq-eqb p.index p.index refl in rw b refl

  -- a circuit that passes the place lacks its gain
  lacks : (ps : List PlaceId) → weight_of weight ps ≤ℤ pos 0 → Contains ps p → r.tokens * time_of net ps + max 1 (r.tokens * by) ≤ r.time * tokens_of net ps
  lacks ps down passes =
      let is = weighs ps in
      let one = counted (gain_at r p by) p ps passes in
      let here = gain_here in
      let all : r.tokens * time_of net ps + gains ps ≤ r.time * tokens_of net ps = omega (arith, ints, down, is) in
      omega arith

move_gain : (w u v : ℤ) (gain : ℕ) → (w +ℤ u) ≤ℤ (v -ℤ pos gain) → ((w +ℤ pos gain) +ℤ u) ≤ℤ v
move_gain w u v gain h = omega (arith, ints)

pub rise_shown : RisePotentialsTell
rise_shown net r p by vs h =
    let down = λ (ps : List PlaceId) (c : IsCircuit net ps).
    let there = IsPathBetween-in_range net ps c.closed.0 c.closed.0 c.closed.1 in
    weights_bounded net (weight net r p by) (λ t. get_or vs t (pos 0)) ps c (λ i d l. move_gain _ _ _ (gain_at r p by (get_or ps i d)) (h.kept (get_or ps i d) (there i d l))) in
    record {
      kept = λ ps c passes.
          let low = lacks net r p by ps (down ps c) passes in
          let wide : (time_of net ps + by) * r.tokens ≡ r.tokens * time_of net ps + r.tokens * by = grind arith in
          omega arith;
      below = λ ps c passes.
          let low = lacks net r p by ps (down ps c) passes in
          let turned : time_of net ps * r.tokens ≡ r.tokens * time_of net ps = grind arith in
          omega arith;
    }

-- ---- numbers

pub no_circuit_shown : RisingNumbersShowNoCircuit
no_circuit_shown net numbers p ends h ps c passes =
    let w = circuit_in_part net ends numbers h.count h.never_falls ps c in
    let here = h.here in
    let there = w.1 passes.0 p passes.1 in
    let is : get_or ps passes.0 p ≡ p = passes.2 in
    let inside : IsPlaceOfPart net numbers w.0 p = subst (IsPlaceOfPart net numbers w.0) is there in
    let from = inside.from_member.here in
    let to = inside.to_member.here in
    absurd (omega arith)
