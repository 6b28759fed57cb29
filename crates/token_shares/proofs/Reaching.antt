-- Numbers of further tokens that are enough, where some are, and circuits for whose sake none are.
use Rattle.std.proofs.Common.{ℕ, zero, suc, ◌+◌, ◌*◌, ◌<◌, ◌≤◌, ◌≡◌, ◌≢◌, List, [], ◌∷◌, length, map, refl, ap, ◌∙◌, arith, inl, inr, ◌⊎◌, ⊎_elim}
use Rattle.std.specs.Prelude.{All, Contains}
use Rattle.std.proofs.Math.Nat.{mul-le-mul_left, mul-le-mul_right}
use Rattle.std.proofs.lemmas.Bool.{cases_eq}
use Rattle.std.proofs.lemmas.List.{length-map}
use Rattle.std.proofs.lemmas.List.Elements.{All-cons, All-head, All-tail}
use Rattle.std.proofs.lemmas.List.Sums.{sum_by-cons}
use Rattle.teg_net.specs.declared.entries.PlaceId.{PlaceId}
use Rattle.teg_net.specs.Circuits.{IsCircuit, time_of, tokens_of}
use Rattle.teg_net.specs.Limits.{greatest_circuit_time}
use Rattle.teg_net.specs.Nets.{NetLists, IsNet}
use Rattle.teg_net.specs.Ratios.{Fraction}
use Rattle.teg_net.proofs.Reading.{same_id}
use Rattle.teg_certificates.proofs.Short.{circuit_sums}
use Rattle.token_shares.specs.KeptCuts.{one_at, times_passed, further_by}
use Rattle.token_shares.specs.TokenShares.{AreEnough, AvoidsAll, IsAbove, IsHopeless, KeepsTarget, OthersKeep, SomeAreEnough, with_further}
use Rattle.token_shares.proofs.Further.{circuit_forth, circuit_back, time_further, tokens_further, one_here, one_apart}

abbrev InRange : NetLists → List PlaceId → Type 0
InRange net places = All (λ p. p.index < length net.places) places

-- ---- circuits that pass a place

passed_some : (p : PlaceId) (ps : List PlaceId) → Contains ps p → 1 ≤ times_passed p ps
passed_some p [] (i, l, e) = absurd (omega (arith, l))
passed_some p (q ∷ ps) (zero, l, e) =
    let one = sum_by-cons (one_at p) q ps in
    let own = one_here p q (ap (λ (z : PlaceId). z.index) e) in
    omega arith
passed_some p (q ∷ ps) (suc i, l, e) =
    let one = sum_by-cons (one_at p) q ps in
    let rest = passed_some p ps (i, omega (arith, l), e) in
    omega arith

passed_none : (p : PlaceId) (ps : List PlaceId) → (Contains ps p → ⊥) → times_passed p ps ≡ 0
passed_none p [] off = refl
passed_none p (q ∷ ps) off = ⊎_elim
    (λ (e : q.index ≡ p.index). absurd (off (0, omega arith, same_id q p e)))
    (λ (ne : q.index ≢ p.index).
    let one = sum_by-cons (one_at p) q ps in
    let own = one_apart p q ne in
    let rest = passed_none p ps (λ has. off (suc has.0, omega (arith, has.1), has.2)) in
    omega arith)
    (cases_eq q.index p.index)

abbrev HasSome : ℕ → List PlaceId → List PlaceId → Type 0
HasSome n places ps = AvoidsAll places ps ⊎ (n ≤ further_by (map (λ p. times_passed p ps) places) (map (λ p. n) places))

next_some : (n : ℕ) (p : PlaceId) (places ps : List PlaceId) (k : ℕ) → times_passed p ps ≡ k → HasSome n places ps → HasSome n (p ∷ places) ps
next_some n p places ps zero e rest = ⊎_elim
    (λ (off : AvoidsAll places ps). inl (All-cons (λ q. Contains ps q → ⊥) p places (λ has. let some = passed_some p ps has in omega arith) off))
    (λ (more : n ≤ further_by (map (λ q. times_passed q ps) places) (map (λ q. n) places)). inr (omega arith))
    rest
next_some n p places ps (suc k) e rest =
    let wide : times_passed p ps * n ≡ n + k * n = rw e (grind arith) in
    inr (omega arith)

-- so many tokens for each place, and a path avoids the places or has so many
has_some : (n : ℕ) (places ps : List PlaceId) → HasSome n places ps
has_some n [] ps = inl (λ i d l. absurd (omega arith))
has_some n (p ∷ places) ps = next_some n p places ps (times_passed p ps) refl (has_some n places ps)

-- on a path that avoids them they count nothing
none_passed : (places ps : List PlaceId) (ds : List ℕ) → AvoidsAll places ps → further_by (map (λ p. times_passed p ps) places) ds ≡ 0
none_passed [] ps ds off = refl
none_passed (p ∷ places) ps [] off = refl
none_passed (p ∷ places) ps (d ∷ ds) off =
    let own = passed_none p ps (All-head (λ q. Contains ps q → ⊥) p places off) in
    let rest = none_passed places ps ds (All-tail (λ q. Contains ps q → ⊥) p places off) in
    let still : times_passed p ps * d ≡ 0 = rw own (grind arith) in
    omega arith

-- ---- numbers that are enough

module _ (net : NetLists) (r : Fraction) (places : List PlaceId) (range : InRange net places) where
  enough_by : (ds : List ℕ) → length ds ≡ length places
      → ((ps : List PlaceId) → IsCircuit net ps → time_of net ps * r.tokens ≤ r.time * (tokens_of net ps + further_by (map (λ p. times_passed p ps) places) ds)) → AreEnough net r places ds
  enough_by ds count low = record {
    count = count;
    kept = λ ps c. rw (time_further net places ds ps, tokens_further net places ds ps range) (low ps (circuit_forth net places ds ps c));
  }

  pub enough_at_once : KeepsTarget net r → SomeAreEnough net r places
  enough_at_once k = (
    map (λ p. 0) places,
    enough_by (map (λ p. 0) places) (length-map places (λ p. 0)) (λ ps c.
        let low = k ps c in
        let wide : r.time * tokens_of net ps ≤ r.time * (tokens_of net ps + further_by (map (λ p. times_passed p ps) places) (map (λ p. 0) places)) = mul-le-mul_left r.time (omega arith) in
        omega arith),
  )

  pub enough_with_many : IsNet net → 1 ≤ r.time → OthersKeep net r places → SomeAreEnough net r places
  enough_with_many ok some others =
      let n : ℕ = greatest_circuit_time * r.tokens in (
        map (λ p. n) places,
        enough_by (map (λ p. n) places) (length-map places (λ p. n)) (λ ps c. ⊎_elim
            (λ (off : AvoidsAll places ps).
            let low = others ps c off in
            let wide : r.time * tokens_of net ps ≤ r.time * (tokens_of net ps + further_by (map (λ p. times_passed p ps) places) (map (λ p. n) places)) = mul-le-mul_left r.time (omega arith) in
            omega arith)
            (λ (more : n ≤ further_by (map (λ p. times_passed p ps) places) (map (λ p. n) places)).
            let short = (circuit_sums net ok ps c).0 in
            let long : time_of net ps * r.tokens ≤ greatest_circuit_time * r.tokens = mul-le-mul_right r.tokens short in
            let all : ℕ = tokens_of net ps + further_by (map (λ p. times_passed p ps) places) (map (λ p. n) places) in
            let wide : 1 * all ≤ r.time * all = mul-le-mul_right all some in
            omega arith)
            (has_some n places ps)),
      )

  -- ---- circuits for whose sake none are

  pub hopeless_apart : (ps : List PlaceId) → IsAbove net r ps → AvoidsAll places ps → IsHopeless net r places ps
  hopeless_apart ps a off = record {
    none = λ ds enough.
        (let low = enough.kept ps (circuit_back net places ds ps a.circuit) in
        let none = none_passed places ps ds off in
        let tokens : tokens_of (with_further net places ds) ps ≡ tokens_of net ps = tokens_further net places ds ps range ∙ (omega arith) in
        let time = time_further net places ds ps in
        let own : time_of net ps * r.tokens ≤ r.time * tokens_of net ps = rw (time, tokens) at low in
        let above = a.above in
        absurd (omega arith));
    above = a;
    by = inl off;
  }

  pub hopeless_still : (ps : List PlaceId) → IsAbove net r ps → r.time ≡ 0 → OthersKeep net r places → IsHopeless net r places ps
  hopeless_still ps a still others = record {
    none = λ ds enough.
        (let low = enough.kept ps (circuit_back net places ds ps a.circuit) in
        let time : time_of (with_further net places ds) ps * r.tokens ≡ time_of net ps * r.tokens = ap (λ (n : ℕ). n * r.tokens) (time_further net places ds ps) in
        let none : r.time * tokens_of (with_further net places ds) ps ≡ 0 = ap (λ (n : ℕ). n * tokens_of (with_further net places ds) ps) still ∙ (grind arith) in
        let zero_too : r.time * tokens_of net ps ≡ 0 = ap (λ (n : ℕ). n * tokens_of net ps) still ∙ (grind arith) in
        let above = a.above in
        absurd (omega arith));
    above = a;
    by = inr (still, others);
  }
