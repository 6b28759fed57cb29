-- The walk of `circuit_through`: m places back from where it starts.
use Rattle.std.proofs.Common.{ℕ, suc, ◌+◌, ◌-◌, ◌*◌, ◌<◌, ◌≤◌, ◌≡◌, ◌≢◌, List, [], ◌∷◌, ◌++◌, length, reverse, sym, ap, subst, ◌∙◌, arith, ⊎_elim}
use Rattle.std.specs.Prelude.{All}
use Rattle.std.proofs.lemmas.Bool.{cases_eq, cases_lt}
use Rattle.std.proofs.lemmas.List.{reverse-append}
use Rattle.std.proofs.lemmas.List.Sums.{sum_by-cons}
use Rattle.teg_net.specs.declared.entries.PlaceId.{PlaceId}
use Rattle.teg_net.specs.Nets.{NetLists, IsNet}
use Rattle.teg_net.specs.Circuits.{place_at, IsCircuit, time_of, tokens_of, from_of}
use Rattle.teg_howard.specs.declared.policy_circuits.FoundCircuit.{FoundCircuit}
use Rattle.teg_net.specs.Parts.{to_of}
use Rattle.policy_rounds.specs.Policies.{Policy, step_back}
use Rattle.teg_net.specs.PartAnswers.{first_transition_of}
use Rattle.teg_howard.specs.FoundCircuits.{IsFoundAt}
use Rattle.policy_rounds.specs.PolicyLists.{IsOnPolicy, GoesBelow}
use Rattle.policy_rounds.proofs.Back.{trail, trail_circuit}
use Rattle.policy_rounds.proofs.PolicyCircuits.{trail_sums, found_sums_in}

pub record Walked (net : NetLists) (π : Policy) (start m at : ℕ) (backs : List PlaceId) (time tokens : ℕ) : Type 0 where
  pub places : reverse backs ≡ trail net π m start
  pub here : at ≡ step_back net π m start
  pub time_is : time ≡ time_of net (trail net π m start)
  pub tokens_is : tokens ≡ tokens_of net (trail net π m start)
  pub not_yet : (j : ℕ) → 0 < j → j ≤ m → step_back net π j start ≢ start

module _ (net : NetLists) (π : Policy) (start m at : ℕ) (backs : List PlaceId) (time tokens : ℕ) (h : Walked net π start m at backs time tokens) where
  step_place : π at ≡ π (step_back net π m start)
  step_place = ap π h.here

  step_places : reverse (backs ++ π at ∷ []) ≡ trail net π (suc m) start
  step_places = reverse-append backs (π at ∷ []) ∙ (ap (λ x. π at ∷ x) h.places ∙ ap (λ x. x ∷ trail net π m start) step_place)

  step_here : from_of net (π at) ≡ step_back net π (suc m) start
  step_here = ap (from_of net) step_place

  step_time : time + (place_at net (π at)).hold ≡ time_of net (trail net π (suc m) start)
  step_time =
      let e = sum_by-cons (λ q. (place_at net q).hold) (π (step_back net π m start)) (trail net π m start) in
      let f : (place_at net (π at)).hold ≡ (place_at net (π (step_back net π m start))).hold = ap (λ q. (place_at net q).hold) step_place in
      let t = h.time_is in
      omega arith

  step_tokens : tokens + (place_at net (π at)).tokens ≡ tokens_of net (trail net π (suc m) start)
  step_tokens =
      let e = sum_by-cons (λ q. (place_at net q).tokens) (π (step_back net π m start)) (trail net π m start) in
      let f : (place_at net (π at)).tokens ≡ (place_at net (π (step_back net π m start))).tokens = ap (λ q. (place_at net q).tokens) step_place in
      let t = h.tokens_is in
      omega arith

  pub walked_more : from_of net (π at) ≢ start → Walked net π start (m + 1) (from_of net (π at)) (backs ++ π at ∷ []) (time + (place_at net (π at)).hold) (tokens + (place_at net (π at)).tokens)
  walked_more ne =
      let e : m + 1 ≡ suc m = omega arith in
      subst (λ n. Walked net π start n (from_of net (π at)) (backs ++ π at ∷ []) (time + (place_at net (π at)).hold) (tokens + (place_at net (π at)).tokens)) (sym e)
      (record {
        places = step_places;
        here = step_here;
        time_is = step_time;
        tokens_is = step_tokens;
        not_yet = λ j l k.
            ⊎_elim
            (λ (q : j < suc m). h.not_yet j l (omega arith))
            (λ (q : suc m ≤ j). let is : j ≡ suc m = omega arith in rw is (λ z. ne (step_here ∙ z)))
            (cases_lt j (suc m));
      })

-- the walk has come below its start
pub walked_below : (net : NetLists) (π : Policy) (start m at : ℕ) (backs : List PlaceId) (time tokens n : ℕ)
    → Walked net π start m at backs time tokens → from_of net (π at) < start → GoesBelow net π start n
walked_below net π start m at backs time tokens n h low k some few e =
    let here = step_here net π start m at backs time tokens h in
    ⊎_elim
    (λ (q : m < k).
    ⊎_elim
    (λ (r : k ≡ suc m). let back_ : step_back net π (suc m) start ≡ start = subst (λ x. step_back net π x start ≡ start) r e in absurd (omega arith))
    (λ (r : k ≢ suc m). (suc m, omega arith, subst (λ x. x < start) here low))
    (cases_eq k (suc m)))
    (λ (q : k ≤ m). absurd (h.not_yet k some q e))
    (cases_lt m k)

-- the start has come again: a circuit is found
pub walked_round :
    (net : NetLists) (π : Policy) (start m at : ℕ) (backs : List PlaceId) (time tokens : ℕ) (f : FoundCircuit) → IsNet net → IsOnPolicy net π start
    → Walked net π start m at backs time tokens → m < length net.transitions → from_of net (π at) ≡ start
    → f.places.items ≡ reverse (backs ++ π at ∷ []) → f.time ≡ time + (place_at net (π at)).hold → f.tokens ≡ tokens + (place_at net (π at)).tokens
    → IsFoundAt net π start f
walked_round net π start m at backs time tokens f kept on h l e ps ts ks =
    let places : f.places.items ≡ trail net π (suc m) start = ps ∙ step_places net π start m at backs time tokens h in
    let home : step_back net π (suc m) start ≡ start = sym (step_here net π start m at backs time tokens h) ∙ e in
    let c = trail_circuit net on.parts on.part π on.kept (suc m) start on.member (omega arith) home (λ j i k. h.not_yet j i (omega arith)) in
    let sums = trail_sums net on.parts on.part π on.kept kept (suc m) start on.member in
    let few = kept.few_transitions in
    let time_is : f.time ≡ time_of net (trail net π (suc m) start) = ts ∙ step_time net π start m at backs time tokens h in
    let tokens_is : f.tokens ≡ tokens_of net (trail net π (suc m) start) = ks ∙ step_tokens net π start m at backs time tokens h in
    let small = found_sums_in (suc m) (length net.transitions) f.time f.tokens (omega (arith, time_is, sums.0)) (omega (arith, tokens_is, sums.1)) (omega arith) few in
    let root : first_transition_of net (trail net π (suc m) start) ≡ start = home in
    record {
      circuit = subst (IsCircuit net) (sym places) c.circuit;
      own = subst (λ x. All (λ p. π (to_of net p) ≡ p) x) (sym places) c.own;
      begins = ap (first_transition_of net) places ∙ root;
      time = time_is ∙ ap (time_of net) (sym places);
      tokens = tokens_is ∙ ap (tokens_of net) (sym places);
      time_in = small.0;
      tokens_in = small.1;
    }
