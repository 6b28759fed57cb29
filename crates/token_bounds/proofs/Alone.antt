-- What the further tokens of a place tell that takes time alone.
use Rattle.std.proofs.Common.{ℕ, zero, suc, ◌-◌, ◌<◌, ◌≤◌, ◌≡◌, ◌≢◌, List, [], ◌∷◌, length, get_or, refl, sym, ap, subst, ◌∙◌, arith, ⊎_elim}
use Rattle.std.specs.Prelude.{All, AllPairs, Contains}
use Rattle.std.proofs.lemmas.Bool.{cases_eq}
use Rattle.std.proofs.lemmas.List.Sums.{sum_by-cons}
use Rattle.std.proofs.lemmas.List.Elements.{All-tail}
use Rattle.teg_net.specs.declared.entries.PlaceId.{PlaceId}
use Rattle.teg_net.specs.Nets.{NetLists, IsNet}
use Rattle.teg_net.specs.Circuits.{no_place, place_at, from_of, IsCircuit, BeginsLowest, time_of, tokens_of}
use Rattle.teg_net.proofs.NetRules.{net_ends}
use Rattle.teg_net.proofs.PathLaws.{IsPathBetween-in_range}
use Rattle.teg_net.proofs.Reading.{same_id}
use Rattle.teg_net.proofs.Changing.{HaveSameEnds, circuit_along}
use Rattle.teg_loops.proofs.Ends.{ends_below}
use Rattle.teg_loops.proofs.Straight.{loop_short}
use Rattle.teg_loops.proofs.Taking.{sum_most}
use Rattle.teg_certificates.specs.Sizes.{IsEnough, IsFewest, IsNeverEnough}
use Rattle.game_laws.proofs.OnCircuits.{places_within}
use Rattle.token_bounds.specs.declared.most.MostTokens.{MostTokens}
use Rattle.token_bounds.specs.MostTokens.{IsHeldAlone, IsMostOf, long_time, one_unit}

module _ (net changed : NetLists) (p : PlaceId) (in' : p.index < length net.places) (ok : IsNet changed) (h : IsHeldAlone net p changed) where
  -- ---- circuits of both nets

  forth : HaveSameEnds changed net
  forth = record { count = h.same.count; from = h.same.from; to = h.same.to }

  back : HaveSameEnds net changed
  back = record { count = sym h.same.count; from = λ q. sym (h.same.from q); to = λ q. sym (h.same.to q) }

  pub circuit_of : (ps : List PlaceId) → IsCircuit changed ps → IsCircuit net ps
  circuit_of ps c = circuit_along changed net forth ps c

  pub circuit_back : (ps : List PlaceId) → IsCircuit net ps → IsCircuit changed ps
  circuit_back ps c = circuit_along net changed back ps c

  pub same_tokens : (ps : List PlaceId) → tokens_of changed ps ≡ tokens_of net ps
  same_tokens [] = refl
  same_tokens (q ∷ ps) =
      let one = sum_by-cons (λ r. (place_at changed r).tokens) q ps in
      let two = sum_by-cons (λ r. (place_at net r).tokens) q ps in
      let here = h.same.tokens q in
      let rest = same_tokens ps in
      omega arith

  lowest_of : (ps : List PlaceId) → BeginsLowest changed ps → BeginsLowest net ps
  lowest_of [] l = tt
  lowest_of (first ∷ ps) l = λ i d m.
      let low = l i d m in
      let a : from_of changed first ≡ from_of net first = ap (λ t. t.index) (h.same.from first) in
      let b : from_of changed (get_or ps i d) ≡ from_of net (get_or ps i d) = ap (λ t. t.index) (h.same.from (get_or ps i d)) in
      omega arith

  -- ---- the time of a circuit

  in_range : (ps : List PlaceId) → IsCircuit changed ps → All (λ q. q.index < length net.places) ps
  in_range ps c = λ i d l. subst (λ (n : ℕ). (get_or ps i d).index < n) h.same.count (IsPathBetween-in_range changed ps c.closed.0 c.closed.0 c.closed.1 i d l)

  time_none : (ps : List PlaceId) → All (λ q. q.index < length net.places) ps → All (λ q. q.index ≢ p.index) ps → time_of changed ps ≡ 0
  time_none [] r n = refl
  time_none (q ∷ ps) r n =
      let s = sum_by-cons (λ x. (place_at changed x).hold) q ps in
      let here = h.others q (r 0 q (omega arith)) (n 0 q (omega arith)) in
      let rest = time_none ps (All-tail (λ x. x.index < length net.places) q ps r) (All-tail (λ x. x.index ≢ p.index) q ps n) in
      omega arith

  -- the place stands in the list once, or not
  pub record IsTimed (ps : List PlaceId) : Type 0 where
    pub here : Contains ps p → time_of changed ps ≡ long_time
    pub apart : (Contains ps p → ⊥) → time_of changed ps ≡ 0

  timed_on : (ps : List PlaceId) → All (λ q. q.index < length net.places) ps → AllPairs (λ x y. from_of changed x ≢ from_of changed y) ps → IsTimed ps
  timed_on [] r once = record { here = λ c. (let l = c.1 in absurd (omega arith)); apart = λ n. refl }
  timed_on (q ∷ ps) r once = ⊎_elim
      (λ (e : q.index ≡ p.index).
      let s = sum_by-cons (λ x. (place_at changed x).hold) q ps in
      let own : (place_at changed q).hold ≡ long_time = ap (λ (z : PlaceId). (place_at changed z).hold) (same_id q p e) ∙ h.own in
      let others : All (λ x. x.index ≢ p.index) ps = λ i d l f. once 0 (suc i) d (omega arith) (omega arith) (ap (from_of changed) (same_id q (get_or ps i d) (e ∙ sym f))) in
      let rest = time_none ps (All-tail (λ x. x.index < length net.places) q ps r) others in
      record { here = λ c. omega arith; apart = λ n. absurd (n (0, omega arith, same_id q p e)) })
      (λ (ne : q.index ≢ p.index).
      let s = sum_by-cons (λ x. (place_at changed x).hold) q ps in
      let here = h.others q (r 0 q (omega arith)) ne in
      let rest = timed_on ps (All-tail (λ x. x.index < length net.places) q ps r) (λ i j d l m. once (suc i) (suc j) d (omega arith) (omega arith)) in
      record {
        here = λ c. (let t = rest.here (later ps q ne c) in omega arith);
        apart = λ n. (let t = rest.apart (λ c. n (suc c.0, omega (arith, c.1), c.2)) in omega arith);
      })
      (cases_eq q.index p.index) where
        later : (ps : List PlaceId) (q : PlaceId) → q.index ≢ p.index → Contains (q ∷ ps) p → Contains ps p
        later ps q ne (zero, l, e) = absurd (ne (ap (λ (z : PlaceId). z.index) e))
        later ps q ne (suc i, l, e) = (i, omega (arith, l), e)

  pub timed : (ps : List PlaceId) → IsCircuit changed ps → IsTimed ps
  timed ps c = timed_on ps (in_range ps c) c.leaves_once

  few_tokens : (ps : List PlaceId) → IsCircuit changed ps → tokens_of changed ps < long_time
  few_tokens ps c =
      let ends = ends_below changed (net_ends changed ok) in
      let short = loop_short changed (length changed.transitions) ps ends c in
      let few = ok.few_transitions in
      let most = sum_most (λ q. (place_at changed q).tokens) 1000 changed (λ q l. (ok.each_place q.index no_place l).tokens_in) ps c.closed.0 c.closed.0 c.closed.1 in
      omega arith

  -- ---- what is told

  -- where no further tokens are needed no circuit passes the place
  pub none_passes : IsEnough changed one_unit p 0 → (ps : List PlaceId) → IsCircuit net ps → Contains ps p → ⊥
  none_passes enough ps c has =
      let own = circuit_back ps c in
      let low = enough.passing ps own has in
      let time = (timed ps own).here has in
      let few = few_tokens ps own in
      absurd (omega arith)

  -- as many further tokens as the place takes time are enough
  enough : IsEnough changed one_unit p long_time
  enough = record {
    passing = λ qs c has. let time = (timed qs c).here has in omega arith;
    others = λ qs c off. let time = (timed qs c).apart off in omega arith;
  }

  -- so some number is
  pub not_never : (ps : List PlaceId) → IsNeverEnough changed one_unit p ps → ⊥
  not_never ps never = never.none long_time enough

  pub at_most_long : (extra : ℕ) (ps : List PlaceId) → IsFewest changed one_unit p extra ps → extra ≤ long_time
  at_most_long extra ps fewest = fewest.least long_time enough

  -- the fewest further tokens, and the circuit that needs them
  pub is_most : (extra : ℕ) (m : MostTokens) → IsFewest changed one_unit p extra m.circuit.places.items → m.tokens ≡ long_time - extra → IsMostOf net p m
  is_most extra m fewest is =
      let ps : List PlaceId = m.circuit.places.items in
      let c = fewest.circuit in
      let time = (timed ps c).here fewest.passes in
      let most = few_tokens ps c in
      let less = fewest.one_less in
      let some = fewest.some in
      let enough = fewest.enough.passing ps c fewest.passes in
      let same = same_tokens ps in
      let own : tokens_of net ps ≡ m.tokens = omega arith in
      record {
        circuit = circuit_of ps c;
        lowest = lowest_of ps fewest.lowest;
        passes = fewest.passes;
        tokens = own;
        fewest = λ qs d has. fewer qs d has;
        runs = λ run legal. let up = places_within net run legal ps (circuit_of ps c) p fewest.passes in omega arith;
      } where
        fewer : (qs : List PlaceId) → IsCircuit net qs → Contains qs p → m.tokens ≤ tokens_of net qs
        fewer qs d has =
            let own = circuit_back qs d in
            let low = fewest.enough.passing qs own has in
            let time = (timed qs own).here has in
            let same = same_tokens qs in
            omega arith
