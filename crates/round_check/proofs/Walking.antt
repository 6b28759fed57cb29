-- Following a policy backwards from a transition, and how each circuit of the policy is met so.
use Rattle.std.proofs.Common.{ℕ, zero, suc, ◌+◌, ◌-◌, ◌*◌, ◌<◌, ◌≤◌, ◌≡◌, ◌≢◌, List, ◌∷◌, Bool, Option, Some, None, true, false, IsTrue, length, get_or, refl, sym, ap, subst, ◌∙◌, arith, inl, inr, ⊎_elim}
use Rattle.std.specs.Prelude.{All, Any, ◌⊎◌, ◌↔◌, IfNone, IfSome}
use Rattle.std.proofs.lemmas.Bool.{cases_eq, cases_lt, false≢true}
use Rattle.std.proofs.lemmas.List.Sums.{sum_by-cons}
use Rattle.teg_net.specs.declared.entries.PlaceId.{PlaceId}
use Rattle.teg_net.specs.Nets.{NetLists, IsNet}
use Rattle.teg_net.specs.Circuits.{place_at, from_of, time_of, tokens_of}
use Rattle.teg_net.specs.Limits.{greatest_circuit_time, most_circuit_tokens}
use Rattle.teg_net.specs.Parts.{IsMember, to_of}
use Rattle.teg_net.specs.PartAnswers.{first_transition_of}
use Rattle.policy_rounds.specs.Policies.{Policy, IsPolicy, IsPolicyCircuit, step_back, first_id}
use Rattle.policy_rounds.specs.PolicyLists.{GoesBelow}
use Rattle.teg_parts.specs.Components.{IsMarked}
use Rattle.policy_rounds.proofs.Back.{trail, back_member, get_or-trail, trail_circuit}
use Rattle.policy_rounds.proofs.Turns.{circuit_trail, root_member}
use Rattle.policy_rounds.proofs.PolicyCircuits.{circuit_short, found_sums_in, same_circuit, trail_sums}
use Rattle.policy_rounds.proofs.First.{low_turn}
use Rattle.round_check.specs.declared.circuits.Around.{Around}
use Rattle.round_check.specs.declared.circuits.Bound.{Bound}
use Rattle.round_check.specs.PolicyCircuits.{AllAtMost, AreAtMost, FitsBound, IsAround, IsAtMost}

abbrev pub Passes : NetLists → List Bool → List PlaceId → Type 0
Passes net marked ps = Any (λ p. IsMarked marked (to_of net p)) ps

any_cons : (P : PlaceId → Type 0) (p : PlaceId) (ps : List PlaceId) → Any P (p ∷ ps) → P p ⊎ Any P ps
any_cons P p ps (zero, x, l, e, h) = inl (subst P (sym e) h)
any_cons P p ps (suc k, x, l, e, h) = inr (k, x, (let m : k < length ps = omega arith in m), e, h)

any_here : (P : PlaceId → Type 0) (p : PlaceId) (ps : List PlaceId) → P p → Any P (p ∷ ps)
any_here P p ps h = let l : 0 < length (p ∷ ps) = omega arith in (0, p, l, refl, h)

any_later : (P : PlaceId → Type 0) (p : PlaceId) (ps : List PlaceId) → Any P ps → Any P (p ∷ ps)
any_later P p ps (k, x, l, e, h) = let m : suc k < length (p ∷ ps) = omega arith in (suc k, x, m, e, h)

-- m places back from the start, which has not come again
pub record Walking (net : NetLists) (π : Policy) (marked : List Bool) (start m at time tokens : ℕ) (passes : Bool) : Type 0 where
  pub here : at ≡ step_back net π m start
  pub time_is : time ≡ time_of net (trail net π m start)
  pub tokens_is : tokens ≡ tokens_of net (trail net π m start)
  pub passed : IsTrue passes ↔ Passes net marked (trail net π m start)
  pub not_yet : (j : ℕ) → 0 < j → j ≤ m → step_back net π j start ≢ start

pub walking_none : (net : NetLists) (π : Policy) (marked : List Bool) (start : ℕ) → Walking net π marked start 0 start 0 0 false
walking_none net π marked start = record {
  here = refl;
  time_is = refl;
  tokens_is = refl;
  passed = (λ (y : false ≡ true). absurd (false≢true y), λ w. let l = w.2 in absurd (omega arith));
  not_yet = λ j l k. absurd (omega arith);
}

module _ (net : NetLists) (parts : List ℕ) (part : ℕ) (π : Policy) (ok : IsPolicy net parts part π) (marked : List Bool) (start : ℕ) (member : IsMember parts part start) where
  module _ (m at time tokens : ℕ) (passes : Bool) (h : Walking net π marked start m at time tokens passes) where
    step_at : π at ≡ π (step_back net π m start)
    step_at = ap π h.here

    pub step_from : from_of net (π at) ≡ step_back net π (suc m) start
    step_from = ap (from_of net) step_at

    step_time : time + (place_at net (π at)).hold ≡ time_of net (trail net π (suc m) start)
    step_time =
        let e = sum_by-cons (λ q. (place_at net q).hold) (π (step_back net π m start)) (trail net π m start) in
        let f : (place_at net (π at)).hold ≡ (place_at net (π (step_back net π m start))).hold = ap (λ q. (place_at net q).hold) step_at in
        let t = h.time_is in
        omega arith

    step_tokens : tokens + (place_at net (π at)).tokens ≡ tokens_of net (trail net π (suc m) start)
    step_tokens =
        let e = sum_by-cons (λ q. (place_at net q).tokens) (π (step_back net π m start)) (trail net π m start) in
        let f : (place_at net (π at)).tokens ≡ (place_at net (π (step_back net π m start))).tokens = ap (λ q. (place_at net q).tokens) step_at in
        let t = h.tokens_is in
        omega arith

    step_passed : (now : Bool) → IsTrue now ↔ (IsTrue passes ⊎ IsMarked marked at) → IsTrue now ↔ Passes net marked (trail net π (suc m) start)
    step_passed now is =
        let x : ℕ = step_back net π m start in
        let ends : to_of net (π x) ≡ x = (ok x (back_member net parts part π ok m start member)).ends in
        let P : PlaceId → Type 0 = λ p. IsMarked marked (to_of net p) in (
          λ y. ⊎_elim
              (λ (q : IsTrue passes). any_later P (π x) (trail net π m start) (h.passed.0 q))
              (λ (q : IsMarked marked at). any_here P (π x) (trail net π m start) (subst (IsMarked marked) (h.here ∙ sym ends) q))
              (is.0 y),
          λ w. is.1 (⊎_elim
              (λ (q : IsMarked marked (to_of net (π x))). inr (subst (IsMarked marked) (ends ∙ sym h.here) q))
              (λ (q : Passes net marked (trail net π m start)). inl (h.passed.1 q))
              (any_cons P (π x) (trail net π m start) w)),
        )

    pub walking_more : (now : Bool) → IsTrue now ↔ (IsTrue passes ⊎ IsMarked marked at) → from_of net (π at) ≢ start
        → Walking net π marked start (m + 1) (from_of net (π at)) (time + (place_at net (π at)).hold) (tokens + (place_at net (π at)).tokens) now
    walking_more now is ne =
        let e : m + 1 ≡ suc m = omega arith in
        subst (λ n. Walking net π marked start n (from_of net (π at)) (time + (place_at net (π at)).hold) (tokens + (place_at net (π at)).tokens) now) (sym e)
        (record {
          here = step_from;
          time_is = step_time;
          tokens_is = step_tokens;
          passed = step_passed now is;
          not_yet = λ j l k.
              ⊎_elim
              (λ (q : j < suc m). h.not_yet j l (omega arith))
              (λ (q : suc m ≤ j). let is : j ≡ suc m = omega arith in rw is (λ z. ne (step_from ∙ z)))
              (cases_lt j (suc m));
        })

    -- the start has come again
    pub walking_round : (now : Bool) → IsTrue now ↔ (IsTrue passes ⊎ IsMarked marked at) → IsNet net → m < length net.transitions → from_of net (π at) ≡ start → (a : Around) → a.time ≡ time + (place_at net (π at)).hold
        → a.tokens ≡ tokens + (place_at net (π at)).tokens → a.passes ≡ now → IsAround net parts part π marked start a
    walking_round now is kept l e a ts ks ps =
        let home : step_back net π (suc m) start ≡ start = sym step_from ∙ e in
        let sums = trail_sums net parts part π ok kept (suc m) start member in
        let few = kept.few_transitions in
        let time_is : a.time ≡ time_of net (trail net π (suc m) start) = ts ∙ step_time in
        let tokens_is : a.tokens ≡ tokens_of net (trail net π (suc m) start) = ks ∙ step_tokens in
        let small = found_sums_in (suc m) (length net.transitions) a.time a.tokens (omega (arith, time_is, sums.0)) (omega (arith, tokens_is, sums.1)) (omega arith) few in
        record {
          places = trail net π (suc m) start;
          circuit = trail_circuit net parts part π ok (suc m) start member (omega arith) home (λ j i k. h.not_yet j i (omega arith));
          begins = home;
          time = time_is;
          tokens = tokens_is;
          passes = subst (λ b. IsTrue b ↔ Passes net marked (trail net π (suc m) start)) (sym ps) (step_passed now is);
          time_in = small.0;
          tokens_in = small.1;
        }

    -- the walk has come below its start
    pub walking_below : from_of net (π at) < start → (n : ℕ) → GoesBelow net π start n
    walking_below low n k some few e =
        ⊎_elim
        (λ (q : m < k).
        ⊎_elim
        (λ (r : k ≡ suc m). let back_ : step_back net π (suc m) start ≡ start = subst (λ x. step_back net π x start ≡ start) r e in let f = step_from in absurd (omega arith))
        (λ (r : k ≢ suc m). (suc m, omega arith, subst (λ x. x < start) step_from low))
        (cases_eq k (suc m)))
        (λ (q : k ≤ m). absurd (h.not_yet k some q e))
        (cases_lt m k)

    -- sums on the way stay small
    pub walking_sums : IsNet net → m < length net.transitions → (time ≤ 400 * 1000000000) × (tokens ≤ 400 * 1000)
    walking_sums kept l =
        let sums = trail_sums net parts part π ok kept m start member in
        let few = kept.few_transitions in
        (omega (arith, h.time_is, sums.0), omega (arith, h.tokens_is, sums.1))

module _ (net : NetLists) (parts : List ℕ) (part : ℕ) (π : Policy) (ok : IsPolicy net parts part π) (marked : List Bool) (bound : Option Bound) where
  -- no transition of a circuit that begins lowest is below its first
  low_back : (d : List PlaceId) → IsPolicyCircuit net parts part π d → All (λ p. first_transition_of net d ≤ from_of net p) d → (j : ℕ) → j < length d
      → first_transition_of net d ≤ step_back net π j (first_transition_of net d)
  low_back d c low zero l = omega arith
  low_back d c low (suc j) l =
      let t = circuit_trail net parts part π d c in
      let n : ℕ = length d in
      let root : ℕ = first_transition_of net d in
      let k : ℕ = n - suc j in
      let back_is : n - suc k ≡ j = omega arith in
      let read : get_or d k first_id ≡ π (step_back net π (n - suc k) root) = ap (λ z. get_or z k first_id) t.0 ∙ get_or-trail net π n root k first_id (omega arith) in
      let begins : from_of net (get_or d k first_id) ≡ step_back net π (suc j) root = ap (from_of net) read ∙ ap (λ x. from_of net (π (step_back net π x root))) back_is in
      subst (λ x. root ≤ x) begins (low k first_id (omega arith))

  -- where the walk from a transition does not come back, no circuit begins lowest there
  pub none_at : (start : ℕ) → GoesBelow net π start (length parts) → AreAtMost net parts part π marked bound start
  none_at start none d hd low e p =
      let t = circuit_trail net parts part π d hd in
      let w = none (length d) hd.circuit.not_empty (circuit_short net parts part π ok d hd) (subst (λ x. step_back net π (length d) x ≡ x) e t.1) in
      let up : start ≤ step_back net π w.0 start = subst (λ x. x ≤ step_back net π w.0 x) e (low_back d hd low w.0 w.1) in
      let down = w.2 in
      absurd (omega arith)

  -- the sums of the circuit that was found are small
  pub around_small : (start : ℕ) (found : Option Around) → IfSome found (IsAround net parts part π marked start)
      → IfSome found (λ a. (a.time ≤ greatest_circuit_time) × (a.tokens ≤ most_circuit_tokens))
  around_small start None h = tt
  around_small start (Some a) h = (h.time_in, h.tokens_in)

  at_most : (b : Option Bound) (a : Around) (start time tokens : ℕ) (d : List PlaceId) → FitsBound (Some a) b start → IsTrue a.passes
      → time_of net d ≡ a.time → tokens_of net d ≡ a.tokens → first_transition_of net d ≡ start → IsAtMost net b d
  at_most None a start time tokens d f p et ek es = absurd (f p)
  at_most (Some b) a start time tokens d f p et ek es = rw (et, ek, es) (f p)

  pub some_at : (start : ℕ) (a : Around) → IsAround net parts part π marked start a → FitsBound (Some a) bound start → AreAtMost net parts part π marked bound start
  some_at start a h f d hd low e p =
      let same : d ≡ h.places = same_circuit net parts part π ok d h.places hd h.circuit (e ∙ sym h.begins) in
      at_most bound a start 0 0 d f (h.passes.1 (subst (Passes net marked) same p)) (ap (time_of net) same ∙ sym h.time) (ap (tokens_of net) same ∙ sym h.tokens) e

  pub found_at : (start : ℕ) (found : Option Around) → IfSome found (IsAround net parts part π marked start) → IfNone found (GoesBelow net π start (length parts))
      → FitsBound found bound start → AreAtMost net parts part π marked bound start
  found_at start None some none f = none_at start none
  found_at start (Some a) some none f = some_at start a some f

  -- where all circuits fit, that which was found does
  pub fits_where_all : (b : Option Bound) (start : ℕ) (found : Option Around) → IfSome found (IsAround net parts part π marked start) → AllAtMost net parts part π marked b → FitsBound found b start
  fits_where_all b start None some all = tt
  fits_where_all None start (Some a) some all = λ y. all some.places some.circuit (some.passes.0 y)
  fits_where_all (Some b) start (Some a) some all = λ y.
      let fits = all some.places some.circuit (some.passes.0 y) in
      rw (some.time, some.tokens, sym some.begins) fits

  turned_at_most : (b : Option Bound) (d e : List PlaceId) → time_of net e ≡ time_of net d → tokens_of net e ≡ tokens_of net d
      → first_transition_of net e ≤ first_transition_of net d → IsAtMost net b e → IsAtMost net b d
  turned_at_most None d e et ek l h = absurd h
  turned_at_most (Some b) d e et ek l h =
      ⊎_elim
      (λ (q : time_of net e * b.tokens < b.time * tokens_of net e). inl (rw (et, ek) at q))
      (λ (q : (time_of net e * b.tokens ≡ b.time * tokens_of net e) × (b.first ≤ first_transition_of net e)).
      let first = q.1 in
      let low : b.first ≤ first_transition_of net d = omega arith in
      inr (rw (et, ek) at q.0, low))
      h

  -- each circuit is told from its lowest transition on somewhere
  pub all_at_most : ((s : ℕ) → s < length parts → IsMember parts part s → AreAtMost net parts part π marked bound s)
      → AllAtMost net parts part π marked bound
  all_at_most each d hd p =
      let t = low_turn net parts part π (λ q. IsMarked marked (to_of net q)) d hd in
      let m = root_member net parts part π t.places t.is in
      turned_at_most bound d t.places t.time t.tokens t.lower (each (first_transition_of net t.places) m.in_range m t.places t.is t.low refl (t.any p))
