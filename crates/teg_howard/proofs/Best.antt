-- The loop of `best_circuit`: the best of the circuits that begin below i.
use Rattle.std.proofs.Common.{ℕ, zero, suc, ◌+◌, ◌-◌, ◌*◌, ◌<◌, ◌≤◌, ◌≡◌, List, [], ◌∷◌, Bool, Option, Some, None, length, get_or, refl, sym, ap, subst, ◌∙◌, arith, ⊎_elim}
use Rattle.std.specs.Prelude.{All, Any, ◌⊎◌}
use Rattle.std.proofs.lemmas.Bool.{cases_lt}
use Rattle.teg_net.specs.declared.entries.PlaceId.{PlaceId}
use Rattle.teg_net.specs.Nets.{NetLists, IsNet}
use Rattle.teg_net.specs.Circuits.{IsPathBetween, IsLive, time_of, tokens_of, from_of}
use Rattle.teg_howard.specs.declared.policy_circuits.FoundCircuit.{FoundCircuit}
use Rattle.teg_net.specs.Parts.{IsMember, IsPlaceOfPart, to_of}
use Rattle.policy_rounds.specs.Policies.{Policy, IsPolicy, IsPolicyCircuit, step_back, first_id}
use Rattle.teg_net.specs.PartAnswers.{first_transition_of}
use Rattle.teg_net.specs.Limits.{greatest_circuit_time, most_circuit_tokens}
use Rattle.teg_parts.specs.Components.{IsMarked}
use Rattle.teg_howard.specs.FoundCircuits.{IsFoundAt, IsAbove, IsBetterOf, IsBestFound}
use Rattle.teg_howard.specs.CircuitStarts.{IsLowestOnCircuit, AreStarts}
use Rattle.policy_rounds.proofs.Back.{trail_inside, get_or-trail}
use Rattle.policy_rounds.proofs.Sums.{own_trail}
use Rattle.policy_rounds.proofs.Turns.{circuit_trail, root_member}
use Rattle.policy_rounds.proofs.PolicyCircuits.{same_circuit, circuit_short}
use Rattle.policy_rounds.proofs.First.{low_turn}
use Rattle.policy_rounds.proofs.Optimum.{some_token}
use Rattle.teg_certificates.proofs.Ratios.{ratio_trans_less}

abbrev pub Passes : NetLists → List Bool → List PlaceId → Type 0
Passes net marked d = Any (λ p. IsMarked marked (to_of net p)) d

-- no place of the list leaves a lower transition than the first
abbrev pub Low : NetLists → List PlaceId → Type 0
Low net d = All (λ p. first_transition_of net d ≤ from_of net p) d

-- the search comes to it: it is told from its lowest transition on, and passes a marked one
abbrev pub Counts : NetLists → List Bool → List PlaceId → Type 0
Counts net marked d = Low net d × Passes net marked d

pub record BestBelow (net : NetLists) (parts : List ℕ) (part : ℕ) (π : Policy) (marked : List Bool) (i : ℕ) (f : FoundCircuit) : Type 0 where
  pub is : IsPolicyCircuit net parts part π f.places.items
  pub through : Passes net marked f.places.items
  pub time : f.time ≡ time_of net f.places.items
  pub tokens : f.tokens ≡ tokens_of net f.places.items
  pub time_in : f.time ≤ greatest_circuit_time
  pub tokens_in : f.tokens ≤ most_circuit_tokens
  pub before : first_transition_of net f.places.items < i
  pub greatest : (d : List PlaceId) → IsPolicyCircuit net parts part π d → Counts net marked d → first_transition_of net d < i → time_of net d * f.tokens ≤ f.time * tokens_of net d
  pub lowest : (d : List PlaceId) → IsPolicyCircuit net parts part π d → Counts net marked d → first_transition_of net d < i
      → time_of net d * f.tokens ≡ f.time * tokens_of net d → first_transition_of net f.places.items ≤ first_transition_of net d

abbrev pub BestTo : NetLists → List ℕ → ℕ → Policy → List Bool → ℕ → Option FoundCircuit → Type 0
BestTo net parts part π marked i None = (d : List PlaceId) → IsPolicyCircuit net parts part π d → Counts net marked d → first_transition_of net d < i → ⊥
BestTo net parts part π marked i (Some f) = BestBelow net parts part π marked i f

starts : (net : NetLists) (ps : List PlaceId) (s t : ℕ) → 0 < length ps → IsPathBetween net s ps t → s ≡ first_transition_of net ps
starts net [] s t l h = absurd (omega arith)
starts net (p ∷ ps) s t l h = sym h.1

module _ (net : NetLists) (parts : List ℕ) (part : ℕ) (π : Policy) (marked : List Bool) (ok : IsPolicy net parts part π)
    (kept : IsNet net) (live : IsLive net) (count : length parts ≡ length net.transitions) where
  pub found_circuit : (i : ℕ) (f : FoundCircuit) → IsMember parts part i → IsFoundAt net π i f → IsPolicyCircuit net parts part π f.places.items
  found_circuit i f h c =
      let s : ℕ = c.circuit.closed.0 in
      let l = c.circuit.closed.1 in
      let begins : s ≡ i = starts net f.places.items s s c.circuit.not_empty l ∙ c.begins in
      let member : IsMember parts part s = subst (IsMember parts part) (sym begins) h in
      let t = own_trail net π (length f.places.items) f.places.items s s refl c.own l in
      record { circuit = c.circuit; inside = subst (All (IsPlaceOfPart net parts part)) (sym t.0) (trail_inside net parts part π ok (length f.places.items) s member); own = c.own }

  -- no circuit that counts begins at i
  pub best_skip : (i : ℕ) (best : Option FoundCircuit) → BestTo net parts part π marked i best
      → ((d : List PlaceId) → IsPolicyCircuit net parts part π d → Counts net marked d → first_transition_of net d ≡ i → ⊥)
      → BestTo net parts part π marked (i + 1) best
  best_skip i None h none = λ d c p l. ⊎_elim (λ (q : first_transition_of net d < i). h d c p q)
      (λ (q : i ≤ first_transition_of net d). none d c p (omega arith)) (cases_lt (first_transition_of net d) i)
  best_skip i (Some f) h none =
      let below = λ (d : List PlaceId) (c : IsPolicyCircuit net parts part π d) (p : Counts net marked d) (l : first_transition_of net d < i + 1).
      let r : first_transition_of net d < i = ⊎_elim (λ (q : first_transition_of net d < i). q)
      (λ (q : i ≤ first_transition_of net d). absurd (none d c p (omega arith))) (cases_lt (first_transition_of net d) i) in r in
      let b = h.before in
      record {
        is = h.is;
        through = h.through;
        time = h.time;
        tokens = h.tokens;
        time_in = h.time_in;
        tokens_in = h.tokens_in;
        before = omega arith;
        greatest = λ d c p l. h.greatest d c p (below d c p l);
        lowest = λ d c p l. h.lowest d c p (below d c p l);
      }

  -- a transition that the policy leads back to is none of the circuit's, or not below the first
  low_back : (d : List PlaceId) → IsPolicyCircuit net parts part π d → Low net d → (j : ℕ) → j < length d → first_transition_of net d ≤ step_back net π j (first_transition_of net d)
  low_back d c low zero l = omega arith
  low_back d c low (suc j) l =
      let t = circuit_trail net parts part π d c in
      let n : ℕ = length d in
      let root : ℕ = first_transition_of net d in
      let k : ℕ = n - suc j in
      let back_is : n - suc k ≡ j = omega arith in
      let read : get_or d k first_id ≡ π (step_back net π (n - suc k) root) = ap (λ z. get_or z k first_id) t.0 ∙ get_or-trail net π n root k first_id (omega arith) in
      let begins : from_of net (get_or d k first_id) ≡ step_back net π (suc j) root = ap (from_of net) read ∙ ap (λ x. from_of net (π (step_back net π x root))) back_is in
      subst (λ x. root ≤ x) begins (low k first_id (omega arith))

  -- no circuit begins where none is marked to
  pub skip_unmarked : (starts : List Bool) (i : ℕ) → AreStarts net parts part π starts → (IsMarked starts i → ⊥) → (d : List PlaceId)
      → IsPolicyCircuit net parts part π d → Counts net marked d → first_transition_of net d ≡ i → ⊥
  skip_unmarked starts i h out d c p e =
      let root : ℕ = first_transition_of net d in
      let t = circuit_trail net parts part π d c in
      let low : IsLowestOnCircuit net π root = record { steps = length d; some = c.circuit.not_empty; again = t.1; lowest = low_back d c p.0 } in
      out (subst (IsMarked starts) e (h.all root (root_member net parts part π d c) low))

  pub skip_none : (i : ℕ) → ((k : ℕ) → 0 < k → k ≤ length net.transitions → step_back net π k i ≡ i → (j : ℕ) × (j < k)
      × (step_back net π j i < i)) → (d : List PlaceId) → IsPolicyCircuit net parts part π d → Counts net marked d → first_transition_of net d ≡ i → ⊥
  skip_none i none d c p e =
      let t = circuit_trail net parts part π d c in
      let short = circuit_short net parts part π ok d c in
      let w = none (length d) c.circuit.not_empty (omega arith) (subst (λ x. step_back net π (length d) x ≡ x) e t.1) in
      let up : i ≤ step_back net π w.0 i = subst (λ x. x ≤ step_back net π w.0 x) e (low_back d c p.0 w.0 w.1) in
      let down = w.2 in
      absurd (omega arith)

  pub skip_other : (i : ℕ) (f : FoundCircuit) → IsMember parts part i → IsFoundAt net π i f → (Passes net marked f.places.items → ⊥)
      → (d : List PlaceId) → IsPolicyCircuit net parts part π d → Counts net marked d → first_transition_of net d ≡ i → ⊥
  skip_other i f h c out d hd p e =
      let same : d ≡ f.places.items = same_circuit net parts part π ok d f.places.items hd (found_circuit i f h c) (e ∙ sym c.begins) in
      out (subst (Passes net marked) same p.1)

  -- the circuit at i is not above the best
  pub best_keep : (i : ℕ) (f best : FoundCircuit) → IsMember parts part i → IsFoundAt net π i f
      → BestBelow net parts part π marked i best → (best.time * f.tokens < f.time * best.tokens → ⊥) → BestBelow net parts part π marked (i + 1) best
  best_keep i f best h c b low =
      let le : f.time * best.tokens ≤ best.time * f.tokens =
      ⊎_elim (λ (q : best.time * f.tokens < f.time * best.tokens). absurd (low q))
      (λ (q : f.time * best.tokens ≤ best.time * f.tokens). q) (cases_lt (best.time * f.tokens) (f.time * best.tokens)) in
      let before = b.before in
      let is_f = λ (d : List PlaceId) (hd : IsPolicyCircuit net parts part π d)
      (e : first_transition_of net d ≡ i). same_circuit net parts part π ok d f.places.items hd (found_circuit i f h c) (e ∙ sym c.begins) in
      record {
        is = b.is;
        through = b.through;
        time = b.time;
        tokens = b.tokens;
        time_in = b.time_in;
        tokens_in = b.tokens_in;
        before = omega arith;
        greatest = λ d hd p l.
            ⊎_elim
            (λ (q : first_transition_of net d < i). b.greatest d hd p q)
            (λ (q : i ≤ first_transition_of net d).
            let same = is_f d hd (omega arith) in
            let td : time_of net d ≡ f.time = ap (time_of net) same ∙ sym c.time in
            let kd : tokens_of net d ≡ f.tokens = ap (tokens_of net) same ∙ sym c.tokens in
            rw (td, kd) le)
            (cases_lt (first_transition_of net d) i);
        lowest = λ d hd p l e.
            ⊎_elim
            (λ (q : first_transition_of net d < i). b.lowest d hd p q e)
            (λ (q : i ≤ first_transition_of net d). omega arith)
            (cases_lt (first_transition_of net d) i);
      }

  less_than : (f : FoundCircuit) (best : Option FoundCircuit) (i : ℕ) → BestTo net parts part π marked i best → IsAbove f best
      → (d : List PlaceId) → IsPolicyCircuit net parts part π d → Counts net marked d → first_transition_of net d < i
      → time_of net d * f.tokens < f.time * tokens_of net d
  less_than f None i b above d hd p l = absurd (b d hd p l)
  less_than f (Some g) i b above d hd p l =
      let gt : 0 < g.tokens = subst (λ x. 0 < x) (sym b.tokens) (some_token net live g.places.items b.is.circuit) in
      ratio_trans_less (time_of net d) (tokens_of net d) g.time g.tokens f.time f.tokens gt (some_token net live d hd.circuit) (b.greatest d hd p l) above

  -- the circuit at i is above the best, or the first
  pub best_take : (i : ℕ) (f : FoundCircuit) (best : Option FoundCircuit) → IsMember parts part i → IsFoundAt net π i f
      → Passes net marked f.places.items → BestTo net parts part π marked i best → IsAbove f best → BestBelow net parts part π marked (i + 1) f
  best_take i f best h c through b above =
      let circuit = found_circuit i f h c in
      let is_f = λ (d : List PlaceId) (hd : IsPolicyCircuit net parts part π d)
      (e : first_transition_of net d ≡ i). same_circuit net parts part π ok d f.places.items hd circuit (e ∙ sym c.begins) in
      let less = λ (d : List PlaceId) (hd : IsPolicyCircuit net parts part π d) (p : Counts net marked d) (l : first_transition_of net d < i). less_than f best i b above d hd p l in
      let begins = c.begins in
      record {
        is = circuit;
        through = through;
        time = c.time;
        tokens = c.tokens;
        time_in = c.time_in;
        tokens_in = c.tokens_in;
        before = omega arith;
        greatest = λ d hd p l.
            ⊎_elim
            (λ (q : first_transition_of net d < i). let m = less d hd p q in omega arith)
            (λ (q : i ≤ first_transition_of net d).
            let same = is_f d hd (omega arith) in
            let td : time_of net d ≡ f.time = ap (time_of net) same ∙ sym c.time in
            let kd : tokens_of net d ≡ f.tokens = ap (tokens_of net) same ∙ sym c.tokens in
            rw (td, kd) (omega arith))
            (cases_lt (first_transition_of net d) i);
        lowest = λ d hd p l e.
            ⊎_elim
            (λ (q : first_transition_of net d < i). let m = less d hd p q in absurd (omega arith))
            (λ (q : i ≤ first_transition_of net d). omega arith)
            (cases_lt (first_transition_of net d) i);
      }

  pub best_all : (n : ℕ) (f : FoundCircuit) → length parts ≤ n → BestBelow net parts part π marked n f → IsBestFound net parts part π marked f
  best_all n f l b =
      let low = λ (d : List PlaceId) (hd : IsPolicyCircuit net parts part π d). let m = (root_member net parts part π d hd).in_range in let r : first_transition_of net d < n = omega arith in r in
      record {
        best = record {
          is = b.is;
          through = b.through;
          greatest = λ d hd p.
              let t = low_turn net parts part π (λ q. IsMarked marked (to_of net q)) d hd in
              rw (sym b.time, sym b.tokens) (rw (t.time, t.tokens) at (b.greatest t.places t.is (t.low, t.any p) (low t.places t.is)));
          lowest = λ d hd p e.
              let t = low_turn net parts part π (λ q. IsMarked marked (to_of net q)) d hd in
              let same : time_of net t.places * f.tokens ≡ f.time * tokens_of net t.places = rw (t.time, t.tokens) (rw (b.time, b.tokens) e) in
              let one = b.lowest t.places t.is (t.low, t.any p) (low t.places t.is) same in
              let two = t.lower in
              omega arith;
        };
        time = b.time;
        tokens = b.tokens;
        time_in = b.time_in;
        tokens_in = b.tokens_in;
      }

  pub none_all : (n : ℕ) → length parts ≤ n → BestTo net parts part π marked n None → (d : List PlaceId) → IsPolicyCircuit net parts part π d → Passes net marked d → ⊥
  none_all n l b d hd p =
      let t = low_turn net parts part π (λ q. IsMarked marked (to_of net q)) d hd in
      let m = (root_member net parts part π t.places t.is).in_range in
      b t.places t.is (t.low, t.any p) (omega arith)

  pub best_stay : (i : ℕ) (f : FoundCircuit) (best : Option FoundCircuit) → IsMember parts part i → IsFoundAt net π i f
      → BestTo net parts part π marked i best → (IsAbove f best → ⊥) → BestTo net parts part π marked (i + 1) best
  best_stay i f None h c b low = absurd (low tt)
  best_stay i f (Some best) h c b low = best_keep i f best h c b low

  -- the better of the circuit from i and the best so far
  pub best_of : (i : ℕ) (f : FoundCircuit) (best new : Option FoundCircuit) → IsMember parts part i → IsFoundAt net π i f
      → BestTo net parts part π marked i best → IsBetterOf net marked f best new → BestTo net parts part π marked (i + 1) new
  best_of i f best new h c b is =
      ⊎_elim
      (λ (y : Passes net marked f.places.items × IsAbove f best × (new ≡ Some f)). rw y.2 (best_take i f best h c y.0 b y.1))
      (λ (n : ((Passes net marked f.places.items → ⊥) ⊎ (IsAbove f best → ⊥)) × (new ≡ best)).
      rw n.1
      (⊎_elim
      (λ (o : Passes net marked f.places.items → ⊥). best_skip i best b (skip_other i f h c o))
      (λ (o : IsAbove f best → ⊥). best_stay i f best h c b o)
      n.0))
      is
