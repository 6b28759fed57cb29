-- A best circuit begins at its lowest numbered transition.
use Rattle.std.proofs.Common.{ℕ, zero, suc, ◌+◌, ◌-◌, ◌*◌, ◌<◌, ◌≤◌, ◌≡◌, List, length, get_or, take, drop, sym, ap, subst, ◌∙◌, arith, ⊎_elim}
use Rattle.std.specs.Prelude.{All, Any}
use Rattle.std.proofs.lemmas.Bool.{cases_lt}
use Rattle.std.proofs.lemmas.List.{length-drop, get_or_append_left, get_or-append_right, get_or-drop, get_or-take, get_or_default}
use Rattle.std.proofs.lemmas.List.Elements.{All-append, All-take, All-drop}
use Rattle.teg_net.specs.declared.entries.PlaceId.{PlaceId}
use Rattle.teg_net.specs.Nets.{NetLists}
use Rattle.teg_net.specs.Circuits.{place_at, time_of, tokens_of, from_of}
use Rattle.teg_net.proofs.Turning.{turned, length-turned, turned_circuit, turned_sum}
use Rattle.teg_net.specs.Parts.{IsPlaceOfPart, to_of}
use Rattle.policy_rounds.specs.Policies.{Policy, IsPolicyCircuit, IsBestCircuit, first_id}
use Rattle.teg_net.specs.PartAnswers.{first_transition_of}

any_turned : (P : PlaceId → Type 0) (xs : List PlaceId) (k : ℕ) → k ≤ length xs → Any P xs → Any P (turned xs k)
any_turned P xs k l w =
    let i : ℕ = w.0 in
    let x : PlaceId = w.1 in
    let m : i < length xs = w.2 in
    let long = length-turned xs k l in
    ⊎_elim
    (λ (q : i < k).
    let at : ℕ = (length xs - k) + i in
    let is : at - (length xs - k) ≡ i = omega arith in
    let read = get_or-append_right (drop k xs) (take k xs) (length xs - k) at x (length-drop k xs) (omega arith) in
    (at, x, omega arith, read ∙ (ap (λ n. get_or (take k xs) n x) is ∙ (get_or-take k xs i x q ∙ w.3)), w.4))
    (λ (q : k ≤ i).
    let at : ℕ = i - k in
    let is : k + at ≡ i = omega arith in
    let near : at < length (drop k xs) = omega (arith, length-drop k xs) in
    (at, x, omega arith, get_or_append_left (drop k xs) (take k xs) x at near ∙ (get_or-drop k xs at x ∙ (ap (λ n. get_or xs n x) is ∙ w.3)), w.4))
    (cases_lt i k)

pub best_lowest : (net : NetLists) (parts : List ℕ) (part : ℕ) (π : Policy) (Kind : ℕ → Type 0) (c : List PlaceId)
    → IsBestCircuit net parts part π Kind c → All (λ p. first_transition_of net c ≤ from_of net p) c
best_lowest net parts part π Kind c b i d l =
    let e : List PlaceId = turned c i in
    let circuit : IsPolicyCircuit net parts part π e = record {
      circuit = turned_circuit net c i (omega arith) b.is.circuit;
      inside = All-append (IsPlaceOfPart net parts part) (drop i c) (take i c) (All-drop (IsPlaceOfPart net parts part) i c b.is.inside) (All-take (IsPlaceOfPart net parts part) i c b.is.inside);
      own = All-append (λ p. π (to_of net p) ≡ p) (drop i c) (take i c) (All-drop (λ p. π (to_of net p) ≡ p) i c b.is.own) (All-take (λ p. π (to_of net p) ≡ p) i c b.is.own);
    } in
    let through = any_turned (λ p. Kind (to_of net p)) c i (omega arith) b.through in
    let time : time_of net e ≡ time_of net c = turned_sum (λ p. (place_at net p).hold) c i in
    let tokens : tokens_of net e ≡ tokens_of net c = turned_sum (λ p. (place_at net p).tokens) c i in
    let same : time_of net e * tokens_of net c ≡ time_of net c * tokens_of net e = ap (λ x. x * tokens_of net c) time ∙ ap (λ x. time_of net c * x) (sym tokens) in
    let low : first_transition_of net c ≤ first_transition_of net e = b.lowest e circuit through same in
    let near : 0 < length (drop i c) = omega (arith, length-drop i c) in
    let is : i + 0 ≡ i = omega arith in
    let first : get_or e 0 first_id ≡ get_or c i d = get_or_append_left (drop i c) (take i c) first_id 0 near
    ∙ (get_or-drop i c 0 first_id ∙ (ap (λ n. get_or c n first_id) is ∙ get_or_default c i first_id d l)) in
    subst (λ x. first_transition_of net c ≤ x) (ap (from_of net) first) low

-- a number at which a function is least, of those below n
least_at : (f : ℕ → ℕ) (n : ℕ) → 0 < n → (k : ℕ) × (k < n) × ((j : ℕ) → j < n → f k ≤ f j)
least_at f zero l = absurd (omega arith)
least_at f (suc zero) l = (0, omega arith, λ j m. let e : 0 ≡ j = omega arith in let s : f 0 ≡ f j = ap f e in omega arith)
least_at f (suc (suc n)) l =
    let w = least_at f (suc n) (omega arith) in
    let k : ℕ = w.0 in
    let k_in : k < suc n = w.1 in
    ⊎_elim
    (λ (q : f (suc n) < f k). (
      suc n,
      omega arith,
      λ j m.
          ⊎_elim
          (λ (r : j < suc n). let s = w.2 j r in omega arith)
          (λ (r : suc n ≤ j). let e : suc n ≡ j = omega arith in let s : f (suc n) ≡ f j = ap f e in omega arith)
          (cases_lt j (suc n)),
    ))
    (λ (q : f k ≤ f (suc n)). (
      k,
      omega arith,
      λ j m.
          ⊎_elim
          (λ (r : j < suc n). w.2 j r)
          (λ (r : suc n ≤ j). let e : suc n ≡ j = omega arith in let s : f (suc n) ≡ f j = ap f e in omega arith)
          (cases_lt j (suc n)),
    ))
    (cases_lt (f (suc n)) (f k))

-- the same circuit, told from its lowest transition on
pub record Turned (net : NetLists) (parts : List ℕ) (part : ℕ) (π : Policy) (P : PlaceId → Type 0) (d : List PlaceId) : Type 0 where
  pub places : List PlaceId
  pub is : IsPolicyCircuit net parts part π places
  pub low : All (λ p. first_transition_of net places ≤ from_of net p) places
  pub any : Any P d → Any P places
  pub time : time_of net places ≡ time_of net d
  pub tokens : tokens_of net places ≡ tokens_of net d
  pub lower : first_transition_of net places ≤ first_transition_of net d

pub low_turn : (net : NetLists) (parts : List ℕ) (part : ℕ) (π : Policy) (P : PlaceId → Type 0) (d : List PlaceId) → IsPolicyCircuit net parts part π d → Turned net parts part π P d
low_turn net parts part π P d h =
    let w = least_at (λ k. from_of net (get_or d k first_id)) (length d) h.circuit.not_empty in
    let k : ℕ = w.0 in
    let k_in : k < length d = w.1 in
    let e : List PlaceId = turned d k in
    let near : 0 < length (drop k d) = omega (arith, length-drop k d) in
    let is : k + 0 ≡ k = omega arith in
    let first : first_transition_of net e ≡ from_of net (get_or d k first_id) =
    ap (from_of net) (get_or_append_left (drop k d) (take k d) first_id 0 near ∙ (get_or-drop k d 0 first_id ∙ ap (λ n. get_or d n first_id) is)) in
    let least : All (λ p. first_transition_of net e ≤ from_of net p) d = λ i x l.
    let same : from_of net (get_or d i x) ≡ from_of net (get_or d i first_id) = ap (from_of net) (get_or_default d i x first_id l) in
    let s = w.2 i l in
    omega arith in
    record {
      places = e;
      is = record {
        circuit = turned_circuit net d k (omega arith) h.circuit;
        inside = All-append (IsPlaceOfPart net parts part) (drop k d) (take k d) (All-drop (IsPlaceOfPart net parts part) k d h.inside) (All-take (IsPlaceOfPart net parts part) k d h.inside);
        own = All-append (λ p. π (to_of net p) ≡ p) (drop k d) (take k d) (All-drop (λ p. π (to_of net p) ≡ p) k d h.own) (All-take (λ p. π (to_of net p) ≡ p) k d h.own);
      };
      low = All-append (λ p. first_transition_of net e ≤ from_of net p) (drop k d) (take k d)
          (All-drop (λ p. first_transition_of net e ≤ from_of net p) k d least) (All-take (λ p. first_transition_of net e ≤ from_of net p) k d least);
      any = any_turned P d k (omega arith);
      time = turned_sum (λ p. (place_at net p).hold) d k;
      tokens = turned_sum (λ p. (place_at net p).tokens) d k;
      lower = let s = w.2 0 h.circuit.not_empty in omega arith;
    }
