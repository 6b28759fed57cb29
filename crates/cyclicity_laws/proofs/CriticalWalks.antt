-- A path in which no circuit exceeds a ratio meets a critical circuit, or loses by each of its circuits.
use Rattle.std.proofs.Common.{ℕ, ◌+◌, ◌*◌, ◌<◌, ◌≤◌, ◌≡◌, ◌⊎◌, inl, inr, List, ◌++◌, length, subst, sym, arith, ⊎_elim}
use Rattle.std.specs.Prelude.{sum_by}
use Rattle.std.proofs.lemmas.Bool.{cases_lt}
use Rattle.std.proofs.Math.Nat.{mul-le-mul_left, mul-le-mul_right}
use Rattle.bound_laws.specs.teg_net.declared.entries.PlaceId.{PlaceId}
use Rattle.bound_laws.specs.teg_net.Nets.{NetLists, HasEndsInRange}
use Rattle.bound_laws.specs.teg_net.Circuits.{no_place, place_at, IsPathBetween, time_of, tokens_of}
use Rattle.bound_laws.proofs.teg_net_proofs.PathLaws.{IsPathBetween-append}
use Rattle.bound_laws.proofs.teg_loops_proofs.Taking.{loop_sum, by_loops, sum_most}
use Rattle.bound_laws.proofs.teg_loops_proofs.Visits.{Meets, joined_meets, still_meets}
use Rattle.bound_laws.specs.Critical.{IsCriticalAt}
use Rattle.bound_laws.proofs.teg_net_proofs.Bounds.{hold_bound, holds_bounded, token_bound, tokens_bounded}
use Rattle.bound_laws.proofs.teg_loops_proofs.Ends.{ends_below}
use Rattle.slope_laws.proofs.WalkPaths.{tokens_round}
use Rattle.cyclicity_laws.specs.PartsBetween.{IsCircuitBetween}

-- the path meets a transition of a critical circuit
pub record MeetsCritical (net : NetLists) (a b t : ℕ) (ps : List PlaceId) : Type 0 where
  pub at : ℕ
  pub meets : Meets net t ps at
  pub circuit : List PlaceId
  pub critical : IsCriticalAt net a b at circuit

-- the tokens and the time that a path without loops, or a circuit, has at most
abbrev pub most_tokens : NetLists → ℕ
most_tokens net = length net.transitions * token_bound net

abbrev pub most_time : NetLists → ℕ
most_time net = length net.transitions * hold_bound net

-- so many circuits stand in the path, each of which loses at least 1
pub record LosesMuch (net : NetLists) (a b : ℕ) (ps : List PlaceId) : Type 0 where
  pub loops : ℕ
  pub loss : b * time_of net ps + loops ≤ a * tokens_of net ps + b * most_time net
  pub few : tokens_of net ps ≤ most_tokens net + most_tokens net * loops

loses_more : (b C a P t1 t2 k1 k2 time tokens q : ℕ) → time ≡ t1 + t2 → tokens ≡ k1 + k2 → b * t1 + q ≤ a * k1 + b * P → k1 ≤ C + C * q → b * t2 < a * k2 → k2 ≤ C
    → (b * time + (q + 1) ≤ a * tokens + b * P) × (tokens ≤ C + C * (q + 1))
loses_more b C a P t1 t2 k1 k2 time tokens q e f h l m w =
    let one : b * time ≡ b * t1 + b * t2 = rw e (grind arith) in
    let two : a * tokens ≡ a * k1 + a * k2 = rw f (grind arith) in
    let three : C * (q + 1) ≡ C * q + C = grind arith in
    (omega (arith, one, two, h, m), omega (arith, three, l, w, f))

pub meets_or_loses : (net : NetLists) (a b : ℕ) → HasEndsInRange net → (j t : ℕ) → ((ps : List PlaceId) → IsCircuitBetween net j t ps → b * time_of net ps ≤ a * tokens_of net ps)
    → t < length net.transitions → (ps : List PlaceId) → IsPathBetween net j ps t → MeetsCritical net a b t ps ⊎ LosesMuch net a b ps
meets_or_loses net a b ends j t greatest lt ps h = by_loops net (length net.transitions) j t (λ qs. MeetsCritical net a b t qs ⊎ LosesMuch net a b qs) (ends_below net ends) lt
    (λ qs g l.
    let few : tokens_of net qs ≤ most_tokens net = short (λ p. (place_at net p).tokens) (token_bound net) qs g l (λ id m. tokens_bounded net id.index no_place m) in
    let soon : time_of net qs ≤ most_time net = short (λ p. (place_at net p).hold) (hold_bound net) qs g l (λ id m. holds_bounded net id.index no_place m) in
    let time : b * time_of net qs ≤ b * most_time net = mul-le-mul_left b soon in
    inr (record { loops = 0; loss = omega (arith, time); few = omega (arith, few) }))
    (λ qs g loop old. ⊎_elim
    (λ (m : MeetsCritical net a b t (loop.before ++ loop.after)).
    inl (record {
      at = m.at;
      meets = subst (λ (z : List PlaceId). Meets net t z m.at) (sym loop.is)
          (still_meets net t m.at loop.before loop.loop loop.after m.meets);
      circuit = m.circuit;
      critical = m.critical;
    }))
    (λ (o : LosesMuch net a b (loop.before ++ loop.after)).
    let ratio = greatest loop.loop (record { circuit = loop.circuit; at = loop.at; round = loop.closed; from = (loop.before, loop.first); towards = (loop.after, loop.last) }) in
    ⊎_elim
    (λ (less : b * time_of net loop.loop < a * tokens_of net loop.loop).
    let both = loses_more b (most_tokens net) a (most_time net) (time_of net (loop.before ++ loop.after)) (time_of net loop.loop)
    (tokens_of net (loop.before ++ loop.after)) (tokens_of net loop.loop) (time_of net qs) (tokens_of net qs) o.loops
    (loop_sum (λ p. (place_at net p).hold) net j t qs loop) (loop_sum (λ p. (place_at net p).tokens) net j t qs loop) o.loss o.few less (tokens_round net (token_bound net) loop.loop ends (tokens_bounded net) loop.circuit) in
    inr (record { loops = o.loops + 1; loss = both.0; few = both.1 }))
    (λ (more : a * tokens_of net loop.loop ≤ b * time_of net loop.loop).
    inl (record {
      at = loop.at;
      meets = subst (λ (z : List PlaceId). Meets net t z loop.at) (sym loop.is)
          (joined_meets net loop.before (loop.loop ++ loop.after) loop.at t
          (IsPathBetween-append net loop.loop loop.after loop.at loop.at t loop.closed loop.last));
      circuit = loop.loop;
      critical = record { circuit = loop.circuit; at = loop.closed; critical = omega (arith, ratio, more) };
    }))
    (cases_lt (b * time_of net loop.loop) (a * tokens_of net loop.loop)))
    old)
    ps h where
      short : (f : PlaceId → ℕ) (most : ℕ) (qs : List PlaceId) → IsPathBetween net j qs t → length qs < length net.transitions
          → ((id : PlaceId) → id.index < length net.places → f id ≤ most) → sum_by f qs ≤ length net.transitions * most
      short f most qs g l each =
          let one = sum_most f most net each qs j t g in
          let two : length qs * most ≤ length net.transitions * most = mul-le-mul_right {m = length qs} {n = length net.transitions} most (omega (arith, l)) in
          omega (arith, one, two)
