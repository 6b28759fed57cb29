-- A path split into a straight one and circuits, and what circuits gain.
use Rattle.std.proofs.Common.{ℕ, zero, suc, ◌+◌, ◌<◌, ◌≤◌, List, [], ◌∷◌, ◌++◌, length, arith, ⊎_elim}
use Rattle.std.specs.Prelude.{All, sum_by}
use Rattle.std.proofs.lemmas.List.Sums.{sum_by-cons}
use Rattle.teg_net.specs.declared.entries.PlaceId.{PlaceId}
use Rattle.teg_net.specs.Nets.{NetLists}
use Rattle.teg_net.specs.Circuits.{IsPathBetween}
use Rattle.teg_loops.specs.Loops.{HasLoop, IsCircuitTowards, IsSplit}
use Rattle.teg_loops.specs.Shortening.{NoCircuitGains}
use Rattle.teg_loops.specs.PathSplitting.{PathsSplit, PathsCanBeShortened}
use Rattle.teg_loops.proofs.Straight.{loop_or_apart, apart_straight}
use Rattle.teg_loops.proofs.Taking.{rest_leads, rest_shorter, loop_sum}

-- circuits with one more
more_rounds : (net : NetLists) (b : ℕ) (c : List PlaceId) (cs : List (List PlaceId)) → IsCircuitTowards net b c → All (IsCircuitTowards net b) cs → All (IsCircuitTowards net b) (c ∷ cs)
more_rounds net b c cs h all zero d l = h
more_rounds net b c cs h all (suc i) d l = all i d (omega arith)

split_on : (net : NetLists) (a b fuel : ℕ) (ps : List PlaceId) → length ps < fuel → IsPathBetween net a ps b → (straight : List PlaceId)
    × (circuits : List (List PlaceId)) × IsSplit net a ps b straight circuits
split_on net a b zero ps l h = absurd (omega arith)
split_on net a b (suc fuel) ps l h = ⊎_elim
    (λ (loop : HasLoop net a b ps).
    let less = rest_shorter net a b ps loop in
    let some : 0 < length loop.loop = loop.circuit.not_empty in
    let old = split_on net a b fuel (loop.before ++ loop.after) (omega arith) (rest_leads net a b ps loop) in
    let own : IsCircuitTowards net b loop.loop = record { circuit = loop.circuit; at = loop.at; round = loop.closed; towards = (loop.after, loop.last) } in (
      old.0,
      loop.loop ∷ old.1,
      record {
        path = old.2.path;
        rounds = more_rounds net b loop.loop old.1 own old.2.rounds;
        same = λ f. let one = loop_sum f net a b ps loop in let two = old.2.same f in let three = sum_by-cons (λ c. sum_by f c) loop.loop old.1 in omega arith;
      },
    ))
    (λ apart. (ps, [], record { path = apart_straight net ps a b h apart; rounds = λ i d m. absurd (omega arith); same = λ f. omega arith }))
    (loop_or_apart net ps a b h)

pub split : PathsSplit
split net ps a b h = split_on net a b (suc (length ps)) ps (omega arith) h

-- what circuits gain in all
rounds_gain : (net : NetLists) (gain cost : PlaceId → ℕ) (b : ℕ) → NoCircuitGains net gain cost → (cs : List (List PlaceId))
    → All (IsCircuitTowards net b) cs → sum_by (λ c. sum_by gain c) cs ≤ sum_by (λ c. sum_by cost c) cs
rounds_gain net gain cost b none [] all = omega arith
rounds_gain net gain cost b none (c ∷ cs) all =
    let here = none c (all 0 c (omega arith)).circuit in
    let rest = rounds_gain net gain cost b none cs (λ i d l. all (suc i) d (omega arith)) in
    let g = sum_by-cons (λ x. sum_by gain x) c cs in
    let k = sum_by-cons (λ x. sum_by cost x) c cs in
    omega arith

pub shorten : PathsCanBeShortened
shorten net gain cost none ps a b h =
    let s = split net ps a b h in
    let rounds = rounds_gain net gain cost b none s.1 s.2.rounds in
    let g = s.2.same gain in
    let c = s.2.same cost in
    (s.0, s.2.path, omega arith)
