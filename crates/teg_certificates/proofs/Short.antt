-- A circuit has at most as many places as the net has transitions, and so small sums.
use Rattle.std.proofs.Common.{ℕ, ◌*◌, ◌<◌, ◌≤◌, List, [], ◌∷◌, length, get_or, arith, ⊎_elim}
use Rattle.std.proofs.lemmas.Bool.{cases_lt}
use Rattle.std.proofs.lemmas.List.Sums.{sum_by-cons}
use Rattle.std.proofs.lemmas.List.Elements.{All-tail}
use Rattle.teg_net.specs.declared.entries.PlaceId.{PlaceId}
use Rattle.teg_net.specs.Nets.{NetLists, IsNet}
use Rattle.teg_net.specs.Circuits.{no_place, place_at, from_of, IsCircuit, AreInRange, time_of, tokens_of}
use Rattle.teg_net.specs.Limits.{greatest_circuit_time, greatest_hold, most_circuit_tokens}
use Rattle.teg_net.proofs.PathLaws.{IsPathBetween-in_range}
use Rattle.teg_net.proofs.number_laws_proofs.Pigeons.{pigeons}

abbrev none : PlaceId
none = record { index = 0 }

circuit_range : (net : NetLists) (ps : List PlaceId) → IsCircuit net ps → AreInRange net ps
circuit_range net ps c = IsPathBetween-in_range net ps c.closed.0 c.closed.0 c.closed.1

pub circuit_short : (net : NetLists) (kept : IsNet net) (ps : List PlaceId) → IsCircuit net ps → length ps ≤ length net.transitions
circuit_short net kept ps c =
    ⊎_elim
    (λ (l : length net.transitions < length ps).
    let f : ℕ → ℕ = λ i. from_of net (get_or ps i none) in
    let w = pigeons (length net.transitions) f (λ i m. (kept.each_place (get_or ps i none).index no_place (circuit_range net ps c i none (omega arith))).from_in) in
    let few = w.3 in
    absurd (c.leaves_once w.0 w.1 none w.2 (omega arith) w.4))
    (λ (l : length ps ≤ length net.transitions). l)
    (cases_lt (length net.transitions) (length ps))

sums_small : (net : NetLists) (kept : IsNet net) (ps : List PlaceId) → AreInRange net ps → (time_of net ps ≤ length ps * greatest_hold) × (tokens_of net ps ≤ length ps * 1000)
sums_small net kept [] h = (omega arith, omega arith)
sums_small net kept (p ∷ ps) h =
    let rest = sums_small net kept ps (All-tail (λ q. q.index < length net.places) p ps h) in
    let e = sum_by-cons (λ q. (place_at net q).hold) p ps in
    let f = sum_by-cons (λ q. (place_at net q).tokens) p ps in
    let is = kept.each_place p.index no_place (h 0 p (omega arith)) in
    let hold = is.hold_in in
    let token = is.tokens_in in
    (omega (arith, rest.0), omega (arith, rest.1))

pub circuit_sums : (net : NetLists) (kept : IsNet net) (ps : List PlaceId) → IsCircuit net ps → (time_of net ps ≤ greatest_circuit_time) × (tokens_of net ps ≤ most_circuit_tokens)
circuit_sums net kept ps c =
    let s = sums_small net kept ps (circuit_range net ps c) in
    let l = circuit_short net kept ps c in
    let few = kept.few_transitions in
    (omega (arith, s.0), omega (arith, s.1))
