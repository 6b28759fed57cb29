-- Lines of circuits of a net keep its limits.
use Rattle.std.proofs.Common.{ℕ, ◌+◌, ◌*◌, ◌<◌, ◌≤◌, ◌≡◌, List, length, sym, ◌∙◌, arith, ⊎_elim}
use Rattle.std.specs.Prelude.{sum_by}
use Rattle.std.proofs.lemmas.Bool.{cases_lt, cases_eq}
use Rattle.std.proofs.Math.Nat.{mul-le-mul_right}
use Rattle.teg_net.specs.declared.entries.PlaceId.{PlaceId}
use Rattle.teg_net.specs.Changes.{with_hold}
use Rattle.teg_net.specs.Circuits.{no_place, place_at, AreInRange, IsCircuit, IsLive, time_of, tokens_of}
use Rattle.teg_net.specs.Limits.{greatest_hold, most_place_tokens, most_transitions, greatest_circuit_time}
use Rattle.teg_net.specs.Nets.{NetLists, IsNet, IsPlaceOf}
use Rattle.teg_net.proofs.NetRules.{net_ends}
use Rattle.teg_net.proofs.PathLaws.{IsPathBetween-in_range}
use Rattle.teg_loops.proofs.Ends.{ends_below}
use Rattle.teg_loops.proofs.Straight.{loop_short}
use Rattle.teg_loops.proofs.Taking.{sum_most}
use Rattle.pace_pieces.specs.declared.lines.Line.{Line}
use Rattle.pace_pieces.specs.Pieces.{rest_of, passes_of, IsLineOf}
use Rattle.pace_pieces.proofs.LineLaws.{hold_here, hold_apart, time_by}

-- a circuit has at most as many places as a net has transitions
pub circuit_short : (net : NetLists) (ps : List PlaceId) → IsNet net → IsCircuit net ps → length ps ≤ most_transitions
circuit_short net ps ok c =
    let few = ok.few_transitions in
    let short = loop_short net (length net.transitions) ps (ends_below net (net_ends net ok)) c in
    omega (arith, few, short)

pub circuit_in_range : (net : NetLists) (ps : List PlaceId) → IsCircuit net ps → AreInRange net ps
circuit_in_range net ps c = IsPathBetween-in_range net ps c.closed.0 c.closed.0 c.closed.1

-- a sum along it
around : (net : NetLists) (f : PlaceId → ℕ) (most : ℕ) → ((id : PlaceId) → id.index < length net.places → f id ≤ most) → (ps : List PlaceId)
    → IsNet net → IsCircuit net ps → sum_by f ps ≤ most_transitions * most
around net f most each ps ok c =
    let one = sum_most f most net each ps c.closed.0 c.closed.0 c.closed.1 in
    let two : length ps * most ≤ most_transitions * most = mul-le-mul_right {m = length ps} {n = most_transitions} most (circuit_short net ps ok c) in
    omega (arith, one, two)

held_at_most : (net : NetLists) (place : PlaceId) (h : ℕ) → IsNet net → place.index < length net.places → h ≤ greatest_hold
    → (id : PlaceId) → id.index < length net.places → (place_at (with_hold net place h) id).hold ≤ greatest_hold
held_at_most net place h ok in' low id l = ⊎_elim
    (λ (e : id.index ≡ place.index). let own = hold_here net place h id in' e in omega (arith, own, low))
    (λ (other : id.index ≡ place.index → ⊥).
    let own = hold_apart net place h id other in
    let rules : IsPlaceOf net (place_at net id) = ok.each_place id.index no_place l in
    let less = rules.hold_in in
    omega (arith, own, less))
    (cases_eq id.index place.index)

same_line : (r p b n h : ℕ) → b ≡ r → n ≡ p → r + p * h ≡ b + n * h
same_line r p b n h e f = cc (e, f)

within_time : (a t : ℕ) → t ≡ a → t ≤ most_transitions * greatest_hold → a ≤ greatest_circuit_time
within_time a t e f = omega (arith, e, f)

-- the line of a circuit, by its sums
pub line_is :
    (net : NetLists) (place : PlaceId) (l : Line) → IsNet net → IsLive net → place.index < length net.places → IsCircuit net l.circuit.places.items
    → l.base ≡ rest_of net place l.circuit.places.items → l.passes ≡ passes_of place l.circuit.places.items → l.tokens ≡ tokens_of net l.circuit.places.items
    → IsLineOf net place l
line_is net place l ok live in' c base passes tokens =
    let ps : List PlaceId = l.circuit.places.items in
    let few : tokens_of net ps ≤ most_transitions * most_place_tokens =
    around net (λ p. (place_at net p).tokens) most_place_tokens (λ id m. (let rules : IsPlaceOf net (place_at net id) = ok.each_place id.index no_place m in rules.tokens_in)) ps ok c in
    let some : 1 ≤ tokens_of net ps = ⊎_elim (λ (q : 0 < tokens_of net ps). q) (λ (q : tokens_of net ps ≤ 0). absurd (live ps c (omega (arith, q)))) (cases_lt 0 (tokens_of net ps)) in
    record {
      circuit = c;
      tokens = sym tokens;
      time = time_is;
      short = record {
        some = omega (arith, tokens, some);
        few = omega (arith, tokens, few);
        time = λ h low.
            let time : time_of (with_hold net place h) ps ≤ most_transitions * greatest_hold =
            around net (λ p. (place_at (with_hold net place h) p).hold) greatest_hold (held_at_most net place h ok in' low) ps ok c in
            within_time (l.base + l.passes * h) (time_of (with_hold net place h) ps) (time_is h) time;
      };
    } where
      time_is : (h : ℕ) → time_of (with_hold net place h) l.circuit.places.items ≡ l.base + l.passes * h
      time_is h =
          time_by net place h l.circuit.places.items in'
          ∙ same_line (rest_of net place l.circuit.places.items) (passes_of place l.circuit.places.items) l.base l.passes h base passes
