use Rattle.std.proofs.Common.{◌≤◌, List, length, sym, ap, subst, ◌∙◌, arith}
use Rattle.teg_net.specs.declared.entries.PlaceId.{PlaceId}
use Rattle.teg_net.specs.Circuits.{AreInRange, tokens_of}
use Rattle.teg_net.specs.Limits.{most_transitions}
use Rattle.pace_pieces.specs.declared.lines.Line.{Line}
use Rattle.pace_pieces.specs.Pieces.{passes_of, rest_of}
use Rattle.pace_pieces.proofs.Short.{circuit_in_range, circuit_short, line_is}
use Rattle.pace_pieces.proofs.lines.line_of.Goals as goal

pub sums_of-sums-requires-clause-in_range : goal.sums_of-sums-requires-clause-in_range
sums_of-sums-requires-clause-in_range c =
    subst (λ (z : List PlaceId). AreInRange c.args.net.now z) (sym c.deref.ensures.value) (circuit_in_range c.args.net.now c.args.circuit.places.items c.requires.circuit)

pub sums_of-sums-requires-clause-few : goal.sums_of-sums-requires-clause-few
sums_of-sums-requires-clause-few c =
    subst (λ (z : List PlaceId). length z ≤ most_transitions) (sym c.deref.ensures.value) (circuit_short c.args.net.now c.args.circuit.places.items c.rules.ensures c.requires.circuit)

pub tokens_of-tokens-requires : goal.tokens_of-tokens-requires
tokens_of-tokens-requires c =
    subst (λ (z : List PlaceId). AreInRange c.args.net.now z) (sym c.deref-2.ensures.value) (circuit_in_range c.args.net.now c.args.circuit.places.items c.requires.circuit)

pub overflow_cast-tokens : goal.overflow_cast-tokens
overflow_cast-tokens c =
    let few : length c.deref-2.result.now ≤ most_transitions =
    subst (λ (z : List PlaceId). length z ≤ most_transitions) (sym c.deref-2.ensures.value)
    (circuit_short c.args.net.now c.args.circuit.places.items c.rules.ensures c.requires.circuit) in
    let most = c.tokens_of-tokens.ensures.most in
    omega (arith, few, most)

pub returns-clause-line : goal.returns-clause-line
returns-clause-line c =
    let l : Line = record {
      base = c.sums_of-sums.result.rest;
      passes = c.sums_of-sums.result.passes;
      tokens = c.tokens_of-tokens.result;
      circuit = c.args.circuit;
    } in
    line_is c.args.net.now c.args.place l c.rules.ensures c.requires.live c.requires.place c.requires.circuit
    (c.sums_of-sums.ensures.rest ∙ ap (rest_of c.args.net.now c.args.place) c.deref.ensures.value)
    (c.sums_of-sums.ensures.passes ∙ ap (passes_of c.args.place) c.deref.ensures.value)
    (c.tokens_of-tokens.ensures.value ∙ ap (tokens_of c.args.net.now) c.deref-2.ensures.value)
