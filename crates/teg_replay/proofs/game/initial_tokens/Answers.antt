use Rattle.std.proofs.Common.{◌≡◌, ◌<◌, ◌≤◌, ◌^◌, [], length, get_or, arith}
use Rattle.std.proofs.lemmas.List.{get_or_read}
use Rattle.std.proofs.lemmas.List.Sums.{sum_by_more_le}
use Rattle.teg_net.specs.Circuits.{no_place}
use Rattle.run_laws.specs.Earliest.{tokens_in, tokens_after}
use Rattle.run_laws.proofs.Counting.{tokens_few}
use Rattle.teg_replay.proofs.game.initial_tokens.Goals as goal

pub overflow_add-tokens : goal.overflow_add-tokens
overflow_add-tokens c =
    let net = c.args.net.now in
    let i = c.loop-place.place-index in
    let in' : i < length net.places = rw c.places-place-items.ensures.value at c.loop-place-test.true in
    let read = get_or_read c.places-place-items.result.now i c.place-item.result c.loop-place-test.true c.place-item.is no_place in
    let item : c.place-item.result ≡ get_or net.places i no_place = rw c.places-place-items.ensures.value at read in
    let few : tokens_after net [] ≤ 2 ^ 60 = tokens_few net [] c.places-place-items.ensures.rules (omega arith) in
    let more = sum_by_more_le (tokens_in []) net.places i no_place in' in
    let own : c.from-tokens.result ≡ (get_or net.places i no_place).tokens = rw item at c.from-tokens.ensures in
    omega (arith, c.loop-place.invariant, few, more, own)
