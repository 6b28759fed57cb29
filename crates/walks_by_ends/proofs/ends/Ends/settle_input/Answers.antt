use Rattle.std.proofs.Common.{ℕ, ◌<◌, ◌≡◌, All, List, length, get_or, sym, subst}
use Rattle.teg_net.specs.declared.entries.PlaceId.{PlaceId}
use Rattle.teg_net.specs.Circuits.{place_at}
use Rattle.teg_net.specs.Nets.{IsInput}
use Rattle.teg_settle.proofs.walk_times_proofs.Walking.{input_within}
use Rattle.walks_by_ends.proofs.ends.Ends.settle_input.Goals as goal

pub settle-requires-clause-place : goal.settle-requires-clause-place
settle-requires-clause-place c =
    let net = c.args.net.now in
    let lists = c.requires.leaving.each c.args.input.index (input_within net c.args.input.index c.requires.input) in
    let known = subst (All (λ p. p.index < length net.places)) (sym c.of-places.ensures) lists.known in
    known c.loop-place.place-index (record { index = 0 }) c.loop-place-test.true

pub settle-requires-clause-input : goal.settle-requires-clause-input
settle-requires-clause-input c =
    let net = c.args.net.now in
    let lists = c.requires.leaving.each c.args.input.index (input_within net c.args.input.index c.requires.input) in
    let right = subst (All (λ p. (place_at net p).from.index ≡ c.args.input.index)) (sym c.of-places.ensures) lists.right in
    subst (IsInput net) (sym (right c.loop-place.place-index (record { index = 0 }) c.loop-place-test.true)) c.requires.input
