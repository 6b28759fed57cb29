use Rattle.std.proofs.Common.{◌≡◌, ◌<◌, length, get_or, sym, ap}
use Rattle.std.proofs.lemmas.List.{get_or_read}
use Rattle.teg_replay.proofs.InputLists.{no_list, input_within, positions_more}
use Rattle.teg_replay.proofs.ends.list_positions.Goals as goal

pub loop-position-preserved : goal.loop-position-preserved
loop-position-preserved c =
    let net = c.args.net.now in
    let i = c.loop-position.position in
    let positions = c.loop-position.positions.items in
    let in' : i < length net.inputs = rw c.inputs-list-items.ensures.value at c.loop-position-test.true in
    let read = get_or_read c.inputs-list-items.result.now i c.list-item.result c.loop-position-test.true c.list-item.is no_list in
    let item : c.list-item.result ≡ get_or net.inputs i no_list = rw c.inputs-list-items.ensures.value at read in
    let own = c.transitions.ensures.rules.each_input i no_list in' in
    let to = c.list-item.result.transition.index in
    let to_in : to < length net.transitions = rw item (input_within net (get_or net.inputs i no_list).transition.index own.is_input) in
    positions_more net positions i to c.transitions.ensures.rules c.loop-position.invariant in' (sym (ap (λ l. l.transition.index) item)) to_in
