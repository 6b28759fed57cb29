use Rattle.std.proofs.Common.{sym, subst}
use Rattle.teg_net.specs.Circuits.{IsLive, IsTokenFree}
use Rattle.ready_changes.proofs.ReadyDates.{keeps_live}
use Rattle.ready_changes.proofs.ready.set_ready.Goals as goal

pub unreachable-requires : goal.unreachable-requires
unreachable-requires c =
    let own : IsLive c.net-3.result.now = subst IsLive (sym c.net-3.ensures.net) c.net-3.ensures.live in
    let live : IsLive c.in_ok-net.net = subst IsLive (sym c.in_ok-net.ensures) (keeps_live c.net-3.result.now c.args.place c.args.ready.now own) in
    let free : IsTokenFree c.in_ok-net.net c.in-TokenFree.circuit.places.items = rw c.in-TokenFree.is at c.in-Err.ensures.refusal in
    live c.in-TokenFree.circuit.places.items free.circuit free.no_tokens
