use Rattle.std.proofs.Common.{◌≡◌, [], length, drop}
use Rattle.teg_net.specs.Nets.{lists_of}
use Rattle.token_shares.specs.BareNets.{bare, with_closed}
use Rattle.token_shares.proofs.bare.bare_net.Given as goal

-- with the places that are left closed too, the net is what was asked for
abbrev pub invariant-loop-id : goal.invariant-loop-id
invariant-loop-id l = record {
  count : length l.places.items ≡ length l.net.places;
  rest : with_closed (lists_of l.net.transitions l.places.items []) (drop l.id-index l.closed) ≡ with_closed (bare l.net) l.closed;
}
