use Rattle.std.proofs.Common.{◌≡◌, map, take}
use Rattle.token_shares.specs.BareNets.{without_ready}
use Rattle.token_shares.proofs.bare.bare_places.Given as goal

abbrev pub invariant-loop-place : goal.invariant-loop-place
invariant-loop-place l = l.copies.items ≡ map without_ready (take l.place-index l.places)
