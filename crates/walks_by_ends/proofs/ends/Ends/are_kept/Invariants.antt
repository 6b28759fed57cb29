use Rattle.std.proofs.Common.{All, take}
use Rattle.teg_net.specs.Circuits.{place_at}
use Rattle.walks_by_ends.specs.EndForms.{IsKeptEnd}
use Rattle.walks_by_ends.proofs.ends.Ends.are_kept.Given as goal

abbrev pub invariant-loop-place : goal.invariant-loop-place
invariant-loop-place l = All (λ p. IsKeptEnd l.self (place_at l.net p).to.index) (take l.place-index l.places)
