use Rattle.std.proofs.Common.{take}
use Rattle.std.specs.Prelude.{All, IsTrue}
use Rattle.teg_net.specs.Names.{is_name}
use Rattle.teg_net.proofs.rules.places_are_named.Given as goal

abbrev pub invariant-loop-place : goal.invariant-loop-place
invariant-loop-place l = All (λ p. IsTrue (is_name p.name)) (take l.place-index l.places)
