-- Working definitions of the steps by which dates may move.
use Rattle.std.specs.Prelude.{ℤ, ◌≡◌, ⊤}
use Rattle.settled_certificates.specs.declared.shortest.StepsLeft.{StepsLeft}
use Rattle.settled_certificates.specs.declared.shortest.StepsLeft.TheVariants.{Any, One, Nothing}

-- the step is one of those that are left
abbrev pub IsLeft : StepsLeft → ℤ → Type 0
IsLeft Any step = ⊤
IsLeft (One only) step = step ≡ only
IsLeft Nothing step = ⊥
