-- What a refusal tells of the firing.
use Rattle.std.specs.Prelude.{◌<◌, List, length, ⊤}
use Rattle.teg_net.specs.Nets.{NetLists}
use Rattle.run_laws.specs.declared.fired.Fired.{Fired}
use Rattle.run_laws.specs.FiringFailures.{IsFirstLateToken, IsBackInTime, IsBeforeRelease}
use Rattle.teg_replay.specs.declared.refusal.FireRefusal.{FireRefusal}
use Rattle.teg_replay.specs.declared.refusal.FireRefusal.TheVariants.{Illegal, BackInTime, BeforeRelease, OutOfMemory}

-- the firing fails in this way, and in none that stands before it; want of memory is no way to fail
abbrev pub Fails : NetLists → List Fired → Fired → FireRefusal → Type 0
Fails net run f (Illegal id date) = IsFirstLateToken net run f id date
Fails net run f (BackInTime last) = IsBackInTime net run f last
Fails net run f (BeforeRelease release) = IsBeforeRelease net run f release
Fails net run f OutOfMemory = ⊥

-- a refusal tells how the firing fails; want of memory says nothing
abbrev pub IsRightFireRefusal : NetLists → List Fired → Fired → FireRefusal → Type 0
IsRightFireRefusal net run f (Illegal id date) = IsFirstLateToken net run f id date
IsRightFireRefusal net run f (BackInTime last) = IsBackInTime net run f last
IsRightFireRefusal net run f (BeforeRelease release) = IsBeforeRelease net run f release
IsRightFireRefusal net run f OutOfMemory = ⊤

-- one of the three ways to fail, and no want of memory
abbrev pub IsFailure : FireRefusal → Type 0
IsFailure (Illegal id date) = ⊤
IsFailure (BackInTime last) = ⊤
IsFailure (BeforeRelease release) = ⊤
IsFailure OutOfMemory = ⊥

-- the place that is told, if one is, is one of the net
abbrev pub NamesPlaceOf : NetLists → FireRefusal → Type 0
NamesPlaceOf net (Illegal id date) = id.index < length net.places
NamesPlaceOf net (BackInTime last) = ⊤
NamesPlaceOf net (BeforeRelease release) = ⊤
NamesPlaceOf net OutOfMemory = ⊤
