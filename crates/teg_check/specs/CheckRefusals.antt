-- What a refusal says of the net.
use Rattle.std.specs.Prelude.{⊤}
use Rattle.teg_net.specs.Nets.{NetLists}
use Rattle.teg_net.specs.Circuits.{IsTokenFree}
use Rattle.teg_check.specs.declared.refusal.CheckRefusal.{CheckRefusal}
use Rattle.teg_check.specs.declared.refusal.CheckRefusal.TheVariants.{TokenFree, OutOfMemory}

-- the circuit that is named has no tokens and begins at its lowest numbered transition; want of memory says nothing
abbrev pub IsRightCheckRefusal : NetLists → CheckRefusal → Type 0
IsRightCheckRefusal net (TokenFree circuit) = IsTokenFree net circuit.places.items
IsRightCheckRefusal net OutOfMemory = ⊤
