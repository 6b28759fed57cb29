-- How many further tokens of a place are enough for a target ratio (chapters 2 and 3).
use Rattle.std.specs.Prelude.{◌≡◌, List, Some, None}
use Rattle.teg_net.specs.declared.entries.PlaceId.{PlaceId}
use Rattle.teg_net.specs.Nets.{NetLists}
use Rattle.teg_net.specs.Ratios.{Fraction}
use Rattle.teg_net.specs.Circuits.{IsCircuit, IsTurned, BeginsLowest, time_of, tokens_of}
use Rattle.teg_certificates.specs.Sizes.{IsEnough, IsFewest, IsNeverEnough}
use Rattle.teg_sizing.specs.declared.sizing.Sizing.{Sizing}
use Rattle.teg_sizing.specs.declared.sizing.Sizing.TheVariants.{Enough, Impossible}

-- what is right to tell of the place
abbrev pub IsSizing : NetLists → Fraction → PlaceId → Sizing → Type 0
IsSizing net r p (Enough extra None) = (extra ≡ 0) × IsEnough net r p 0
IsSizing net r p (Enough extra (Some circuit)) = IsFewest net r p extra circuit.places.items
IsSizing net r p (Impossible circuit) = IsNeverEnough net r p circuit.places.items

-- the same circuit, told from its lowest numbered transition on
pub record IsTurnedLowest (net : NetLists) (ps own : List PlaceId) : Type 0 where
  pub turned : IsTurned ps own
  pub circuit : IsCircuit net own
  pub lowest : BeginsLowest net own
  pub tokens : tokens_of net own ≡ tokens_of net ps
  pub time : time_of net own ≡ time_of net ps
