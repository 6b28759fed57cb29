-- What every refusal that a file gets meets.
use Rattle.std.specs.Prelude.{◌≡◌, ℕ, false, List, Err, ⊤}
use Rattle.teg_reader.specs.declared.refusals.Section.TheVariants.{Top}
use Rattle.teg_reader.specs.declared.refusals.Spot.{Spot}
use Rattle.teg_reader.specs.declared.refusals.ReadRefusal.{ReadRefusal}
use Rattle.teg_reader.specs.declared.refusals.ReadRefusal.TheVariants.{UnknownKey, WrongKind, MissingKey, BadName, Repeated, OutOfRange, UnknownTransition}
use Rattle.teg_reader.specs.PassWalks.{is_memory}
use Rattle.teg_reader.specs.Documents.{document}

-- at the top of the file the position is 0
abbrev pub IsPlainSpot : Spot → Type 0
IsPlainSpot spot = spot.section ≡ Top → spot.position ≡ 0

-- the spot that the refusal tells, if it tells one, has position 0 at the top of the file
abbrev pub HasPlainSpot : ReadRefusal → Type 0
HasPlainSpot (UnknownKey spot key) = IsPlainSpot spot
HasPlainSpot (WrongKind spot key) = IsPlainSpot spot
HasPlainSpot (MissingKey spot key) = IsPlainSpot spot
HasPlainSpot (BadName spot) = IsPlainSpot spot
HasPlainSpot (Repeated spot) = IsPlainSpot spot
HasPlainSpot (OutOfRange spot key) = IsPlainSpot spot
HasPlainSpot (UnknownTransition spot name) = IsPlainSpot spot
HasPlainSpot _ = ⊤

-- a refusal by the bytes alone: it has a plain spot, and is no want of memory
pub record IsPlainRefusal (refusal : ReadRefusal) : Type 0 where
  pub spot : HasPlainSpot refusal
  pub no_memory : is_memory refusal ≡ false

-- whatever the bytes, why they say no net is such a refusal
abbrev pub RefusalsArePlain : Type 0
RefusalsArePlain = (bytes : List ℕ) (refusal : ReadRefusal) → document bytes ≡ Err refusal → IsPlainRefusal refusal
