-- Numbers of 128 bits, written and read back.
use Rattle.std.proofs.Common.{◌≡◌, arith, ℤ, ◌^◌, ◌<◌, to_z, of_z}
use Rattle.std.specs.Int.{w128}
use Rattle.std.specs.Int.RustNames.{unsigned_abs}
use Rattle.std.proofs.lemmas.Int.{to_z-of_z, fits_signed_from_abs}

-- a number below 10^19
pub same_number : (z : ℤ) → unsigned_abs z < 10 ^ 19 → to_z w128 (of_z w128 z) ≡ z
same_number z h = to_z-of_z w128 z (fits_signed_from_abs w128 z (omega arith))
