-- What a sizing says of a number of further tokens.
use Rattle.std.proofs.Common.{ℕ, ◌+◌, ◌*◌, ◌≤◌, ◌≡◌, arith}
use Rattle.std.specs.Prelude.{Option, Some, None}
use Rattle.std.proofs.Math.Nat.{mul-le-mul_left}
use Rattle.teg_net.specs.declared.circuits.Circuit.{Circuit}
use Rattle.teg_net.specs.declared.entries.PlaceId.{PlaceId}
use Rattle.teg_net.specs.Circuits.{tokens_of}
use Rattle.teg_net.specs.Nets.{NetLists}
use Rattle.teg_net.specs.Ratios.{Fraction}
use Rattle.teg_certificates.specs.Sizes.{IsEnough}
use Rattle.teg_sizing.specs.declared.sizing.Sizing.TheVariants.{Enough}
use Rattle.teg_sizing.specs.Sizings.{IsSizing}

-- where so many are enough, more are
pub enough_more : (net : NetLists) (r : Fraction) (p : PlaceId) (d e : ℕ) → d ≤ e → IsEnough net r p d → IsEnough net r p e
enough_more net r p d e l h = record {
  passing = λ ps c k.
      let more : tokens_of net ps + d ≤ tokens_of net ps + e = omega (arith, l) in
      let wider : r.time * (tokens_of net ps + d) ≤ r.time * (tokens_of net ps + e) = mul-le-mul_left r.time more in
      let low = h.passing ps c k in
      omega (arith, low, wider);
  others = h.others;
}

-- the told number and those above it are enough, and no other
pub enough_from : (net : NetLists) (r : Fraction) (p : PlaceId) (least extra : ℕ) (circuit : Option Circuit) → IsSizing net r p (Enough least circuit) → least ≤ extra → IsEnough net r p extra
enough_from net r p least extra None h l = enough_more net r p 0 extra (omega arith) h.1
enough_from net r p least extra (Some circuit) h l = enough_more net r p least extra l h.enough

pub least_enough : (net : NetLists) (r : Fraction) (p : PlaceId) (least extra : ℕ) (circuit : Option Circuit) → IsSizing net r p (Enough least circuit) → IsEnough net r p extra → least ≤ extra
least_enough net r p least extra None h e = let none : least ≡ 0 = h.0 in omega (arith, none)
least_enough net r p least extra (Some circuit) h e = h.least extra e
