-- What a place counts stays within its bound, and sums of it within as many times that.
use Rattle.std.proofs.Common.{ℕ, ◌+◌, ◌*◌, ◌<◌, length, arith}
use Rattle.std.specs.Prelude.{ℤ, ◌+ℤ◌}
use Rattle.std.proofs.lemmas.Int.{ints}
use Rattle.std.proofs.lemmas.Nat.{mul-le}
use Rattle.teg_net.specs.declared.entries.PlaceId.{PlaceId}
use Rattle.teg_net.specs.Nets.{NetLists, IsNet, IsPlaceOf}
use Rattle.teg_net.specs.Circuits.{place_at, no_place}
use Rattle.teg_net.specs.Ratios.{Fraction}
use Rattle.teg_net.specs.ReducedTimes.{reduced_time, IsMagnitudeWithin}
use Rattle.teg_net.specs.Limits.{greatest_circuit_time, greatest_hold, most_circuit_tokens}
use Rattle.policy_rounds.specs.PolicyLists.{IsCircuitRatio, step_bound}

pub count_small : (net : NetLists) (r : Fraction) (p : PlaceId) → IsNet net → IsCircuitRatio r → p.index < length net.places → IsMagnitudeWithin step_bound (reduced_time net r.time r.tokens p)
count_small net r p kept small l =
    let is : IsPlaceOf net (place_at net p) = kept.each_place p.index no_place l in
    let up = mul-le r.tokens (place_at net p).hold most_circuit_tokens greatest_hold small.tokens_in is.hold_in in
    let down = mul-le r.time (place_at net p).tokens greatest_circuit_time 1000 small.time_in is.tokens_in in
    record { low = omega (arith, ints, up, down); high = omega (arith, ints, up, down) }

pub within_sum : (k : ℕ) (x y : ℤ) → IsMagnitudeWithin step_bound x → IsMagnitudeWithin (k * step_bound) y → IsMagnitudeWithin ((k + 1) * step_bound) (x +ℤ y)
within_sum k x y h g =
    let a = h.low in
    let b = h.high in
    let c = g.low in
    let d = g.high in
    record { low = omega (arith, ints); high = omega (arith, ints) }
