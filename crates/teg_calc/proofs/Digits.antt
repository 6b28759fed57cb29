-- Numbers of few digits.
use Rattle.std.proofs.Common.{arith, ℕ, ◌+◌, ◌*◌, ◌^◌, ◌<◌, ◌≤◌}
use Rattle.std.proofs.Math.Nat.{pow-le-pow_right}

-- one more digit behind fewer than 19 keeps below 10^19
pub one_more : (count value : ℕ) → count < 19 → value < 10 ^ count → value * 10 + 10 ≤ 10 ^ 19
one_more count value h k =
    let e : 10 ^ count ≤ 10 ^ 18 = pow-le-pow_right {n = 10} (omega arith) {i = count} {j = 18} (omega arith) in
    omega arith
