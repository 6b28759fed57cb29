use Rattle.std.proofs.Common.{arith}
use Rattle.std.proofs.Math.Nat.{one-dvd}
use Rattle.own_periods.proofs.Multiples.{common_more}
use Rattle.own_periods.proofs.numbers.whole_period.Goals as goal

pub loop-own-init : goal.loop-own-init
loop-own-init c = record {
  at_least_one = omega arith;
  common = λ t l. absurd (omega (arith, l));
  least = λ m all. one-dvd m;
}

pub loop-own-preserved : goal.loop-own-preserved
loop-own-preserved c =
    common_more c.args.of.now.owns.now c.loop-own.own-index c.loop-own.whole c.in_ok-whole.whole c.loop-own.invariant c.in_ok-whole.ensures
