use Rattle.std.proofs.Common.{arith}
use Rattle.number_laws.proofs.Fractions.{divisor_some}
use Rattle.teg_net.proofs.LowestTerms.{IsRatioOf-divided}
use Rattle.teg_net.proofs.ratios.Ratio.of.Goals as goal

pub nonzero_div-result : goal.nonzero_div-result
nonzero_div-result c = let p = divisor_some c.args.time c.args.tokens c.common_divisor-divisor.result c.requires c.common_divisor-divisor.ensures in omega arith

pub nonzero_div-result-2 : goal.nonzero_div-result-2
nonzero_div-result-2 c = let p = divisor_some c.args.time c.args.tokens c.common_divisor-divisor.result c.requires c.common_divisor-divisor.ensures in omega arith

pub returns-clause-ratio : goal.returns-clause-ratio
returns-clause-ratio c = IsRatioOf-divided c.args.time c.args.tokens c.common_divisor-divisor.result c.requires c.common_divisor-divisor.ensures

pub invariant_of-result : goal.invariant_of-result
invariant_of-result c = (IsRatioOf-divided c.args.time c.args.tokens c.common_divisor-divisor.result c.requires c.common_divisor-divisor.ensures).terms
