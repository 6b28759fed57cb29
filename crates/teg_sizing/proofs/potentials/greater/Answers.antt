use Rattle.std.proofs.Common.{subst, rules}
use Rattle.std.specs.Prelude.{IfSome}
use Rattle.std.proofs.lemmas.Int.{to_z-of_z}
use mir.Val.{SFits}
use mir.Syntax.{w128}
use Rattle.teg_net.specs.ReducedTimes.{IsMagnitudeWithin}
use Rattle.teg_sizing.specs.EnoughPotentials.{greatest_told}
use Rattle.teg_sizing.proofs.EnoughPotentials.{read_told, greater_is}
use Rattle.teg_sizing.proofs.potentials.greater.Goals as goal

pub returns-in-Some : goal.returns-in-Some
returns-in-Some c =
    let apart = to_z-of_z w128 c.args.apart c.ranges.apart in
    let over = to_z-of_z w128 c.args.over c.ranges.over in
    let back = read_told c.in-Some.back (subst (λ o. IfSome o (IsMagnitudeWithin greatest_told)) c.in-Some.is c.requires.back) in
    let sum_fits : SFits w128 c.sum.result = search rules in
    let sum = to_z-of_z w128 c.sum.result sum_fits in
    let larger_fits : SFits w128 c.larger.result = search rules in
    let larger = to_z-of_z w128 c.larger.result larger_fits in
    rw larger
    (greater_is c.args.apart c.args.back c.in-Some.back c.args.over c.sum.result c.larger.result c.in-Some.is
    (rw (back, over) at c.sum.ensures) (rw apart at c.larger.ensures.first) (rw sum at c.larger.ensures.second) (rw (apart, sum) at c.larger.ensures.is))
