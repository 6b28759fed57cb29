use Rattle.std.proofs.Common.{◌≡◌, ◌+◌, ◌++◌, ◌∷◌, [], length, ap, ◌∙◌, arith, rules}
use Rattle.std.proofs.lemmas.Int.{to_z-of_z}
use Rattle.std.proofs.lemmas.List.{length_push}
use mir.Val.{SFits}
use mir.Syntax.{w128}
use Rattle.teg_sizing.specs.ValueRounds.{value_told}
use Rattle.teg_sizing.specs.EnoughPotentials.{IsPotentialOf}
use Rattle.teg_sizing.proofs.EnoughPotentials.{read_told, own_within, potentials_more}
use Rattle.teg_sizing.proofs.potentials.all_potentials.Goals as goal

pub loop-number-preserved : goal.loop-number-preserved
loop-number-preserved c =
    let apart = c.args.apart.now in
    let back = c.args.back.now in
    let t = c.loop-number.number in
    let old = c.loop-number.potentials.items in
    let own = c.unwrap-own.result in
    let z = c.greater.result in
    let over_is = to_z-of_z w128 c.args.over c.ranges.over in
    let own_is = read_told own (own_within apart t own c.loop-number-test.true c.requires.apart c.unwrap-own.ensures) in
    let z_fits : SFits w128 z = search rules in
    let z_is = to_z-of_z w128 z z_fits in
    let here : IsPotentialOf (value_told apart t) (value_told back t) c.args.over z = record { own = own; told = c.unwrap-own.ensures; potential = rw (own_is, over_is) at c.greater.ensures } in
    let new = rw z_is at c.in_ok-push.ensures.items in
    let count = c.loop-number.invariant.count in
    let long = length_push old z in
    rw over_is
    (record {
      count = ap (λ x. length x) new ∙ (let l : length (old ++ (z ∷ [])) ≡ t + 1 = omega arith in l);
      each = potentials_more apart back c.args.over old c.push.new.self.items t z count new (rw over_is at c.loop-number.invariant.each) here;
    })
