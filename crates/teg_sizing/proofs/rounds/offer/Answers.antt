use Rattle.std.proofs.Common.{◌≡◌, Some, refl, rules}
use Rattle.teg_net.specs.ReducedTimes.{reduced_time_of_place}
use Rattle.teg_sizing.specs.ValueRounds.{value_told}
use Rattle.teg_sizing.proofs.Values.{weight_within, sum_fits, sum_is}
use Rattle.teg_sizing.proofs.rounds.offer.Goals as goal

pub overflow_add-result : goal.overflow_add-result
overflow_add-result c =
    let told : value_told c.args.before.now c.args.place.now.from.index ≡ Some c.in_ok-value.value = search rules in
    let w = weight_within c.args.target c.args.place.now c.requires.target c.requires.place.0 c.requires.place.1 in
    let v = c.requires.small c.args.place.now.from.index c.in_ok-value.value told in
    rw c.weight.ensures (sum_fits c.in_ok-value.value (reduced_time_of_place c.args.target c.args.place.now) v.0 v.1 w.0 w.1)

pub returns-clause-some : goal.returns-clause-some
returns-clause-some c =
    let told : value_told c.args.before.now c.args.place.now.from.index ≡ Some c.in_ok-value.value = search rules in
    let w = weight_within c.args.target c.args.place.now c.requires.target c.requires.place.0 c.requires.place.1 in
    let v = c.requires.small c.args.place.now.from.index c.in_ok-value.value told in
    let is = sum_is c.in_ok-value.value (reduced_time_of_place c.args.target c.args.place.now) v.0 v.1 w.0 w.1 in
    rw (c.weight.ensures, is) (record { other = c.if-id-except.false; start = c.in_ok-value.value; told = told; is = refl })
