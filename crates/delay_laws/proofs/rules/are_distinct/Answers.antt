use Rattle.std.proofs.Common.{◌≡◌, get_or, false, true, refl}
use Rattle.delay_laws.specs.declared.table.Delay.{Delay}
use Rattle.teg_net.proofs.Distinct.{rest_twice, apart_more, not_both}
use Rattle.delay_laws.proofs.DistinctDelays.{departure, no_delay, apart_keys, any_key, any_departure}
use Rattle.delay_laws.proofs.rules.are_distinct.Goals as goal

pub returns-then-any_of_departure : goal.returns-then-any_of_departure
returns-then-any_of_departure c =
    let read : Delay = get_or c.args.delays.now c.loop-index.index no_delay in
    let later = any_key _ read (c.any_of_departure.ensures.0 c.if-any_of_departure.true) in (
      λ (e : false ≡ true). cc,
      λ once. absurd (rest_twice departure c.args.delays.now c.loop-index.index no_delay (departure read) c.loop-index-test.true refl later (apart_keys c.args.delays.now once)),
    )

pub loop-index-preserved : goal.loop-index-preserved
loop-index-preserved c =
    let read : Delay = get_or c.args.delays.now c.loop-index.index no_delay in
    apart_more departure c.args.delays.now c.loop-index.index no_delay (departure read) c.loop-index-test.true refl
    (λ any. not_both c.any_of_departure.result c.if-any_of_departure.false (c.any_of_departure.ensures.1 (any_departure _ read any))) c.loop-index.invariant
