use Rattle.std.proofs.Common.{rules, ◌≡◌}
use Rattle.teg_net.specs.Circuits.{place_at, from_of, no_place}
use Rattle.teg_net.proofs.Reading.{read_place}
use Rattle.teg_model.specs.LiveRanks.{HasEndsInRange}
use Rattle.delay_check.proofs.Passing.{place_left}
use Rattle.delay_check.proofs.left.passed.Goals as goal

pub returns-clause-late : goal.returns-clause-late
returns-clause-late c =
    let net = c.args.net.now in
    let table = c.args.table.now in
    let p = c.args.place in
    let own = c.index-places-place.result in
    let ends : HasEndsInRange net = search rules in
    let item : own ≡ place_at net p = read_place net c.places.result.now p own c.places.ensures.value c.requires.place c.index-places-place.is in
    let from_in = (c.rules.ensures.each_place p.index no_place c.requires.place).from_in in
    let start = c.requires.left.each (from_of net p) from_in in
    let rest = rw item at c.in_ok-rest.ensures in
    rw item (place_left net ends c.args.period table p _ c.in_ok-rest.rest c.requires.place start rest)
