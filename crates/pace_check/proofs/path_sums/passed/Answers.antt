use Rattle.std.proofs.Common.{rules, ◌≡◌}
use mir.Val.{of_z, to_z}
use mir.Syntax.{w128}
use Rattle.teg_net.specs.Circuits.{from_of, place_at}
use Rattle.teg_net.specs.Parts.{IsMember, IsPlaceOfPart, to_of}
use Rattle.teg_net.proofs.Reading.{read_place}
use Rattle.pace_check.specs.PathSums.{IsPathSum}
use Rattle.pace_check.proofs.PathSums.{path_by_place}
use Rattle.pace_check.proofs.path_sums.passed.Goals as goal

pub returns-clause-sum : goal.returns-clause-sum
returns-clause-sum c =
    let part = c.args.part.now in
    let net = part.net.now in
    let p = c.args.place in
    let own = c.index-places-place.result in
    let item : own ≡ place_at net p = read_place net c.places.result.now p own c.places.ensures.value c.requires.place c.index-places-place.is in
    let ends = c.is_inside.ensures c.if-not-is_inside.false in
    let members : IsMember part.part_of.now part.number (from_of net p) × IsMember part.part_of.now part.number (to_of net p) = rw item at ends in
    let inside : IsPlaceOfPart net part.part_of.now part.number p = record { in_range = c.requires.place; from_member = members.0; to_member = members.1 } in
    let before : IsPathSum net part.part_of.now part.number part.ratio part.start (from_of net p) c.in_ok-before.before = rw item at c.in_ok-before.ensures in
    let same : to_z w128 (of_z w128 c.in_ok-before.before) ≡ c.in_ok-before.before = search rules in
    let same-2 : to_z w128 (of_z w128 c.in_ok-behind.behind) ≡ c.in_ok-behind.behind = search rules in
    rw (item, same-2) (path_by_place net part.part_of.now part.number part.ratio part.start p c.in_ok-before.before c.in_ok-behind.behind inside before (rw (item, same) at c.in_ok-behind.ensures))
