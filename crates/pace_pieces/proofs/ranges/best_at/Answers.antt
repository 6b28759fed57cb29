use Rattle.std.proofs.Common.{refl, Some}
use Rattle.teg_net.specs.Changes.{with_hold}
use Rattle.teg_net.specs.GreatestRatios.{HasNoCircuit, IsAnyPlace}
use Rattle.teg_net.specs.Nets.{NetLists}
use Rattle.pace_calls.specs.Paces.{IsPaceWithCircuit}
use Rattle.pace_pieces.specs.Pieces.{IsLineOf}
use Rattle.pace_pieces.proofs.LineLaws.{best_found}
use Rattle.pace_pieces.proofs.ranges.best_at.Goals as goal

pub returns-in_default : goal.returns-in_default
returns-in_default c =
    let there : NetLists = with_hold c.args.held.now c.args.place c.args.hold in
    let own = c.in_ok-found.ensures in
    let none : HasNoCircuit there IsAnyPlace = rw c.in_default.is at own in
    λ ps circuit all. none ps ((c.holds_keep_circuits.ensures c.args.held.now c.args.place c.args.hold ps).0.1 circuit) all

pub returns : goal.returns
returns c =
    let there : NetLists = with_hold c.args.held.now c.args.place c.args.hold in
    let own = c.in_ok-found.ensures in
    let found : IsPaceWithCircuit there (Some c.in-Some.found) = rw c.in-Some.is at own in
    let line = c.line_of-line.ensures.line in
    let is : IsLineOf c.args.held.now c.args.place c.line_of-line.result = rw c.net.ensures.net at line in
    (refl, best_found c.args.held.now c.args.place c.args.hold c.line_of-line.result c.in-Some.found is c.line_of-line.ensures.circuit found)
