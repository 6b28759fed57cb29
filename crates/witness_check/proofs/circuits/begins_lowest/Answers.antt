use Rattle.std.proofs.Common.{◌<◌, ap, arith, length, ◌∙◌}
use Rattle.std.proofs.lemmas.List.{get_or_default}
use Rattle.teg_net.specs.Circuits.{from_of}
use Rattle.witness_check.proofs.Lowest.{begins_lowest}
use Rattle.witness_check.proofs.circuits.begins_lowest.Goals as goal

pub returns : goal.returns
returns c = λ sure.
    let net = c.args.net.now in
    let places = c.args.places.now in
    let some : 0 < length places = omega (arith, c.if-places-eq0.false) in
    begins_lowest net places c.from_of.result (λ q. c.from_of.ensures ∙ ap (from_of net) (get_or_default places 0 (record { index = 0 }) q some)) (c.are_from.ensures sure)
