use Rattle.std.proofs.Common.{rules}
use Rattle.teg_certificates.specs.Sizes.{IsAlwaysAbove}
use Rattle.teg_certificates.proofs.FurtherTokens.{always_above}
use Rattle.pace_check.proofs.sizes.shown_impossible.Goals as goal

pub returns : goal.returns
returns c =
    let net = c.args.net.now in
    let circuit = c.args.circuit.now.places.items in
    let above : IsAlwaysAbove net c.args.target c.args.place circuit = search rules in
    (c.requires.asked, (circuit, (above, c.in_ok-tells_impossible.ensures.0 (search rules))), always_above net c.args.target c.args.place circuit above)
