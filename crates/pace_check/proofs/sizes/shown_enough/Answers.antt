use Rattle.std.proofs.Common.{rules}
use Rattle.teg_certificates.specs.Sizes.{IsEnough}
use Rattle.pace_check.specs.ShownSizes.{TellsEnoughBy}
use Rattle.pace_check.proofs.SizeTexts.{tells_fewest}
use Rattle.pace_check.proofs.sizes.shown_enough.Goals as goal

pub returns : goal.returns
returns c =
    let net = c.args.net.now in
    let sizing = c.args.sizing in
    let circuit = c.args.circuit.now.places.items in
    let tells : TellsEnoughBy net c.args.text.now sizing.place sizing.target sizing.extra circuit = c.in_ok-tells_fewest.ensures.0 (search rules) in
    let enough : IsEnough net sizing.target sizing.place sizing.extra = c.in_ok-is_enough.ensures.0 (search rules) in
    (c.requires.asked, (circuit, tells), enough, tells_fewest net c.args.text.now sizing.place sizing.target sizing.extra circuit tells)
