use Rattle.round_check.proofs.RoundsFit.{fits_is_round, round_fits}
use Rattle.round_check.proofs.rounds.check_round.Goals as goal

pub returns : goal.returns
returns c =
    let net = c.args.net.now in
    let round = c.args.round.now in
    let fits = rw (c.deref.ensures.value, c.deref-2.ensures.value) at c.fits_round.ensures.fits in (
      λ yes. fits_is_round net c.args.parts.now c.args.part round (c.fits_round.ensures.terms yes) (fits.0 yes),
      λ h. fits.1 (round_fits net c.args.parts.now c.args.part round h),
    )
