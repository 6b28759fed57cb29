use Rattle.teg_certificates.proofs.SlackShown.{rise_shown}
use Rattle.teg_certificates.proofs.laws.rise_potentials_tell.Goals as goal

pub returns : goal.returns
returns c = rise_shown
