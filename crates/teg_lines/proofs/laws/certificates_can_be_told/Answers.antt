use Rattle.teg_lines.proofs.Certified.{certificate_told}
use Rattle.teg_lines.proofs.laws.certificates_can_be_told.Goals as goal

pub returns : goal.returns
returns c = certificate_told
