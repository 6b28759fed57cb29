use Rattle.growth_laws.proofs.CertifiedLines.{draw_lines}
use Rattle.growth_laws.proofs.laws.certificates_draw_lines.Goals as goal

pub returns : goal.returns
returns c = draw_lines
