use Rattle.std.proofs.Common.{refl}
use Rattle.std.proofs.lemmas.Bool.{iff_false}
use Rattle.teg_certificates.proofs.potentials.is_told_member.Goals as goal

pub returns-then-not-is_member : goal.returns-then-not-is_member
returns-then-not-is_member c = (λ t m. absurd (iff_false c.is_member.ensures c.if-not-is_member.true m), λ h. refl)

pub returns : goal.returns
returns c = (λ t m. c.is_told.ensures.0 t, λ h. c.is_told.ensures.1 (h (c.is_member.ensures.0 c.if-not-is_member.false)))
