use Rattle.std.proofs.Common.{◌≡◌, true, false, refl, arith, below_more}
use Rattle.std.proofs.lemmas.Bool.{false≢true, iff_false}
use Rattle.teg_certificates.proofs.potentials.all_members.Goals as goal

pub loop-transition-preserved : goal.loop-transition-preserved
loop-transition-preserved c =
    below_more _ _ c.loop-transition.invariant
    (c.is_told_member.ensures.0 c.if-not-is_told_member.false)

pub returns-then-not-is_told_member : goal.returns-then-not-is_told_member
returns-then-not-is_told_member c = (
  λ (e : false ≡ true). absurd (false≢true e),
  λ h. absurd (iff_false c.is_told_member.ensures c.if-not-is_told_member.true (h c.loop-transition.transition)),
)

pub returns : goal.returns
returns c = (λ e t m. let l = m.in_range in c.loop-transition.invariant t (omega arith) m, λ h. refl)
