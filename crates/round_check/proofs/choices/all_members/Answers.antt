use Rattle.std.proofs.Common.{◌≡◌, true, false, refl, arith, below_more}
use Rattle.std.proofs.lemmas.Bool.{false≢true, iff_false}
use Rattle.round_check.proofs.choices.all_members.Goals as goal

pub loop-transition-preserved : goal.loop-transition-preserved
loop-transition-preserved c =
    below_more _ _ c.loop-transition.invariant
    (c.has_choice.ensures.0 c.if-not-has_choice.false)

pub returns-then-not-has_choice : goal.returns-then-not-has_choice
returns-then-not-has_choice c = (
  λ (e : false ≡ true). absurd (false≢true e),
  λ h. absurd (iff_false c.has_choice.ensures c.if-not-has_choice.true (h c.loop-transition.transition)),
)

pub returns : goal.returns
returns c = (λ e t m. let l = m.in_range in c.loop-transition.invariant t (omega arith) m, λ h. refl)
