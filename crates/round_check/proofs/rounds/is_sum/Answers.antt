use Rattle.std.proofs.Common.{◌≡◌, true, false, sym, subst, ◌∙◌}
use Rattle.std.specs.Prelude.{◌+ℤ◌}
use Rattle.std.proofs.lemmas.Int.{to_z-of_z}
use mir.Val.{SFits, to_z, of_z}
use mir.Syntax.{w128}
use Rattle.std.proofs.lemmas.Bool.{false≢true}
use Rattle.round_check.proofs.rounds.is_sum.Goals as goal

pub returns-in-Some : goal.returns-in-Some
returns-in-Some c =
    let a = to_z-of_z w128 c.args.step c.ranges.step in
    let b = to_z-of_z w128 c.args.before c.ranges.before in
    let v = to_z-of_z w128 c.args.value c.ranges.value in
    let h = c.in-Some.ensures in
    let s = c.is_same.ensures in
    let sum_is : c.in-Some.sum ≡ (c.args.step +ℤ c.args.before) = rw (a, b) at h.1 in
    let fits : SFits w128 c.in-Some.sum = rw sum_is (rw (a, b) at h.0) in
    let w : to_z w128 (of_z w128 c.in-Some.sum) ≡ c.in-Some.sum = to_z-of_z w128 c.in-Some.sum fits in
    (λ yes. sym v ∙ (s.0 yes ∙ (w ∙ sum_is)), λ e. s.1 (v ∙ (e ∙ (sym sum_is ∙ sym w))))

pub returns-in-None : goal.returns-in-None
returns-in-None c =
    let a = to_z-of_z w128 c.args.step c.ranges.step in
    let b = to_z-of_z w128 c.args.before c.ranges.before in
    let h = c.in-None.ensures in (
      λ (e : false ≡ true). absurd (false≢true e),
      λ e. absurd (h (rw (a, b) (subst (SFits w128) e c.ranges.value))),
    )
