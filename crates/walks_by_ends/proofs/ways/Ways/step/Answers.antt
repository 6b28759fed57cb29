use Rattle.std.proofs.Common.{ℕ, ℤ, ◌+◌, ◌<◌, ◌≤◌, ◌≡◌, pos, refl, rules, arith, ⊎_elim, sym, subst, to_z, of_z}
use Rattle.std.specs.Int.{w128}
use Rattle.std.specs.Prelude.{◌≤ℤ◌}
use Rattle.std.proofs.lemmas.Bool.{cases_lt}
use Rattle.std.proofs.lemmas.Int.{ints, to_z-of_z}
use mir.Val.{SFits}
use Rattle.teg_net.specs.Nets.{IsInput}
use Rattle.teg_settle.specs.settled_laws.SettledForms.{step_of_form}
use Rattle.walks_by_ends.specs.EndForms.{end_form}
use Rattle.walks_by_ends.specs.LatestTimes.{InputWays, way_at}
use Rattle.walks_by_ends.proofs.ways.Ways.step.Goals as goal

pub returns-then-is_input : goal.returns-then-is_input
returns-then-is_input c = record {
  still = λ h. refl;
  most = λ outside i l. absurd (outside (subst (λ (w : InputWays). IsInput w.net c.args.transition.index) c.self.view_is (c.if-is_input.ensures.input)));
}

pub loop-index-preserved : goal.loop-index-preserved
loop-index-preserved c i l =
    let w = c.args.self.now in
    let t = c.args.transition.index in
    let fits : SFits w128 c.max-most.result = search rules in
    let known : to_z w128 (of_z w128 c.max-most.result) ≡ c.max-most.result = to_z-of_z w128 c.max-most.result fits in
    ⊎_elim
    (λ (h : i < c.loop-index.index).
    let same : to_z w128 c.loop-index.most-bits ≡ c.loop-index.most = search (rules, to_z-of_z) in
    let low : step_of_form (end_form w.ends (way_at w i).to.index) t ≤ℤ c.loop-index.most = rw same at (c.loop-index.invariant i h) in
    let up : c.loop-index.most ≤ℤ c.max-most.result = search (rules, ints) in
    omega (arith, ints, known, low, up))
    (λ (h : c.loop-index.index ≤ i).
    let is : i ≡ c.loop-index.index = omega (arith, l, h) in
    let here : step_of_form (end_form w.ends (way_at w c.loop-index.index).to.index) t ≤ℤ c.max-most.result = search (rules, ints) in
    subst (λ (j : ℕ). step_of_form (end_form w.ends (way_at w j).to.index) t ≤ℤ to_z w128 (of_z w128 c.max-most.result)) (sym is) (omega (arith, ints, known, here)))
    (cases_lt i c.loop-index.index)
