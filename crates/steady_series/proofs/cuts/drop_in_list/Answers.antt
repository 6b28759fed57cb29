use Rattle.std.proofs.Common.{rules, ◌≡◌, ◌/◌, ◌+◌, ℕ, List, ap, arith, get_or, subst, sym, length, ◌∙◌, to_z, of_z, ◌+ℤ◌}
use Rattle.std.specs.Int.{w128}
use Rattle.std.specs.Prelude.{ℤ}
use Rattle.std.proofs.lemmas.Int.{to_z-of_z}
use Rattle.std.proofs.Math.Nat.{div-one}
use Rattle.dioid.specs.declared.dates.Date.{Date}
use Rattle.dioid.specs.declared.dates.Date.TheVariants.{Early, At}
use Rattle.series_laws.specs.Periodic.{times}
use Rattle.series_laws.specs.SeriesForms.{size_of, value_at}
use Rattle.series_laws.proofs.FormValues.{value_in}
use Rattle.steady_series.specs.Cuts.{IsDropTo, IsUnder}
use Rattle.steady_series.proofs.CutLefts.{drop_on, low_on, top_on}
use Rattle.steady_series.proofs.cuts.drop_in_list.Goals as goal

pub loop-shift-preserved : goal.loop-shift-preserved
loop-shift-preserved c =
    let g = c.args.second.now in
    let step = g.step in
    let shift = c.loop-shift.shift in
    let turns : shift / g.period ≡ shift = ap (λ (n : ℕ). shift / n) c.requires.single ∙ div-one shift in
    let long : length c.values-values.result.now ≡ size_of g = ap length c.values-values.ensures.value in
    let listed = value_in g shift (omega (arith, long, c.loop-shift-test.true)) ∙ ap (λ (l : List Date). get_or l shift Early) (sym c.values-values.ensures.value) in
    let gained : to_z w128 (of_z w128 c.gain_over.result) ≡ c.gain_over.result = to_z-of_z w128 c.gain_over.result (record { sfits = c.gain_over.type_inv }) in
    let steps = gained ∙ c.gain_over.ensures.value ∙ ap (λ (n : ℕ). times n step) turns in
    let own : to_z w128 (of_z w128 c.in_ok-own.own) ≡ c.in_ok-own.own = search rules in
    let lead : to_z w128 (of_z w128 c.greater-lead.result) ≡ c.greater-lead.result = search rules in
    let drop : to_z w128 (of_z w128 c.in_ok-drop.drop) ≡ c.in_ok-drop.drop = search rules in
    let here : value_at g shift ≡ At (c.in_ok-own.own +ℤ times shift step) = listed ∙ c.in_ok-own.ensures ∙ ap (λ (z : ℤ). At (c.in_ok-own.own +ℤ z)) steps in
    let top : IsUnder g step 0 (shift + 1) c.greater-lead.result = top_on g step shift _ c.in_ok-own.own c.greater-lead.result c.loop-shift.invariant.top here (rw own at c.greater-lead.ensures) in
    record {
      top = rw lead top;
      low = rw drop (low_on _ _ c.in_ok-drop.drop c.loop-shift.invariant.low c.in_ok-drop.ensures);
      drops = rw drop (drop_on g step shift c.greater-lead.result c.in_ok-own.own _ c.in_ok-drop.drop top c.loop-shift.invariant.drops here (rw (own, lead) at c.in_ok-drop.ensures));
    }

pub returns : goal.returns
returns c =
    let g = c.args.second.now in
    let long : length c.values-values.result.now ≡ size_of g = ap length c.values-values.ensures.value in
    let whole : c.loop-shift.shift ≡ size_of g = omega arith in
    record { low = c.loop-shift.invariant.low; drops = subst (λ (n : ℕ). IsDropTo g g.step n (to_z w128 c.loop-shift.drop-bits)) whole c.loop-shift.invariant.drops }
