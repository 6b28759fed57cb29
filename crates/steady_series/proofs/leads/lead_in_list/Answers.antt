use Rattle.std.proofs.Common.{◌≡◌, ◌/◌, ℕ, List, ap, arith, get_or, subst, sym, length, ◌∙◌, to_z, of_z}
use Rattle.std.specs.Int.{w128}
use Rattle.std.proofs.lemmas.Int.{to_z-of_z}
use Rattle.std.proofs.Math.Nat.{div-one}
use Rattle.dioid.specs.declared.dates.Date.{Date}
use Rattle.dioid.specs.declared.dates.Date.TheVariants.{Early}
use Rattle.series_laws.specs.Periodic.{times}
use Rattle.series_laws.specs.SeriesForms.{size_of}
use Rattle.series_laws.proofs.FormValues.{value_in}
use Rattle.steady_series.specs.Leads.{IsLeadTo}
use Rattle.steady_series.proofs.SteadyLefts.{lead_more}
use Rattle.steady_series.proofs.leads.lead_in_list.Goals as goal

pub loop-shift-init : goal.loop-shift-init
loop-shift-init c = λ i z l e. absurd (omega arith)

pub loop-shift-preserved : goal.loop-shift-preserved
loop-shift-preserved c =
    let f = c.args.first.now in
    let g = c.args.second.now in
    let shift = c.loop-shift.shift in
    let turns : shift / g.period ≡ shift = ap (λ (n : ℕ). shift / n) c.requires.single ∙ div-one shift in
    let long : length c.values-values.result.now ≡ size_of f = ap length c.values-values.ensures.value in
    let here = value_in f shift (omega (arith, long, c.loop-shift-test.true)) ∙ ap (λ (l : List Date). get_or l shift Early) (sym c.values-values.ensures.value) in
    let gained : to_z w128 (of_z w128 c.gain_over.result) ≡ c.gain_over.result = to_z-of_z w128 c.gain_over.result (record { sfits = c.gain_over.type_inv }) in
    lead_more f g.step shift c.loop-shift.lead _ _ c.lead_with-lead.result c.loop-shift.invariant here
    (gained ∙ c.gain_over.ensures.value ∙ ap (λ (n : ℕ). times n g.step) turns) c.lead_with-lead.ensures

pub returns : goal.returns
returns c =
    let f = c.args.first.now in
    let long : length c.values-values.result.now ≡ size_of f = ap length c.values-values.ensures.value in
    let whole : c.loop-shift.shift ≡ size_of f = omega arith in
    subst (λ (n : ℕ). IsLeadTo f c.args.second.now.step n c.loop-shift.lead) whole c.loop-shift.invariant
