use Rattle.std.proofs.Common.{◌≡◌, ap, ◌∙◌, sym, subst, ℤ, List, FitsSigned, to_z, of_z}
use Rattle.std.specs.Int.{w128}
use Rattle.std.proofs.lemmas.Int.{to_z-of_z}
use Rattle.dioid.specs.declared.dates.Date.{Date}
use Rattle.series_laws.specs.SeriesForms.{Form, form_with, value_at}
use Rattle.series_laws.specs.Periodic.{Rising}
use Rattle.series_form.specs.SeriesAnswers.{form_before, IsShortestSeries}
use Rattle.series_form.proofs.forms.shortest.Goals as goal

pub finish-requires : goal.finish-requires
finish-requires c =
    let same : to_z w128 (of_z w128 c.step_before-step.result) ≡ c.step_before-step.result = to_z-of_z w128 c.step_before-step.result (record { sfits = c.step_before-step.type_inv }) in
    let e : form_with c.args.values.items c.args.turn (to_z w128 (of_z w128 c.step_before-step.result)) ≡ form_before c.args.values.items c.args.turn c.args.next =
    ap (form_with c.args.values.items c.args.turn) same
    ∙ subst (λ (z : List Date). form_with z c.args.turn c.step_before-step.result ≡ form_before z c.args.turn c.args.next) c.as_slice.ensures.value c.step_before-step.ensures in
    record {
      positive = c.requires.positive;
      fits = c.requires.fits;
      short = c.requires.short;
      step_fits = subst (λ (z : ℤ). FitsSigned w128 z) (sym same) (record { sfits = c.step_before-step.type_inv });
      rising = subst (λ (z : Form). Rising (value_at z)) (sym e) c.requires.rising;
    }

pub returns : goal.returns
returns c =
    let e : form_with c.args.values.items c.args.turn (to_z w128 (of_z w128 c.step_before-step.result)) ≡ form_before c.args.values.items c.args.turn c.args.next =
    ap (form_with c.args.values.items c.args.turn) (to_z-of_z w128 c.step_before-step.result (record { sfits = c.step_before-step.type_inv }))
    ∙ subst (λ (z : List Date). form_with z c.args.turn c.step_before-step.result ≡ form_before z c.args.turn c.args.next) c.as_slice.ensures.value c.step_before-step.ensures in
    subst (λ (z : Form). IsShortestSeries (value_at z) c.finish.result) e c.finish.ensures
