use Rattle.std.proofs.Common.{◌≡◌, ◌≤◌, ◌∙◌, [], sym, ap, subst, arith, length, to_z, of_z}
use Rattle.std.specs.Int.{w128}
use Rattle.std.proofs.lemmas.Int.{to_z-of_z}
use Rattle.forever_laws.specs.series_laws.SeriesForms.{Form, form_with}
use Rattle.forever_laws.specs.settled_laws.SettledForms.{row_of, settled_length}
use Rattle.teg_forever.specs.Alike.{told_form}
use Rattle.teg_forever.specs.LatestReleases.{longest_form}
use Rattle.teg_forever.specs.SteadyRows.{HasForm, IsToldLeft, IsWalkList, IsWalkTo}
use Rattle.teg_forever.proofs.SteadyLeads.{told_each, told_is, walk_has_form}
use Rattle.teg_forever.proofs.steady.walk_residual.Goals as goal

pub new-list-requires : goal.new-list-requires
new-list-requires c =
    let a = c.args.asked.now in
    let h = c.settled-settled.ensures.asked in
    let f = a.settled in
    let t = c.args.transition.index in
    let law = c.forms_are_series.ensures.walks a.net a.input.index f h.transfer t c.requires in
    let sizes = h.transfer.2.stands.sizes in
    let rows = sizes.rows_are in
    let long : length (row_of f t) ≡ settled_length f = sizes.full t [] (omega (arith, c.requires)) in
    let few : settled_length f ≤ longest_form = h.short in
    let s = c.settled-settled.result.now in
    let is : form_with c.as_slice.result.now c.period.result (to_z w128 (of_z w128 c.step-step.result)) ≡ told_form s t =
    told_is s t c.as_slice.result.now c.period.result (to_z w128 (of_z w128 c.step-step.result)) (c.as_slice.ensures.value ∙ c.in-Ok.ensures.row) c.period.ensures
    (to_z-of_z w128 c.step-step.result (record { sfits = c.step-step.type_inv }) ∙ c.step-step.ensures.value) in
    let list : IsWalkList (told_form f t) = record { some = law.some; fits = law.fits; few = omega (arith, long, few); rising = law.rising } in
    subst IsWalkList (sym (is ∙ ap (λ z. told_form z t) c.settled-settled.ensures.value)) list

pub returns : goal.returns
returns c =
    let a = c.args.asked.now in
    let h = c.settled-settled.ensures.asked in
    let f = a.settled in
    let t = c.args.transition.index in
    let law = c.forms_are_series.ensures.walks a.net a.input.index f h.transfer t c.requires in
    let s = c.settled-settled.result.now in
    let is : form_with c.as_slice.result.now c.period.result (to_z w128 (of_z w128 c.step-step.result)) ≡ told_form s t =
    told_is s t c.as_slice.result.now c.period.result (to_z w128 (of_z w128 c.step-step.result)) (c.as_slice.ensures.value ∙ c.in-Ok.ensures.row) c.period.ensures
    (to_z-of_z w128 c.step-step.result (record { sfits = c.step-step.type_inv }) ∙ c.step-step.ensures.value) in
    let told : IsToldLeft (HasForm (told_form f t)) c.args.due.now c.left_by_lead.result =
    subst (λ (z : Form). IsToldLeft (HasForm z) c.args.due.now c.left_by_lead.result) (c.new-list.ensures ∙ is ∙ ap (λ z. told_form z t) c.settled-settled.ensures.value) c.left_by_lead.ensures in
    told_each (HasForm (told_form f t)) (IsWalkTo a.net a.input.index t) c.args.due.now c.left_by_lead.result
    (walk_has_form a.net a.input.index t (told_form f t) law.each (c.series_fit.ensures.walks a.net h.rules h.is_live a.input.index h.input f h.transfer h.short t c.requires)) told
