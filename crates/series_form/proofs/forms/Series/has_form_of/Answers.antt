use Rattle.std.proofs.Common.{◌≡◌, ◌∙◌, ap, sym, ℤ, List, to_z}
use Rattle.std.specs.Int.{w128}
use Rattle.std.proofs.lemmas.Int.{to_z-of_z}
use Rattle.dioid.specs.declared.dates.Date.{Date}
use Rattle.series_laws.specs.SeriesForms.{Form, form_with}
use Rattle.series_form.proofs.DateNumbers.{small_fits}
use Rattle.series_form.proofs.forms.Series.has_form_of.Goals as goal

pub returns-clause-same : goal.returns-clause-same
returns-clause-same c =
    let first : form_with c.self.inside.values.items c.self.inside.period c.self.inside.step ≡ c.args.self.now = c.self.view_is in
    let second : form_with c.other.inside.values.items c.other.inside.period c.other.inside.step ≡ c.args.other.now = c.other.view_is in
    let period : c.self.inside.period ≡ c.other.inside.period = c.if-self-other.false in
    let step : c.self.inside.step ≡ c.other.inside.step =
    sym (to_z-of_z w128 c.self.inside.step (small_fits c.self.inside.step c.self.invariant.small.step)) ∙ ap (to_z w128) c.if-self-other-2.false
    ∙ to_z-of_z w128 c.other.inside.step (small_fits c.other.inside.step c.other.invariant.small.step) in (
      λ t. let items : c.self.inside.values.items ≡ c.other.inside.values.items = sym c.as_slice.ensures.value ∙ c.same_values.ensures.0 t ∙ c.as_slice-2.ensures.value in
          sym first
          ∙ ap (λ (z : List Date). form_with z c.self.inside.period c.self.inside.step) items
          ∙ ap (λ (z : ℤ). form_with c.other.inside.values.items c.self.inside.period z) step
          ∙ ap (λ z. form_with c.other.inside.values.items z c.other.inside.step) period ∙ second,
      λ e. c.same_values.ensures.1 (c.as_slice.ensures.value ∙ ap (λ (z : Form). z.values) (first ∙ e ∙ sym second) ∙ sym c.as_slice-2.ensures.value),
    )
