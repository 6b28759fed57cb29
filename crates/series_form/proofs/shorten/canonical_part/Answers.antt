use Rattle.std.proofs.Common.{◌≡◌, ap, ◌∙◌, sym, subst, ◌-◌, ℕ, ℤ, List, length, FitsSigned, to_z, of_z}
use Rattle.std.specs.Int.{w128}
use Rattle.std.proofs.lemmas.Int.{to_z-of_z}
use Rattle.dioid.specs.declared.dates.Date.{Date}
use Rattle.series_laws.specs.SeriesForms.{Form, form_with, value_at, HasValues, IsCanonical}
use Rattle.series_laws.specs.Periodic.{Rising, Repeats}
use Rattle.series_form.specs.SeriesAnswers.{form_before}
use Rattle.series_form.specs.Shapes.{IsPart}
use Rattle.series_laws.proofs.FormValues.{value_repeats}
use Rattle.series_laws.proofs.Canonical.{canonical_is, canonical_values}
use Rattle.series_form.proofs.shorten.canonical_part.Goals as goal

pub new-requires : goal.new-requires
new-requires c =
    let e : to_z w128 (of_z w128 c.step_before-step.result) ≡ c.step_before-step.result = to_z-of_z w128 c.step_before-step.result (record { sfits = c.step_before-step.type_inv }) in
    record {
      positive = c.requires.positive;
      fits = c.requires.fits;
      short = c.requires.short;
      step_fits = subst (λ (z : ℤ). FitsSigned w128 z) (sym e) (record { sfits = c.step_before-step.type_inv });
      rising = subst (λ (z : Form). Rising (value_at z)) (sym (ap (form_with c.args.values.now c.args.turn) e ∙ c.step_before-step.ensures)) c.requires.rising;
    }

pub returns : goal.returns
returns c =
    let l : List Date = c.args.values.now in
    let n : ℕ = c.args.turn in
    let f : Form = form_before l n c.args.next in
    let e : form_with l n (to_z w128 (of_z w128 c.step_before-step.result)) ≡ f =
    ap (form_with l n) (to_z-of_z w128 c.step_before-step.result (record { sfits = c.step_before-step.type_inv })) ∙ c.step_before-step.ensures in
    let h : IsPart l n f.step c.shape.result = subst (λ (z : Form). IsPart z.values z.period z.step c.shape.result) (c.new.ensures ∙ e) c.shape.ensures in
    let a : Repeats (value_at f) (length l - n) n _ = value_repeats f c.requires.positive c.requires.fits in
    record {
      fits = h.fits;
      canonical = subst (λ (z : Form). IsCanonical z) h.form (canonical_is (value_at f) (length l - n) n _ c.requires.rising c.requires.positive a);
      values = subst (λ (z : Form). HasValues z (value_at f)) h.form (canonical_values (value_at f) (length l - n) n _ c.requires.rising c.requires.positive a);
      step_fits = h.step_fits;
    }
