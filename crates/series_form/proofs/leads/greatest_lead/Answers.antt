use Rattle.std.proofs.Common.{◌≡◌, ◌≤◌, ◌<◌, ◌*◌, ◌/◌, ℕ, ℤ, arith, subst, sym, ap, ◌∙◌, ⊎_elim, to_z, of_z}
use Rattle.std.specs.Prelude.{◌≤ℤ◌}
use Rattle.std.specs.Int.{w128}
use Rattle.std.specs.Int.RustNames.{unsigned_abs}
use Rattle.std.proofs.lemmas.Int.{to_z-of_z}
use Rattle.std.proofs.Math.Nat.{eq-or-lt_of_le}
use Rattle.series_laws.specs.Needs.{lead_of, turns_of}
use Rattle.series_form.specs.Leads.{NoGreaterLead, width_of}
use Rattle.series_form.specs.SeriesLimits.{greatest_moderate}
use Rattle.series_form.proofs.Heights.{all_led, between, covers_it, le_same, le_through, lead_below, lead_moderate, led_more}
use Rattle.series_form.proofs.leads.greatest_lead.Goals as goal

pub loop-start-init : goal.loop-start-init
loop-start-init c =
    let f = c.args.first.now in
    let g = c.args.second.now in
    let first = to_z-of_z w128 c.first_lead-best.result (record { sfits = c.first_lead-best.type_inv }) ∙ c.first_lead-best.ensures.value in (
      subst (λ (z : ℤ). z ≤ℤ lead_of f g) (sym first)
          (lead_below f g c.period.ensures.series.canonical.form c.width-width.ensures.right.canonical.form c.requires 0),
      λ s l. absurd (omega arith),
    )

pub loop-start-preserved : goal.loop-start-preserved
loop-start-preserved c =
    let f = c.args.first.now in
    let g = c.args.second.now in
    let r : ℤ = c.best_on_cycle-best.result in
    let best : to_z w128 (of_z w128 c.best_on_cycle-best.result) ≡ c.best_on_cycle-best.result = to_z-of_z w128 c.best_on_cycle-best.result (record { sfits = c.best_on_cycle-best.type_inv }) in
    let up = le_same c.best_on_cycle-best.result (to_z w128 (of_z w128 c.best_on_cycle-best.result)) (sym best) in
    let steps : ℕ = 2 * c.turns_between-turns.result in (
      subst (λ (z : ℤ). z ≤ℤ lead_of f g) (sym best) c.best_on_cycle-best.ensures.no_more,
      λ s l. ⊎_elim
          (λ (q : s ≡ c.loop-start.start). subst (λ (z : ℕ). NoGreaterLead f g z (2 * c.turns_between-turns.result) (to_z w128 (of_z w128 c.best_on_cycle-best.result))) (sym q)
          (led_more f g c.loop-start.start (2 * c.turns_between-turns.result) c.best_on_cycle-best.result (to_z w128 (of_z w128 c.best_on_cycle-best.result)) up c.best_on_cycle-best.ensures.led))
          (λ (less : s < c.loop-start.start). led_more f g s (2 * c.turns_between-turns.result) (to_z w128 c.loop-start.best-bits) (to_z w128 (of_z w128 c.best_on_cycle-best.result))
          (le_through _ _ _ c.best_on_cycle-best.ensures.kept up) (c.loop-start.invariant.1 s less))
          (eq-or-lt_of_le {n = s} {m = c.loop-start.start} (omega arith)),
    )

pub returns-clause-value : goal.returns-clause-value
returns-clause-value c =
    let f = c.args.first.now in
    let g = c.args.second.now in
    let isf = c.period.ensures.series.canonical.form in
    let isg = c.width-width.ensures.right.canonical.form in
    let turns : c.turns_between-turns.result ≡ turns_of f.period (width_of f g) =
    c.turns_between-turns.ensures.value ∙ ap (λ (z : ℕ). turns_of z c.width-width.result) c.period.ensures.value ∙ ap (turns_of f.period) c.width-width.ensures.value in
    let whole : c.loop-start.start ≡ c.width-width.result / c.turns_between-turns.result = omega arith in
    let count : c.loop-start.start ≡ width_of f g / turns_of f.period (width_of f g) =
    whole ∙ ap (λ (z : ℕ). z / c.turns_between-turns.result) c.width-width.ensures.value ∙ ap (λ (z : ℕ). width_of f g / z) turns in
    let led : (s : ℕ) → s < width_of f g / turns_of f.period (width_of f g) → NoGreaterLead f g s (2 * turns_of f.period (width_of f g)) (to_z w128 c.loop-start.best-bits) =
    λ s l. subst (λ (z : ℕ). NoGreaterLead f g s (2 * z) (to_z w128 c.loop-start.best-bits)) turns
    (c.loop-start.invariant.1 s (subst (λ (z : ℕ). s < z) (sym count) l)) in
    between (to_z w128 c.loop-start.best-bits) (lead_of f g) c.loop-start.invariant.0 (all_led f g (to_z w128 c.loop-start.best-bits) isf isg (covers_it f g isf isg) led)

pub returns-clause-bound : goal.returns-clause-bound
returns-clause-bound c =
    let f = c.args.first.now in
    let g = c.args.second.now in
    subst (λ (z : ℤ). unsigned_abs z ≤ greatest_moderate) (sym (returns-clause-value c)) (lead_moderate f g c.period.ensures.series c.width-width.ensures.right)
