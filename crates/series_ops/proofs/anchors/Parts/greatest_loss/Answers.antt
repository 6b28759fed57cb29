use Rattle.std.proofs.Common.{◌≡◌, ◌≤◌, ◌+◌, ◌-◌, ℕ, ℤ, suc, arith, subst, sym, ◌∙◌, ap, length, to_z, of_z}
use Rattle.std.specs.Int.{w128, int_max}
use Rattle.std.specs.Int.RustNames.{unsigned_abs}
use Rattle.std.proofs.lemmas.Int.{to_z-of_z}
use Rattle.series_laws.specs.SeriesForms.{form_with}
use Rattle.series_laws.specs.Needs.{greatest_int}
use Rattle.series_form.proofs.DateNumbers.{within_fits}
use Rattle.series_form.proofs.PointwiseTables.{max_up_to}
use Rattle.series_laws.specs.ProductNeeds.{loss_of_part}
use Rattle.series_form.specs.SeriesLimits.{greatest_part_loss}
use Rattle.series_ops.proofs.anchors.Parts.greatest_loss.Goals as goal

begun : (b v : ℤ) → b ≡ v → unsigned_abs b ≤ greatest_part_loss → (to_z w128 (of_z w128 b) ≡ v) × (unsigned_abs (to_z w128 (of_z w128 b)) ≤ greatest_part_loss)
begun b v e h =
    let same : to_z w128 (of_z w128 b) ≡ b = to_z-of_z w128 b (within_fits b (omega arith)) in
    (same ∙ e, subst (λ (z : ℤ). unsigned_abs z ≤ greatest_part_loss) (sym same) h)

-- one more loss
further : (F : ℕ → ℤ) (m : ℕ) (b n r : ℤ) → b ≡ greatest_int F m → unsigned_abs b ≤ greatest_part_loss → n ≡ F (m + 1) → unsigned_abs n ≤ greatest_part_loss
    → r ≡ int_max b (to_z w128 (of_z w128 n)) → (to_z w128 (of_z w128 r) ≡ greatest_int F (m + 1)) × (unsigned_abs (to_z w128 (of_z w128 r)) ≤ greatest_part_loss)
further F m b n r eb hb en hn er =
    let k : m + 1 ≡ suc m = omega arith in
    let same : r ≡ int_max b n = er ∙ ap (int_max b) (to_z-of_z w128 n (within_fits n (omega arith))) in
    let low : unsigned_abs (int_max b n) ≤ greatest_part_loss = max_up_to b n greatest_part_loss hb hn in
    begun r (greatest_int F (m + 1))
    (same ∙ ap (λ (z : ℤ). int_max z n) eb ∙ ap (int_max (greatest_int F m)) (en ∙ ap F k) ∙ ap (greatest_int F) (sym k))
    (subst (λ (z : ℤ). unsigned_abs z ≤ greatest_part_loss) (sym same) low)

pub loop-place-init : goal.loop-place-init
loop-place-init c =
    let none : (length c.args.self.now.values.now - c.args.self.now.period) + 0 ≡ length c.args.self.now.values.now - c.args.self.now.period = omega arith in
    begun c.loss-worst.result _ (c.loss-worst.ensures.value
    ∙ ap (loss_of_part (form_with c.args.self.now.values.now c.args.self.now.period c.args.self.now.step)) (sym none)) c.loss-worst.ensures.bound

pub loop-place-preserved : goal.loop-place-preserved
loop-place-preserved c =
    further (λ (i : ℕ). loss_of_part (form_with c.args.self.now.values.now c.args.self.now.period c.args.self.now.step)
    ((length c.args.self.now.values.now - c.args.self.now.period) + i)) c.loop-place.place _ c.loss.result c.max-worst.result
    c.loop-place.invariant.0 c.loop-place.invariant.1 c.loss.ensures.value c.loss.ensures.bound c.max-worst.ensures.value

pub returns-clause-value : goal.returns-clause-value
returns-clause-value c =
    let whole : c.loop-place.place ≡ c.args.self.now.period - 1 = omega arith in
    c.loop-place.invariant.0
    ∙ ap (greatest_int (λ (i : ℕ). loss_of_part (form_with c.args.self.now.values.now c.args.self.now.period c.args.self.now.step)
    ((length c.args.self.now.values.now - c.args.self.now.period) + i))) whole
