use Rattle.std.proofs.Common.{◌≡◌, ℕ, ◌+◌, ◌-◌, ◌*◌, ◌%◌, ◌<◌, eqb, false, ap, ◌∙◌, arith, Bool}
use Rattle.std.proofs.lemmas.Bool.Decides.{nat_tests}
use Rattle.series_laws.specs.SeriesForms.{first_holding}
use Rattle.series_laws.proofs.FormValues.{first_next}
use Rattle.series_form.proofs.plans.turns_between.Goals as goal

not_zero : (n : ℕ) → (n ≡ 0 → ⊥) → eqb n 0 ≡ false
not_zero n h = grind (arith, nat_tests)

pub loop-turns-preserved : goal.loop-turns-preserved
loop-turns-preserved c =
    let t : ℕ → Bool = λ m. eqb (m * c.args.first % c.args.second) 0 in
    let k : c.args.second - c.loop-turns.turns - 1 ≡ c.args.second - (c.loop-turns.turns + 1) = omega arith in
    let w : 0 < c.args.second - c.loop-turns.turns = omega arith in
    c.loop-turns.invariant ∙ first_next t c.loop-turns.turns (c.args.second - c.loop-turns.turns) w (not_zero (c.loop-turns.turns * c.args.first % c.args.second) c.if-turns-first-eq0.false)
    ∙ ap (first_holding t (c.loop-turns.turns + 1)) k
