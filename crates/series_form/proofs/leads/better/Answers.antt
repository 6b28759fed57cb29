use Rattle.std.proofs.Common.{◌≡◌, ◌<◌, ◌+◌, ◌-ℤ◌, ℕ, ℤ, Bool, true, arith, sym, ap, ◌∙◌, cond, ltb, to_z, of_z}
use Rattle.std.specs.Int.{w128, int_max}
use Rattle.std.proofs.lemmas.Int.{to_z-of_z}
use Rattle.std.proofs.lemmas.Bool.Decides.{nat_tests}
use Rattle.series_laws.specs.SeriesForms.{value_at}
use Rattle.series_laws.specs.Needs.{later_start}
use Rattle.series_form.specs.Leads.{integer_of_date}
use Rattle.series_form.proofs.Heights.{less_code, max_step}
use Rattle.series_form.proofs.leads.better.Goals as goal

below : (x y z : ℕ) → y ≡ z → x < y → ltb x z ≡ true
below x y z e l = grind (arith, nat_tests)

pub returns-then-reach-period : goal.returns-then-reach-period
returns-then-reach-period c =
    let f = c.args.first.now in
    let place = c.args.reach.place in
    let t : ltb place f.period ≡ true = below place c.period.result f.period c.period.ensures.value c.if-reach-period.true in
    let here : c.number_at-here.result ≡ integer_of_date (value_at f (later_start f c.args.second.now + place)) =
    c.number_at-here.ensures.value ∙ ap (λ (z : ℕ). integer_of_date (value_at f (z + place))) c.common_start.ensures.value in
    to_z-of_z w128 c.greater.result (record { sfits = c.greater.type_inv })
    ∙ max_step c.greater.result (to_z w128 (of_z w128 c.args.best)) (to_z w128 (of_z w128 (to_z w128 (of_z w128 c.args.reach.height) -ℤ to_z w128 (of_z w128 c.number_at-here.result))))
    c.args.best (c.args.reach.height -ℤ integer_of_date (value_at f (later_start f c.args.second.now + place))) c.greater.ensures
    (to_z-of_z w128 c.args.best (record { sfits = c.ranges.best.sfits }))
    (less_code c.args.reach.height c.number_at-here.result (omega (arith, c.requires.bound)) c.number_at-here.ensures.bound ∙ ap (λ (z : ℤ). c.args.reach.height -ℤ z) here)
    ∙ ap (λ (z : Bool). cond z (int_max c.args.best (c.args.reach.height -ℤ integer_of_date (value_at f (later_start f c.args.second.now + place)))) c.args.best) (sym t)
