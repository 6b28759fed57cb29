use Rattle.std.proofs.Common.{ap, sym, ◌∙◌, ℤ, ◌+ℤ◌, to_z, of_z, pos, ◌*ℤ◌}
use Rattle.std.specs.Int.{w128}
use Rattle.std.proofs.lemmas.Int.{to_z-of_z}
use Rattle.series_form.proofs.DateNumbers.{times_product, mul_fits, add_fits, step_of, sum_of}
use Rattle.dioid.specs.declared.dates.Date.TheVariants.{At}
use Rattle.series_form.proofs.values.later_by.Goals as goal

pub overflow_mul-result : goal.overflow_mul-result
overflow_mul-result c = rw (step_of c.args.turns c.args.step c.requires.turns c.requires.step) (mul_fits c.args.turns c.args.step c.requires.reach)

pub overflow_add-result : goal.overflow_add-result
overflow_add-result c =
    let small = rw c.in-At.is at c.requires.date in
    rw (sum_of c.in-At.time c.args.turns c.args.step small c.requires.turns c.requires.step c.requires.reach) (add_fits c.in-At.time c.args.turns c.args.step small c.requires.reach)

pub returns-in-At : goal.returns-in-At
returns-in-At c =
    let small = rw c.in-At.is at c.requires.date in
    rw c.in-At.is (ap At (ap (λ (z : ℤ). to_z w128 (of_z w128 z)) (sum_of c.in-At.time c.args.turns c.args.step small c.requires.turns c.requires.step c.requires.reach)
    ∙ to_z-of_z w128 (c.in-At.time +ℤ pos c.args.turns *ℤ c.args.step) (add_fits c.in-At.time c.args.turns c.args.step small c.requires.reach)
    ∙ ap (λ (z : ℤ). c.in-At.time +ℤ z) (sym (times_product c.args.turns c.args.step))))
