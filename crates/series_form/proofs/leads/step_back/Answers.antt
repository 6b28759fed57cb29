use Rattle.std.proofs.Common.{◌≡◌, ◌≤◌, ◌<◌, ◌+◌, ◌*◌, ◌+ℤ◌, ℕ, ℤ, arith, subst, sym, ap, ◌∙◌, to_z, of_z}
use Rattle.std.specs.Int.{w128, int_max}
use Rattle.std.specs.Int.RustNames.{unsigned_abs}
use Rattle.std.proofs.lemmas.Int.{to_z-of_z}
use Rattle.std.proofs.lemmas.Nat.{mul-le}
use Rattle.series_laws.specs.SeriesForms.{value_at}
use Rattle.series_laws.specs.Needs.{later_start}
use Rattle.series_form.specs.Leads.{IsReach, gain_from_before, integer_of_date, place_before, width_of}
use Rattle.series_form.specs.SeriesLimits.{greatest_moderate, greatest_height}
use Rattle.series_form.proofs.DateNumbers.{abs_sum}
use Rattle.series_form.proofs.PointwiseTables.{max_up_to}
use Rattle.series_form.proofs.Heights.{reach_before, covers_it, max_step, sum_code}
use Rattle.series_form.proofs.leads.step_back.Goals as goal

wide : (h : ℤ) (periods : ℕ) → periods ≤ 100000 → unsigned_abs h ≤ (periods + 1) * greatest_moderate → unsigned_abs h ≤ greatest_height
wide h periods few low = let e : (periods + 1) * greatest_moderate ≤ 100001 * greatest_moderate =
    mul-le (periods + 1) greatest_moderate 100001 greatest_moderate (omega arith) (omega arith) in omega arith

pub returns-clause-reach : goal.returns-clause-reach
returns-clause-reach c =
    let f = c.args.first.now in
    let g = c.args.second.now in
    let place = c.args.reach.place in
    let height = c.args.reach.height in
    let isf = c.common_start.ensures.left.canonical.form in
    let isg = c.common_start.ensures.right.canonical.form in
    let here : c.number_at-here.result ≡ integer_of_date (value_at g (later_start f g + place_before f g place)) =
    c.number_at-here.ensures.value ∙ ap (λ (z : ℕ). integer_of_date
    (value_at g (z + c.before-place.result))) c.common_start.ensures.value
    ∙ ap (λ (z : ℕ). integer_of_date (value_at g (later_start f g + z))) c.before-place.ensures.value in
    let value : to_z w128 (of_z w128 c.greater.result) ≡ int_max (integer_of_date (value_at g (later_start f g + place_before f g place))) (height +ℤ gain_from_before f g place) =
    to_z-of_z w128 c.greater.result (record { sfits = c.greater.type_inv })
    ∙ max_step c.greater.result (to_z w128 (of_z w128 c.number_at-here.result)) (to_z w128 (of_z w128 (to_z w128 (of_z w128 height) +ℤ to_z w128 (of_z w128 c.gain.result))))
    (integer_of_date (value_at g (later_start f g + place_before f g place))) (height +ℤ gain_from_before f g place) c.greater.ensures
    (to_z-of_z w128 c.number_at-here.result (record { sfits = c.number_at-here.type_inv }) ∙ here)
    (sum_code height c.gain.result (wide height c.args.periods c.requires.periods c.requires.bound) c.gain.ensures.bound ∙ ap (λ (z : ℤ). height +ℤ z) c.gain.ensures.value) in
    let low = subst (λ (z : ℕ). z < width_of f g) c.before-place.ensures.value c.before-place.ensures.within in
    let reach = reach_before f g isf isg c.requires.gaining c.args.periods place height (covers_it f g isf isg) c.requires.reach low in
    subst (λ (z : ℤ). IsReach f g (c.args.periods + 1) c.before-place.result z) (sym value)
    (subst (λ (z : ℕ). IsReach f g (c.args.periods + 1) z
    (int_max (integer_of_date (value_at g (later_start f g + place_before f g place))) (height +ℤ gain_from_before f g place)))
    (sym c.before-place.ensures.value) reach)

more : (periods : ℕ) (x h k : ℤ) → unsigned_abs x ≤ greatest_moderate → unsigned_abs h ≤ (periods + 1) * greatest_moderate → unsigned_abs k ≤ greatest_moderate
    → unsigned_abs (int_max x (h +ℤ k)) ≤ (periods + 2) * greatest_moderate
more periods x h k bx bh bk =
    let s : unsigned_abs (h +ℤ k) ≤ (periods + 1) * greatest_moderate + greatest_moderate = abs_sum h k ((periods + 1) * greatest_moderate) greatest_moderate bh bk in
    max_up_to x (h +ℤ k) ((periods + 2) * greatest_moderate) (omega arith) (omega arith)

pub returns-clause-bound : goal.returns-clause-bound
returns-clause-bound c =
    let height = c.args.reach.height in
    let value : to_z w128 (of_z w128 c.greater.result) ≡ int_max c.number_at-here.result (height +ℤ c.gain.result) =
    to_z-of_z w128 c.greater.result (record { sfits = c.greater.type_inv })
    ∙ max_step c.greater.result (to_z w128 (of_z w128 c.number_at-here.result)) (to_z w128 (of_z w128 (to_z w128 (of_z w128 height) +ℤ to_z w128 (of_z w128 c.gain.result))))
    c.number_at-here.result (height +ℤ c.gain.result) c.greater.ensures
    (to_z-of_z w128 c.number_at-here.result (record { sfits = c.number_at-here.type_inv }))
    (sum_code height c.gain.result (wide height c.args.periods c.requires.periods c.requires.bound) c.gain.ensures.bound) in
    subst (λ (z : ℤ). unsigned_abs z ≤ (c.args.periods + 2) * greatest_moderate) (sym value)
    (more c.args.periods c.number_at-here.result height c.gain.result c.number_at-here.ensures.bound c.requires.bound c.gain.ensures.bound)
