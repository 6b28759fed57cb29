use Rattle.std.proofs.Common.{◌≡◌, ◌≤◌, ◌<◌, ◌+◌, ◌-◌, ℕ, ℤ, true, false, ap, sym, ◌∙◌, arith, ⊎_elim, to_z, of_z, Bool}
use Rattle.std.specs.Int.{w128}
use Rattle.std.proofs.lemmas.Int.{to_z-of_z}
use Rattle.std.proofs.lemmas.Bool.{cases_lt}
use Rattle.dioid.specs.declared.dates.Date.{Date}
use Rattle.series_laws.specs.SeriesForms.{value_at, repeat_start, moves, least_start_of}
use Rattle.series_form.proofs.Steps.{start_found}
use Rattle.series_form.proofs.shorten.PeriodicList.least_start.Goals as goal

one_more : (f : ℕ → Date) (n : ℕ) (x : ℤ) (p b : ℕ) (r : Bool) → b < p → ((k : ℕ) → p - b ≤ k → k < p → moves f n x k ≡ true)
    → r ≡ moves f n x (p - (b + 1)) → r ≡ true → (k : ℕ) → p - (b + 1) ≤ k → k < p → moves f n x k ≡ true
one_more f n x p b r w old e h k u v = ⊎_elim
    (λ low. let here : k ≡ p - (b + 1) = omega arith in ap (moves f n x) here ∙ sym e ∙ h)
    (λ high. old k high v)
    (cases_lt k (p - b))

found : (f : ℕ → Date) (n : ℕ) (x : ℤ) (p b : ℕ) (r : Bool) → b < p → ((k : ℕ) → p - b ≤ k → k < p → moves f n x k ≡ true) → r ≡ moves f n x (p - (b + 1)) → r ≡ false → p - b ≡ least_start_of f p n x
found f n x p b r w old e h = start_found f n x p (p - b) (omega arith) old (λ _. let here : (p - b) - 1 ≡ p - (b + 1) = omega arith in ap (moves f n x) here ∙ sym e ∙ h)

pub loop-back-preserved : goal.loop-back-preserved
loop-back-preserved c =
    let moved = rw c.start-from.ensures at c.moves_at.ensures in
    one_more (value_at c.args.self.now) c.args.turn (to_z w128 (of_z w128 c.args.jump)) (repeat_start c.args.self.now) c.loop-back.back c.moves_at.result
    (omega arith) c.loop-back.invariant moved c.if-not-moves_at.false

pub returns-then-not-moves_at-clause-value : goal.returns-then-not-moves_at-clause-value
returns-then-not-moves_at-clause-value c =
    let f = value_at c.args.self.now in
    let p : ℕ = repeat_start c.args.self.now in
    let moved = rw c.start-from.ensures at c.moves_at.ensures in
    ap (λ (z : ℕ). z - c.loop-back.back) c.start-from.ensures
    ∙ found f c.args.turn (to_z w128 (of_z w128 c.args.jump)) p c.loop-back.back c.moves_at.result
    (omega arith) c.loop-back.invariant moved c.if-not-moves_at.true
    ∙ ap (least_start_of f p c.args.turn) (to_z-of_z w128 c.args.jump c.ranges.jump)

pub returns-clause-value : goal.returns-clause-value
returns-clause-value c =
    let f = value_at c.args.self.now in
    let p : ℕ = repeat_start c.args.self.now in
    start_found f c.args.turn (to_z w128 (of_z w128 c.args.jump)) p 0 (omega arith)
    (λ k u v. c.loop-back.invariant k (omega arith) v) (λ h. absurd (omega arith))
    ∙ ap (least_start_of f p c.args.turn) (to_z-of_z w128 c.args.jump c.ranges.jump)
