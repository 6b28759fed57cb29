use Rattle.std.proofs.Common.{◌≡◌, ap, sym, ◌∙◌, arith, ℕ, to_z, of_z, ◌+◌, ◌-◌}
use Rattle.std.specs.Int.{w128}
use Rattle.std.proofs.lemmas.Int.{to_z-of_z}
use Rattle.dioid.specs.declared.dates.Date.{Date}
use Rattle.series_laws.specs.Periodic.{Repeats}
use Rattle.series_laws.specs.SeriesForms.{gap, first_holding, repeat_start, value_at}
use Rattle.series_laws.proofs.FormValues.{value_repeats}
use Rattle.series_form.proofs.Steps.{turns, turn_step, turn_found, turn_passed, least_divides}
use Rattle.series_form.proofs.shorten.PeriodicList.least_period.Goals as goal
use Rattle.series_form.proofs.shorten.PeriodicList.least_period.Goals.{then-period-turn-eq0+else-repeats, else-period-turn-eq0}

pub loop-turn-preserved : goal.loop-turn-preserved
loop-turn-preserved c =
    let f : ℕ → Date = value_at c.args.self.now in
    let p : ℕ = repeat_start c.args.self.now in
    let n : ℕ = c.args.self.now.period in
    let h = c.period-period.ensures.list in
    elim c.if-period-turn-eq0.branch [
      | then-period-turn-eq0+else-repeats w ↦
          let jump : to_z w128 (of_z w128 w.gain_of-jump.result) ≡ gap (f p) (f (p + c.loop-turn.turn)) =
          to_z-of_z w128 w.gain_of-jump.result (record { sfits = w.gain_of-jump.type_inv }) ∙ w.gain_of-jump.ensures.gain in
          let tested = rw (c.start-from.ensures, c.period-period.ensures.value) at w.repeats.ensures in
          turn_step f p n c.loop-turn.turn _
          (to_z w128 (of_z w128 w.gain_of-jump.result)) w.repeats.result c.loop-turn.invariant (omega arith) jump tested w.if-repeats.false
      | else-period-turn-eq0 w ↦
          let again : Repeats f p n c.args.self.now.step = value_repeats c.args.self.now h.positive h.fits in
          turn_passed f p n c.loop-turn.turn c.loop-turn.invariant (omega arith)
          (least_divides f p n c.args.self.now.step h.rising h.positive again)
          (λ e. w.if-period-turn-eq0.false (rw c.period-period.ensures.value e))
    ]

pub returns-then-repeats-clause-value : goal.returns-then-repeats-clause-value
returns-then-repeats-clause-value c =
    let f : ℕ → Date = value_at c.args.self.now in
    let p : ℕ = repeat_start c.args.self.now in
    let n : ℕ = c.args.self.now.period in
    let jump : to_z w128 (of_z w128 c.gain_of-jump.result) ≡ gap (f p) (f (p + c.loop-turn.turn)) =
    to_z-of_z w128 c.gain_of-jump.result (record { sfits = c.gain_of-jump.type_inv }) ∙ c.gain_of-jump.ensures.gain in
    let tested = rw (c.start-from.ensures, c.period-period.ensures.value) at c.repeats.ensures in
    turn_found f p n c.loop-turn.turn _ (to_z w128 (of_z w128 c.gain_of-jump.result)) c.repeats.result c.loop-turn.invariant jump tested c.if-repeats.true

pub returns-clause-value : goal.returns-clause-value
returns-clause-value c =
    let f : ℕ → Date = value_at c.args.self.now in
    let p : ℕ = repeat_start c.args.self.now in
    let n : ℕ = c.args.self.now.period in
    let last : c.loop-turn.turn ≡ n = omega arith in
    let none : n - c.loop-turn.turn ≡ 0 = omega arith in
    c.period-period.ensures.value ∙ sym last
    ∙ ap (λ (z : ℕ). first_holding (turns f p n) c.loop-turn.turn z) (sym none)
    ∙ sym c.loop-turn.invariant
