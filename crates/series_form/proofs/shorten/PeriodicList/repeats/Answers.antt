use Rattle.std.proofs.Common.{◌≡◌, ℤ, false, ap, sym, ◌∙◌, arith, ◌+◌}
use Rattle.std.specs.Int.{w128}
use Rattle.std.proofs.lemmas.Int.{to_z-of_z}
use Rattle.series_laws.specs.SeriesForms.{moves, value_at}
use Rattle.series_laws.proofs.FormValues.{test_fails}
use Rattle.series_form.proofs.shorten.PeriodicList.repeats.Goals as goal

pub returns-then-not-moves_at : goal.returns-then-not-moves_at
returns-then-not-moves_at c =
    let f = value_at c.args.self.now in
    let e : moves f c.args.turn c.args.jump (c.args.from + c.loop-index.index) ≡ false =
    ap (λ (z : ℤ). moves f c.args.turn z (c.args.from + c.loop-index.index)) (sym (to_z-of_z w128 c.args.jump c.ranges.jump))
    ∙ sym c.moves_at.ensures ∙ c.if-not-moves_at.true in
    sym (test_fails f c.args.turn c.args.jump c.args.from c.args.count c.loop-index.index (omega arith) e)
