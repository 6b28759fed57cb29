use Rattle.std.proofs.Common.{◌+◌, ◌≡◌, sym, ap, ◌∙◌, subst, rules}
use Rattle.std.specs.Prelude.{FitsSigned}
use Rattle.std.specs.Int.{w128}
use Rattle.std.proofs.lemmas.Int.{to_z-of_z}
use borrow.Author.Count.{below_more}
use Rattle.dioid.specs.Dates.{move}
use Rattle.date_rows.specs.DateTables.{date_at}
use Rattle.teg_settle.specs.ComparedRows.{read_step}
use Rattle.teg_settle.specs.Witnesses.{TestedPeriod}
use Rattle.teg_settle.proofs.witness.PeriodTest.is_moved.Goals as goal

pub loop-index-preserved : goal.loop-index-preserved
loop-index-preserved c =
    let rows = c.self.inside.rows.now in
    let p = c.self.inside.period in
    let k = c.args.number in
    let i = c.loop-index.index in
    let fits : FitsSigned w128 c.step_in-step.result = search rules in
    let moved = simp to_z-of_z at (c.is_step.ensures.0 c.if-not-is_step.false) in
    let here : date_at rows i (k + p) ≡ move (read_step rows p i) (date_at rows i k) =
    sym c.date-late.ensures ∙ (moved ∙ (ap (λ s. move s c.date-early.result) c.step_in-step.ensures ∙ ap (move (read_step rows p i)) c.date-early.ensures)) in
    let all = c.args.self.now in
    below_more (λ t. date_at all.rows t (k + all.period) ≡ move (read_step all.rows all.period t) (date_at all.rows t k)) i c.loop-index.invariant
    (subst (λ (v : TestedPeriod). date_at v.rows i (k + v.period) ≡ move (read_step v.rows v.period i) (date_at v.rows i k)) c.self.view_is here)
