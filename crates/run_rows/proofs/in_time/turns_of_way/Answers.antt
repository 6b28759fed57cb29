use Rattle.std.proofs.Common.{rules, ◌+◌, ◌-◌, ◌≡◌, arith, to_z, of_z}
use Rattle.std.specs.Prelude.{FitsSigned}
use Rattle.std.specs.Int.{w128}
use Rattle.std.proofs.lemmas.Int.{to_z-of_z}
use Rattle.dioid.specs.Dates.{delayed}
use Rattle.date_rows.specs.DateTables.{date_at}
use Rattle.run_rows.specs.RoomyRuns.{step_of}
use Rattle.run_rows.proofs.Ordered.{next_in_time}
use Rattle.run_rows.proofs.in_time.turns_of_way.Goals as goal

pub loop-number-preserved : goal.loop-number-preserved
loop-number-preserved c =
    let rows = c.args.last.now.rows.now in
    let last = c.args.last.now.run.now in
    let after = c.args.last.now.after in
    let way = c.args.way in
    let inv = c.loop-number.invariant in
    let own = c.turns_of_dates-turns.ensures in
    let fits : FitsSigned w128 c.step-step.result = search rules in
    let is : to_z w128 (of_z w128 c.step-step.result) ≡ c.step-step.result = to_z-of_z w128 c.step-step.result fits in
    let token_fits : FitsSigned w128 c.step-token_step.result = search rules in
    let token_is : to_z w128 (of_z w128 c.step-token_step.result) ≡ c.step-token_step.result = to_z-of_z w128 c.step-token_step.result token_fits in
    record {
      within = omega (arith, own.within, inv.within);
      in_time = next_in_time rows last.turn c.loop-number.number c.loop-number.turns c.turns_of_dates-turns.result
          (λ k. step_of last way.from.index (after + (k - way.tokens))) (λ k. step_of last way.to.index (after + k))
          (λ k. delayed way.hold (date_at rows way.from.index (k - way.tokens))) (λ k. date_at rows way.to.index k)
          own.within inv.in_time
          (rw (is, token_is, c.step-step.ensures, c.step-token_step.ensures, c.delayed-token.ensures, c.date.ensures, c.date-in-loop-number.ensures) at own.in_time);
    }
