use Rattle.std.proofs.Common.{rules, ◌+◌, ◌^◌, ◌<◌, ◌≡◌, ap, arith, to_z, of_z, ◌∙◌}
use Rattle.std.specs.Prelude.{FitsSigned}
use Rattle.std.specs.Int.{w128}
use Rattle.std.proofs.lemmas.Int.{to_z-of_z, to_z_pos}
use Rattle.dioid.specs.declared.dates.Date.TheVariants.{Early}
use Rattle.teg_net.specs.Inputs.{list_of_input}
use Rattle.teg_model.specs.Datings.{listed_releases}
use Rattle.teg_model.proofs.OfNet.{at_input_is}
use Rattle.date_rows.specs.DateTables.{date_at}
use Rattle.jump_laws.specs.ListedJumps.{pace_by_list}
use Rattle.jump_laws.specs.Runs.{Run}
use Rattle.run_rows.specs.RoomyRuns.{step_of}
use Rattle.run_rows.proofs.Ordered.{next_in_time}
use Rattle.run_rows.proofs.in_time.turns_of_input.Goals as goal

pub loop-number-preserved : goal.loop-number-preserved
loop-number-preserved c =
    let net = c.args.last.now.of.net.now in
    let t = c.args.input.index in
    let rows = c.args.last.now.rows.now in
    let last = c.args.last.now.run.now in
    let after = c.args.last.now.after in
    let number = c.loop-number.number in
    let inv = c.loop-number.invariant in
    let own = c.turns_of_dates-turns.ensures in
    let fits : FitsSigned w128 c.step-step.result = search rules in
    let is : to_z w128 (of_z w128 c.step-step.result) ≡ c.step-step.result = to_z-of_z w128 c.step-step.result fits in
    let released = c.release-release.ensures ∙ at_input_is net t (listed_releases net t (after + number)) Early c.requires.input in
    let few : c.pace_of-pace.result < 2 ^ 127 = omega (arith, c.pace_of-pace.ensures.few) in
    let turn_is : c.run.inside.turn ≡ last.turn = ap (λ (r : Run). r.turn) c.run.view_is in
    let pace_is = to_z_pos w128 c.pace_of-pace.result few ∙ (c.pace_of-pace.ensures.value ∙ ap (λ z. pace_by_list z (list_of_input net t)) turn_is) in
    record {
      within = omega (arith, own.within, inv.within);
      in_time = next_in_time rows last.turn number c.loop-number.turns c.turns_of_dates-turns.result
          (λ k. pace_by_list last.turn (list_of_input net t)) (λ k. step_of last t (after + k))
          (λ k. listed_releases net t (after + k)) (λ k. date_at rows t k)
          own.within inv.in_time
          (rw (pace_is, is, c.step-step.ensures, released, c.date.ensures) at own.in_time);
    }
