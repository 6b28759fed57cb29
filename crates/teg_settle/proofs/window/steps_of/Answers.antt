use Rattle.std.proofs.Common.{◌≡◌, pos, arith, rules}
use Rattle.std.specs.Prelude.{FitsSigned}
use Rattle.std.specs.Int.{w128}
use Rattle.std.proofs.lemmas.Int.{to_z-of_z}
use Rattle.std.proofs.lemmas.Grind.{common_steps}
use Rattle.teg_settle.specs.ComparedRows.{read_step}
use Rattle.teg_settle.proofs.Copying.{more}
use Rattle.teg_settle.proofs.window.steps_of.Goals as goal

pub loop-index-preserved : goal.loop-index-preserved
loop-index-preserved c =
    let rows = c.args.rows.now in
    let inv = c.loop-index.invariant in
    let fits : FitsSigned w128 c.step_in.result = search rules in
    record {
      count = grind (arith, common_steps);
      each = λ t l. rw c.in_ok-push.ensures.items
          (more (λ i s. s ≡ read_step rows c.args.period i) (pos 0) c.loop-index.steps.items _ (λ i m. inv.each i (omega (arith, inv.count)))
          (rw inv.count (simp to_z-of_z c.step_in.ensures)) t (omega (arith, inv.count)));
    }
