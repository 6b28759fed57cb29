use Rattle.std.proofs.Common.{◌+◌, ◌++◌, ◌∷◌, []}
use Rattle.run_rows.specs.RoomyRuns.{end_of}
use Rattle.run_rows.proofs.Joining.{joined, late_behind}
use Rattle.run_rows.proofs.reached.Reached.past.Goals as goal

pub returns-in_ok-runs-clause-reached : goal.returns-in_ok-runs-clause-reached
returns-in_ok-runs-clause-reached c =
    let net = c.args.ranked.now.net.now in
    let self = c.args.self in
    let middle = self.after + c.args.rows.now.count in
    let jump = c.requires.jump in
    let made = c.in_ok-made.ensures in
    record {
      late = rw (c.in_ok-runs.ensures, c.in_ok-with.ensures, c.end-after.ensures)
          (late_behind net c.args.ranked.now.most self.after middle (end_of c.args.run) self.runs.runs c.in_ok-made.made c.args.run c.requires.reached.late made jump.run jump.long);
      least = λ yes. rw (c.in_ok-runs.ensures, c.in_ok-with.ensures, c.end-after.ensures)
          (joined net middle (end_of c.args.run) (self.runs.runs ++ c.in_ok-made.made ∷ []) c.args.run
          (joined net self.after middle self.runs.runs c.in_ok-made.made (c.requires.reached.least yes) made) jump.run);
    }
