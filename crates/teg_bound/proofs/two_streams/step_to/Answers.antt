use Rattle.std.proofs.Common.{arith}
use Rattle.teg_bound.proofs.TwoStreams.{early_within, late_within, some_in, some_kept}
use Rattle.teg_bound.proofs.two_streams.step_to.Goals as goal

pub step_between-requires-clause-early : goal.step_between-requires-clause-early
step_between-requires-clause-early c =
    let two = c.requires.streams in
    rw c.back.ensures
    (early_within c.args.net.now c.args.early.now c.args.late.now two 0 1 (some_in c.args.net.now c.rules.ensures c.requires.part) (omega arith)
    (some_kept c.args.net.now c.args.early.now c.args.late.now two))

pub step_between-requires-clause-late : goal.step_between-requires-clause-late
step_between-requires-clause-late c =
    let two = c.requires.streams in
    rw c.back-2.ensures
    (late_within c.args.net.now c.args.early.now c.args.late.now two 0 1 (some_in c.args.net.now c.rules.ensures c.requires.part) (omega arith)
    (some_kept c.args.net.now c.args.early.now c.args.late.now two))
