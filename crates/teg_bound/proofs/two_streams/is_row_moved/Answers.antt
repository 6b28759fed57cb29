use Rattle.std.proofs.Common.{◌<◌, length, ap, arith}
use Rattle.teg_bound.proofs.TwoStreams.{early_within, kept_late, late_within}
use Rattle.teg_bound.proofs.two_streams.is_row_moved.Goals as goal

pub back-requires-in-loop-index-clause-last : goal.back-requires-in-loop-index-clause-last
back-requires-in-loop-index-clause-last c = kept_late c.args.net.now c.args.early.now c.args.late.now c.requires.streams c.args.behind c.requires.kept

pub step_between-requires-clause-early : goal.step_between-requires-clause-early
step_between-requires-clause-early c =
    let i = c.loop-index.index in
    let in' : i < length c.args.net.now.transitions = omega (arith, ap length c.transitions-index-end.ensures.value, c.loop-index-test.true) in
    rw c.back.ensures (early_within c.args.net.now c.args.early.now c.args.late.now c.requires.streams i c.args.behind in' c.requires.some c.requires.kept)

pub step_between-requires-clause-late : goal.step_between-requires-clause-late
step_between-requires-clause-late c =
    let i = c.loop-index.index in
    let in' : i < length c.args.net.now.transitions = omega (arith, ap length c.transitions-index-end.ensures.value, c.loop-index-test.true) in
    rw c.back-in-loop-index.ensures (late_within c.args.net.now c.args.early.now c.args.late.now c.requires.streams i c.args.behind in' c.requires.some c.requires.kept)
