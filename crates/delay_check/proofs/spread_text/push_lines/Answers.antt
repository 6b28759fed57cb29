use Rattle.std.proofs.Common.{◌+◌, ◌≡◌, [], length, refl, ap, string_bytes, arith}
use Rattle.std.specs.List.{range_with_len}
use Rattle.teg_text.specs.Lines.{line_then}
use Rattle.teg_text.proofs.Joining.{lines_end}
use Rattle.teg_text.proofs.Listing.{more_after}
use Rattle.delay_check.specs.DelayRows.{delay_by_rows}
use Rattle.delay_check.specs.ShownDelays.{delays_line}
use Rattle.delay_check.proofs.spread_text.push_lines.Goals as goal

pub loop-index-preserved : goal.loop-index-preserved
loop-index-preserved c =
    let r = c.args.rows.now in
    let p = c.args.planned.now in
    let delay = delay_by_rows r.width r.dates.now r.after r.turn r.steps.now p.period p.table.now in
    let k = c.loop-index.index in
    more_after (λ i. line_then (delays_line p.net.now i (delay i) r.count) []) _ _ _ _ 0 k k (omega arith) c.in_ok-push_line.ensures refl c.loop-index.invariant

pub returns : goal.returns
returns c =
    let r = c.args.rows.now in
    let p = c.args.planned.now in
    let delay = delay_by_rows r.width r.dates.now r.after r.turn r.steps.now p.period p.table.now in
    let n = length p.net.now.transitions in
    let all : c.loop-index.index ≡ n = omega (arith, c.loop-index-test.false, c.loop-index.auto.index-end, ap length c.transitions-index-end.ensures.value) in
    lines_end (λ i. delays_line p.net.now i (delay i) (r.after + r.turn)) (range_with_len 0 n) (string_bytes c.args.text.now) (string_bytes c.loop-index.text)
    (rw (r.told, all) at c.loop-index.invariant)
