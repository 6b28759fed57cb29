use Rattle.std.proofs.Common.{◌+◌, ◌-◌, ◌*◌, ◌≡◌, [], slice_index_or, None, ap, string_bytes, arith}
use Rattle.std.specs.List.{range_with_len}
use Rattle.dioid.specs.declared.dates.Date.TheVariants.{Early}
use Rattle.teg_text.specs.Lines.{line_then}
use Rattle.teg_text.proofs.Joining.{lines_end}
use Rattle.teg_text.proofs.Listing.{more_after}
use Rattle.dating_certificates.specs.CheckedRows.{date_in_rows}
use Rattle.dating_check.specs.ShownTables.{firing_line}
use Rattle.dating_check.proofs.table.push_firings.Goals as goal

pub loop-before-preserved : goal.loop-before-preserved
loop-before-preserved c =
    let net = c.args.net.now in
    let rows = c.args.rows in
    let t = c.args.index in
    let k = c.loop-before.before in
    let back : k ≡ k + 1 - 1 = omega arith in
    more_after (λ j. line_then (firing_line net t j (date_in_rows rows.width rows.dates.now t j) (slice_index_or rows.ways.now ((j - 1) * rows.width + t) None)) []) _ _ _ _ 1 k (k + 1) (omega arith)
    c.in_ok-push_firing.ensures
    (ap (λ j. line_then (firing_line net t (k + 1) (slice_index_or rows.dates.now (j * rows.width + t) Early)
    (slice_index_or rows.ways.now (j * rows.width + t) None)) []) back) c.loop-before.invariant

pub returns : goal.returns
returns c =
    let net = c.args.net.now in
    let rows = c.args.rows in
    let t = c.args.index in
    let all : c.loop-before.before ≡ rows.numbers = omega (arith, c.loop-before-test.false, c.loop-before.auto.before-end) in
    lines_end (λ j. firing_line net t j (date_in_rows rows.width rows.dates.now t j) (slice_index_or rows.ways.now ((j - 1) * rows.width + t) None)) (range_with_len 1 rows.numbers)
    (string_bytes c.args.text.now) _ (rw all at c.loop-before.invariant)
