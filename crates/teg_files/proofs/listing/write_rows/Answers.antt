use Rattle.std.proofs.Common.{◌≡◌, ◌+◌, ℕ, List, length, map, ap, ◌∙◌, arith}
use Rattle.std.proofs.lemmas.Result.{err_from_is_err_and}
use Rattle.date_rows.specs.DateCells.{date_of_cell}
use Rattle.teg_files.specs.WrittenLists.{lines_text}
use Rattle.teg_files.proofs.WrittenLists.{cut_up, gathered_none, gathered_more, gathered_cut, gathered_last}
use Rattle.teg_files.proofs.listing.write_rows.Goals as goal

pub loop-number-init : goal.loop-number-init
loop-number-init g c = record {
  stands = c.requires.stands;
  number = c.requires.begins;
  row = ap (λ (xs : List ℕ). length xs) c.as_mut_slice-row.ensures.value ∙ c.requires.room.row;
  line = ap (λ (xs : List ℕ). length xs) c.as_mut_slice-line.ensures.value ∙ c.requires.room.line;
  block = ap (λ (xs : List ℕ). length xs) c.as_mut_slice-block.ensures.value ∙ c.requires.room.block;
  filled = omega arith;
  gathered = λ x h. gathered_none c.args.net.now x _ _;
}

pub loop-number-preserved : goal.loop-number-preserved
loop-number-preserved g c =
    let before = c.loop-number.invariant in
    record {
      stands = c.next_row.ensures.stands;
      number = c.next_row.ensures.number ∙ ap (λ z. z + 1) before.number;
      row = c.next_row.auto.row ∙ before.row;
      line = c.put_row-end.ensures.room ∙ before.line;
      block = c.put_row-end.ensures.same ∙ before.block;
      filled = c.in_ok-filled.ensures.0;
      gathered = λ x h.
          gathered_more c.args.net.now x _ _ _ c.loop-number.block c.put_row-end.new.block (map date_of_cell c.next_row.new.row) c.loop-number.filled c.put_row-end.result _ c.loop-number.number
          (before.gathered x h) (rw before.number at (c.next_row.ensures.row.same x h)) c.put_row-end.ensures.text c.in_ok-filled.ensures;
    }

pub returns-in_err-filled : goal.returns-in_err-filled
returns-in_err-filled g c = λ x h.
    let before = c.loop-number.invariant in
    let a = g.W.Sink.state c.args.out.now in
    let b = g.W.Sink.state c.loop-number.out in
    let d = g.W.Sink.state c.write_full.new.out in
    let e = c.in_err-filled.field-0.0 in
    let p = err_from_is_err_and c.from_residual.result c.from_residual.ensures.1 in
    cut_up a d (lines_text c.args.net.now x c.args.count) c.from_residual.result p.0 e p.1
    (gathered_cut c.args.net.now x a b d c.loop-number.block c.put_row-end.new.block (map date_of_cell c.next_row.new.row) c.loop-number.filled c.put_row-end.result c.loop-number.number c.args.count e
    (before.gathered x h) (rw before.number at (c.next_row.ensures.row.same x h)) c.put_row-end.ensures.text c.in_err-filled.ensures (omega (arith, c.loop-number-test.true)))

pub returns : goal.returns
returns g c = λ x h.
    let count = c.args.count in
    let last : c.loop-number.number ≡ count = omega (arith, c.loop-number-test.false, c.loop-number.auto.number-end) in
    gathered_last c.args.net.now x (g.W.Sink.state c.args.out.now) (g.W.Sink.state c.loop-number.out)
    (g.W.Sink.state c.write_all.new.out) c.loop-number.block c.loop-number.filled count c.write_all.result
    (rw last at (c.loop-number.invariant.gathered x h)) c.write_all.ensures
