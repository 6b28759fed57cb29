use Rattle.std.proofs.Common.{arith, length-drop}
use Rattle.audit_calls.proofs.Pieces.{grows_by_piece, piece_from}
use Rattle.audit_calls.proofs.writing.write_all.Goals as goal

pub loop-written-preserved : goal.loop-written-preserved
loop-written-preserved g c = record {
  within = omega (arith, c.in_ok-written.ensures.answer.0, length-drop c.loop-written.written c.args.text.now);
  faults = cc (c.in_ok-written.ensures.answer.2);
  bytes = grows_by_piece _ _ _ c.args.text.now _ c.loop-written.written c.in_ok-written.field-0
      (piece_from c.args.text.now c.loop-written.written) c.loop-written.invariant.bytes c.in_ok-written.ensures.answer.3;
}
