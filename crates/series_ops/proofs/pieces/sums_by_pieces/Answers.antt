use Rattle.std.proofs.Common.{◌<◌, ◌+◌, ◌*◌, ◌∙◌, ap, sym, arith, length}
use Rattle.std.proofs.Math.Nat.{mul-pos}
use Rattle.series_laws.proofs.FormValues.{table_length}
use Rattle.series_ops.specs.ListFunctions.{value_listed}
use Rattle.series_ops.specs.Pieces.{window}
use Rattle.series_ops.proofs.PieceLaws.{none_begun, pieces_more, windows_up_to}
use Rattle.series_ops.proofs.pieces.sums_by_pieces.Goals as goal

pub loop-place-init : goal.loop-place-init
loop-place-init c = (
  none_begun (value_listed c.args.first.now) (value_listed c.args.second.now) c.args.span.from (length c.args.second.now) c.in_ok-sums.sums.items c.in_ok-sums.ensures,
  omega arith,
  omega arith,
)

pub joined-requires-clause-size : goal.joined-requires-clause-size
joined-requires-clause-size c =
    ap length (c.as_slice-known.ensures.value ∙ c.loop-place.invariant.0)
    ∙ table_length (window (value_listed c.args.first.now) (value_listed c.args.second.now) c.args.span.from c.loop-place.done) (length c.args.second.now)
    ∙ sym (ap length (c.as_slice.ensures.value ∙ c.in_ok-more.ensures)
    ∙ table_length (window (value_listed c.args.first.now) (value_listed c.args.second.now) (c.args.span.from + c.loop-place.done)
    (c.piece_from-piece.result.size * c.piece_from-piece.result.turns)) (length c.args.second.now))

pub joined-requires-clause-others : goal.joined-requires-clause-others
joined-requires-clause-others c = windows_up_to c.args.first.now c.args.second.now c.as_slice.result.now
    (c.args.span.from + c.loop-place.done) (c.piece_from-piece.result.size * c.piece_from-piece.result.turns) (length c.args.second.now)
    c.requires.span.values c.requires.second (c.as_slice.ensures.value ∙ c.in_ok-more.ensures)

pub loop-place-preserved : goal.loop-place-preserved
loop-place-preserved c =
    let some : 0 < c.piece_from-piece.result.size * c.piece_from-piece.result.turns = mul-pos c.piece_from-piece.ensures.piece.size c.piece_from-piece.ensures.piece.turns in
    let room = c.piece_from-piece.ensures.room in
    let before = c.loop-place.invariant.2 in (
      pieces_more c.args.first.now c.args.second.now c.as_slice-known.result.now c.as_slice.result.now c.in_ok-next.next.items c.args.span.from c.loop-place.done
          (c.piece_from-piece.result.size * c.piece_from-piece.result.turns) (c.as_slice-known.ensures.value ∙ c.loop-place.invariant.0) (c.as_slice.ensures.value ∙ c.in_ok-more.ensures)
          c.in_ok-next.ensures,
      omega arith,
      omega arith,
    )
