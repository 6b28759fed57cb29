use Rattle.std.proofs.Common.{ℕ, subst}
use Rattle.pace_pieces.specs.Pieces.{IsBestAt}
use Rattle.pace_pieces.proofs.LineLaws.{best_reaches, piece_of}
use Rattle.pace_pieces.proofs.ranges.+cover.Goals as goal
use Rattle.pace_pieces.proofs.ranges.+cover.Goals.{then-from-to-via-then-from-to, then-from-to-via-else-from-to+then-is_at_least}

pub add-requires-clause-piece : goal.add-requires-clause-piece
add-requires-clause-piece t c =
    let net = c.args.held.now in
    let left = c.args.left in
    let right = c.args.right in
    let ends = c.requires.ends in
    record {
      order = ends.order;
      few = ends.few;
      piece = elim c.then-from-to.branch [
        | then-from-to-via-then-from-to w ↦
            piece_of net c.args.place left.hold right.hold left.line c.requires.place ends.left_best
            (subst (λ (h : ℕ). IsBestAt net c.args.place h left.line) w.if-from-to.true ends.left_best)
        | then-from-to-via-else-from-to+then-is_at_least w ↦
            piece_of net c.args.place left.hold right.hold left.line c.requires.place ends.left_best
            (best_reaches net c.args.place right.hold left.line right.line ends.left_best.line ends.right_best (w.is_at_least.ensures.yes w.if-is_at_least.true))
      ];
    }

pub add-requires-then-is_at_least-2-clause-piece : goal.add-requires-then-is_at_least-2-clause-piece
add-requires-then-is_at_least-2-clause-piece t c =
    let net = c.args.held.now in
    let left = c.args.left in
    let right = c.args.right in
    let ends = c.requires.ends in
    record {
      order = ends.order;
      few = ends.few;
      piece = piece_of net c.args.place left.hold right.hold right.line c.requires.place
          (best_reaches net c.args.place left.hold right.line left.line ends.right_best.line ends.left_best (c.is_at_least-2.ensures.yes c.if-is_at_least-2.true)) ends.right_best;
    }
