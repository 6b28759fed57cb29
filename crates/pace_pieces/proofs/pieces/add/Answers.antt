use Rattle.std.proofs.Common.{◌+◌, ◌≡◌, [], ◌∷◌, ◌++◌, sym, subst, ◌∙◌}
use Rattle.pace_pieces.specs.declared.pieces.Piece.{Piece}
use Rattle.pace_pieces.specs.Pieces.{ArePieces}
use Rattle.pace_pieces.proofs.Following.{gone_on, one_more}
use Rattle.pace_pieces.proofs.pieces.add.Goals as goal

pub returns-then-is_at_least : goal.returns-then-is_at_least
returns-then-is_at_least c =
    let last : Piece = c.in-Some.last in
    let popped = c.pop.ensures.items in
    let is : c.args.pieces.now.items ≡ c.pop.new.self.items ++ last ∷ [] = rw c.in-Some.is at popped in
    let before : ArePieces c.args.held.now c.args.place c.args.low c.args.piece.from (c.pop.new.self.items ++ last ∷ []) =
    subst (ArePieces c.args.held.now c.args.place c.args.low c.args.piece.from) is c.requires.before in
    let all = gone_on c.args.held.now c.args.place c.args.low c.pop.new.self.items last c.args.piece c.requires.place before c.requires.piece.piece c.requires.piece.order
    (c.is_at_least.ensures.yes c.if-is_at_least.true) in
    subst (ArePieces c.args.held.now c.args.place c.args.low (c.args.piece.to + 1)) (sym c.in_ok-push-2.ensures.items) all

pub returns : goal.returns
returns c =
    let last : Piece = c.in-Some.last in
    let popped = c.pop.ensures.items in
    let is : c.args.pieces.now.items ≡ c.pop.new.self.items ++ last ∷ [] = rw c.in-Some.is at popped in
    let before : ArePieces c.args.held.now c.args.place c.args.low c.args.piece.from c.push-2.new.self.items =
    subst (ArePieces c.args.held.now c.args.place c.args.low c.args.piece.from) (is ∙ sym c.in_ok-push-3.ensures.items) c.requires.before in
    let all = one_more c.args.held.now c.args.place c.args.low c.push-2.new.self.items c.args.piece before c.requires.piece.piece c.requires.piece.order in
    subst (ArePieces c.args.held.now c.args.place c.args.low (c.args.piece.to + 1)) (sym c.in_ok-push-4.ensures.items) all
