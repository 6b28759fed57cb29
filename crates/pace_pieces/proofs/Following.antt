-- Pieces that follow each other, with one more and with one less.
use Rattle.std.proofs.Common.{ℕ, ◌+◌, ◌*◌, ◌<◌, ◌≤◌, ◌≡◌, List, [], ◌∷◌, ◌++◌, length, refl, sym, arith, Some}
use Rattle.std.specs.Prelude.{All}
use Rattle.std.proofs.lemmas.List.Elements.{All-nil, All-push, All-pop}
use Rattle.teg_net.specs.declared.entries.PlaceId.{PlaceId}
use Rattle.teg_net.specs.Nets.{NetLists}
use Rattle.pace_pieces.specs.declared.pieces.Piece.{Piece}
use Rattle.pace_pieces.specs.Pieces.{FollowOn, ArePieces, IsPieceOf}
use Rattle.pace_pieces.proofs.LineLaws.{longer}

follow_push : (low : ℕ) (ps : List Piece) (p : Piece) → FollowOn low ps p.from → p.from ≤ p.to → FollowOn low (ps ++ p ∷ []) (p.to + 1)
follow_push low [] p h l = (sym h, l, refl)
follow_push low (q ∷ ps) p h l = (h.0, h.1, follow_push (q.to + 1) ps p h.2 l)

follow_pop : (low end : ℕ) (ps : List Piece) (p : Piece) → FollowOn low (ps ++ p ∷ []) end → FollowOn low ps p.from × (p.from ≤ p.to) × (p.to + 1 ≡ end)
follow_pop low end [] p h = (sym h.0, h.1, h.2)
follow_pop low end (q ∷ ps) p h = let r = follow_pop (q.to + 1) end ps p h.2 in ((h.0, h.1, r.0), r.1, r.2)

module _ (net : NetLists) (place : PlaceId) where
  pub no_pieces : (low : ℕ) → ArePieces net place low low []
  no_pieces low = (refl, All-nil (IsPieceOf net place))

  -- one more piece
  pub one_more : (low : ℕ) (ps : List Piece) (p : Piece) → ArePieces net place low p.from ps → IsPieceOf net place p → p.from ≤ p.to → ArePieces net place low (p.to + 1) (ps ++ p ∷ [])
  one_more low ps p h is l = (follow_push low ps p h.0 l, All-push (IsPieceOf net place) ps p h.1 is)

  -- the last piece goes on in place of the next
  pub gone_on : (low : ℕ) (ps : List Piece) (last next : Piece) → place.index < length net.places → ArePieces net place low next.from (ps ++ last ∷ []) → IsPieceOf net place next
      → next.from ≤ next.to
      → (next.line.base + next.line.passes * next.to) * last.line.tokens ≤ (last.line.base + last.line.passes * next.to) * next.line.tokens
      → ArePieces net place low (next.to + 1) (ps ++ (record { from = last.from; to = next.to; line = last.line }) ∷ [])
  gone_on low ps last next in' h is l more =
      let rest = follow_pop low next.from ps last h.0 in
      let each = All-split ps last h.1 in
      let order = rest.1 in
      let joins = rest.2 in
      let new : Piece = record { from = last.from; to = next.to; line = last.line } in
      one_more low ps new (rest.0, each.0) (longer net place last next in' each.1 is order l more) (omega (arith, order, joins, l)) where
        All-split : (ps : List Piece) (last : Piece) → All (IsPieceOf net place) (ps ++ last ∷ []) → All (IsPieceOf net place) ps × IsPieceOf net place last
        All-split ps last h = All-pop (IsPieceOf net place) (ps ++ last ∷ []) ps (Some last) refl h
