use Rattle.std.proofs.Common.{ℕ, List, [], map, slice_index_or, ap, arith}
use Rattle.teg_text.proofs.Listing.{more_after}
use Rattle.audit_calls.specs.Claims.{claim_at}
use Rattle.audit_calls.proofs.claims.claims_of.Goals as goal

pub loop-index-preserved : goal.loop-index-preserved
loop-index-preserved c =
    let k = c.loop-index.index in
    let kind = c.args.kind in
    let finding = c.args.finding in
    more_after (λ i. claim_at kind finding i (slice_index_or (map (λ x. x.now) c.args.lines.now) i [])) _ _ _ _ 0 k k (omega arith)
    c.in_ok-push_claim.ensures (ap (λ (l : List ℕ). claim_at kind finding k l) c.text_at.ensures) c.loop-index.invariant
