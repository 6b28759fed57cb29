use Rattle.std.proofs.Common.{◌≡◌, ◌++◌, [], map, slice_index_or, string_bytes}
use Rattle.std.specs.List.{flat_map, range_with_len}
use Rattle.audit_calls.specs.Claims.{claim_at}
use Rattle.audit_calls.proofs.claims.claims_of.Given as goal

abbrev pub invariant-loop-index : goal.invariant-loop-index
invariant-loop-index l = string_bytes l.told ≡ string_bytes l.initial.told
    ++ flat_map (λ i. claim_at l.kind l.finding i (slice_index_or (map (λ x. x.now) l.lines) i [])) (range_with_len 0 l.index)
