-- Ranks that rise along each place without tokens leave no circuit without tokens.
use Rattle.std.proofs.Common.{ℕ, zero, suc, ◌<◌, ◌≡◌, List, [], ◌∷◌, length, get_or, arith}
use Rattle.std.specs.Prelude.{pos, ◌+ℤ◌, ◌≤ℤ◌, All}
use Rattle.std.proofs.lemmas.Int.{ints}
use Rattle.std.proofs.lemmas.List.Sums.{sum_by-cons}
use Rattle.teg_net.specs.declared.entries.PlaceId.{PlaceId}
use Rattle.teg_net.specs.Nets.{NetLists}
use Rattle.teg_net.specs.Circuits.{no_place, place_at, from_of, tokens_of}
use Rattle.teg_net.specs.Parts.{to_of}
use Rattle.teg_net.proofs.PathLaws.{IsPathBetween-in_range}
use Rattle.teg_certificates.specs.Weights.{weight_of}
use Rattle.teg_certificates.specs.RisingRanks.{RisingRanksShowLive, ListedRanksShowLive}
use Rattle.teg_certificates.proofs.PathSums.{weights_bounded}

-- each place of a path without tokens has none
no_tokens : (net : NetLists) (ps : List PlaceId) → tokens_of net ps ≡ 0 → All (λ p. (place_at net p).tokens ≡ 0) ps
no_tokens net [] t i d l = absurd (omega arith)
no_tokens net (p ∷ ps) t zero d l = let s = sum_by-cons (λ q. (place_at net q).tokens) p ps in omega arith
no_tokens net (p ∷ ps) t (suc i) d l = let s = sum_by-cons (λ q. (place_at net q).tokens) p ps in no_tokens net ps (omega arith) i d (omega arith)

-- where each place weighs 1, a path weighs as much as it has places
ones : (ps : List PlaceId) → weight_of (λ p. pos 1) ps ≡ pos (length ps)
ones [] = omega (arith, ints)
ones (p ∷ ps) = let rest = ones ps in omega (arith, ints)

step_up : (x y : ℕ) → x < y → (pos 1 +ℤ pos x) ≤ℤ pos y
step_up x y l = omega (arith, ints)

pub ranks_live : RisingRanksShowLive
ranks_live net rank rises ps c free =
    let there = IsPathBetween-in_range net ps c.closed.0 c.closed.0 c.closed.1 in
    let low = weights_bounded net (λ p. pos 1) (λ t. pos (rank t)) ps c
    (λ i d l. let p = get_or ps i d in step_up (rank (from_of net p)) (rank (to_of net p)) (rises p (there i d l) (no_tokens net ps free i d l))) in
    let count = ones ps in
    let some = c.not_empty in
    absurd (omega (arith, ints))

pub listed_live : ListedRanksShowLive
listed_live net ranks h = ranks_live net (λ t. get_or ranks t 0) (λ p l t. h.rises p.index no_place l t)
