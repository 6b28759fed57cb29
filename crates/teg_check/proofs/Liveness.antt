-- Ranks that rise along each place without tokens leave no circuit without tokens.
use Rattle.std.proofs.Common.{ℕ, ◌+◌, ◌≤◌, ◌≡◌, List, [], ◌∷◌, length, get_or, ap, arith}
use Rattle.std.proofs.lemmas.List.Sums.{sum_by-cons}
use Rattle.teg_net.specs.declared.entries.PlaceId.{PlaceId}
use Rattle.teg_net.specs.Nets.{NetLists}
use Rattle.teg_net.specs.Circuits.{no_place, place_at, IsPathBetween, tokens_of}
use Rattle.teg_check.specs.Ranks.{IsRanking, RankedNetsAreLive}

-- along a path without tokens the rank rises by the number of its places or more
rises_along : (net : NetLists) (ranks : List ℕ) → IsRanking net ranks → (ps : List PlaceId) (a b : ℕ) → IsPathBetween net a ps b
    → tokens_of net ps ≡ 0 → get_or ranks a 0 + length ps ≤ get_or ranks b 0
rises_along net ranks r [] a b h t = omega (arith, ap (λ x. get_or ranks x 0) h)
rises_along net ranks r (p ∷ ps) a b h t =
    let s = sum_by-cons (λ q. (place_at net q).tokens) p ps in
    let here : (place_at net p).tokens ≡ 0 = omega arith in
    let rest : tokens_of net ps ≡ 0 = omega arith in
    let step = r.rises p.index no_place h.0 here in
    let more = rises_along net ranks r ps (place_at net p).to.index b h.2 rest in
    omega (arith, ap (λ x. get_or ranks x 0) h.1, step, more)

pub ranking_is_live : RankedNetsAreLive
ranking_is_live net ranks r ps c t =
    absurd (omega (arith, rises_along net ranks r ps c.closed.0 c.closed.0 c.closed.1 t, c.not_empty))
