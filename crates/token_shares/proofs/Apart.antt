-- What the net with closed places tells of the net.
use Rattle.std.proofs.Common.{ℕ, ◌<◌, ◌≤◌, ◌≡◌, ◌+◌, ◌*◌, List, length, sym, subst, ◌∙◌, arith, ⊎_elim, Option, Some, None}
use Rattle.std.specs.Prelude.{All, Contains, IfNone}
use Rattle.teg_net.specs.declared.circuits.Circuit.{Circuit}
use Rattle.teg_net.specs.declared.entries.PlaceId.{PlaceId}
use Rattle.teg_net.specs.Circuits.{time_of, tokens_of}
use Rattle.teg_net.specs.Nets.{NetLists, IsNet}
use Rattle.teg_net.specs.Ratios.{Fraction}
use Rattle.teg_check.specs.Ranks.{IsRanking}
use Rattle.teg_sizing.specs.declared.sizing.Sizing.TheVariants.{Enough}
use Rattle.teg_sizing.specs.Sizings.{IsSizing}
use Rattle.teg_sizing.specs.ValueRounds.{Avoids}
use Rattle.teg_sizing.proofs.Values.{contains_or_avoids, not_both}
use Rattle.token_shares.specs.BareNets.{bare, with_closed}
use Rattle.token_shares.specs.TokenShares.{IsAbove, IsHopeless, KeepsTarget, OthersKeep}
use Rattle.token_shares.proofs.BareLaws.{above_of, bare_count, bare_ranking, bare_rules, no_dates, others_of}
use Rattle.token_shares.proofs.Closing.{above_closed, avoids_closed, count_closed, others_closed, ranking_closed, rules_closed}
use Rattle.token_shares.proofs.Reaching.{hopeless_apart}

-- where one place needs no further tokens, and none is told that would, no circuit is above the target
pub keeps_by_one : (net : NetLists) (r : Fraction) (p : PlaceId) (extra : ℕ) (circuit : Option Circuit) → IsSizing net r p (Enough extra circuit) → IfNone circuit (KeepsTarget net r)
keeps_by_one net r p extra None h = λ ps c. ⊎_elim
    (λ (has : Contains ps p). low_of ps (h.1.passing ps c has))
    (λ (avoids : Avoids p ps). h.1.others ps c (λ has. not_both p ps has avoids))
    (contains_or_avoids p ps) where
      low_of : (ps : List PlaceId) → time_of net ps * r.tokens ≤ r.time * (tokens_of net ps + 0) → time_of net ps * r.tokens ≤ r.time * tokens_of net ps
      low_of ps low = let e : tokens_of net ps + 0 ≡ tokens_of net ps = omega arith in rw e at low
keeps_by_one net r p extra (Some circuit) h = tt

-- the net with the places closed
abbrev apart_of : NetLists → List PlaceId → NetLists
apart_of net places = with_closed (bare net) places

module _ (net : NetLists) (places : List PlaceId) (range : All (λ p. p.index < length net.places) places) where
  pub bare_range : All (λ p. p.index < length (bare net).places) places
  bare_range = subst (λ (n : ℕ). All (λ p. p.index < n) places) (sym (bare_count net)) range

  pub apart_rules : IsNet net → IsNet (apart_of net places)
  apart_rules ok = rules_closed (bare net) places bare_range (no_dates net) (bare_rules net ok)

  pub apart_count : length (apart_of net places).places ≡ length net.places
  apart_count = count_closed (bare net) places ∙ bare_count net

  pub apart_ranking : (ranks : List ℕ) → IsRanking net ranks → IsRanking (apart_of net places) ranks
  apart_ranking ranks h = ranking_closed (bare net) ranks places (bare_ranking net ranks h)

  pub apart_others : (r : Fraction) → KeepsTarget (apart_of net places) r → OthersKeep net r places
  apart_others r k = others_of net r places (others_closed (bare net) r places k)

  pub apart_hopeless : (r : Fraction) (ps : List PlaceId) → IsAbove (apart_of net places) r ps → IsHopeless net r places ps
  apart_hopeless r ps a =
      hopeless_apart net r places range ps (above_of net r ps (above_closed (bare net) r places ps bare_range a)) (avoids_closed (bare net) r places ps bare_range a)
