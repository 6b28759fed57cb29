-- What is told of several places where they are one, beside what is told of that place (chapters 2 and 3).
use Rattle.std.specs.Prelude.{ℕ, ◌+◌, ◌<◌, ◌≡◌, ◌⊎◌, [], ◌∷◌, length, ⊤}
use Rattle.teg_net.specs.declared.entries.PlaceId.{PlaceId}
use Rattle.teg_net.specs.Circuits.{place_at}
use Rattle.teg_net.specs.Limits.{most_place_tokens}
use Rattle.teg_net.specs.Nets.{NetLists, IsNet}
use Rattle.teg_net.specs.Ratios.{Fraction}
use Rattle.teg_certificates.specs.Sizes.{IsEnough}
use Rattle.teg_sizing.specs.declared.sizing.Sizing.{Sizing}
use Rattle.teg_sizing.specs.declared.sizing.Sizing.TheVariants as sizing
use Rattle.teg_sizing.specs.Sizings.{IsSizing}
use Rattle.token_shares.specs.declared.fewest.Shares.{Shares}
use Rattle.token_shares.specs.declared.fewest.Shares.TheVariants as shares
use Rattle.token_shares.specs.TokenShares.{AreEnough, IsShares}

-- one number for one place is enough exactly where it is enough of that place
pub record IsEnoughBoth (net : NetLists) (r : Fraction) (p : PlaceId) (d : ℕ) : Type 0 where
  pub alone : AreEnough net r (p ∷ []) (d ∷ []) → IsEnough net r p d
  pub shared : IsEnough net r p d → AreEnough net r (p ∷ []) (d ∷ [])

-- so of each place of a net
abbrev pub SharesOfOneAreEnoughAlone : Type 0
SharesOfOneAreEnoughAlone = (net : NetLists) (r : Fraction) (p : PlaceId) (d : ℕ) → p.index < length net.places → IsEnoughBoth net r p d

-- what is told of one place by its shares and by its size is the same: the same number, or none, and more than the budget exactly where the
-- number is, or finds no room
abbrev pub AreOneAnswer : NetLists → PlaceId → ℕ → Shares → Sizing → Type 0
AreOneAnswer net p most (shares.Enough extra) (sizing.Enough alone circuit) = extra.items ≡ alone ∷ []
AreOneAnswer net p most (shares.Enough extra) (sizing.Impossible circuit) = ⊥
AreOneAnswer net p most (shares.Impossible circuit) (sizing.Enough alone other) = ⊥
AreOneAnswer net p most (shares.Impossible circuit) (sizing.Impossible other) = ⊤
AreOneAnswer net p most shares.More (sizing.Enough alone circuit) = (most < alone) ⊎ (most_place_tokens < (place_at net p).tokens + alone)
AreOneAnswer net p most shares.More (sizing.Impossible circuit) = ⊥

-- so of each place of a net, whatever the budget
abbrev pub SharesOfOneAreItsSize : Type 0
SharesOfOneAreItsSize =
    (net : NetLists) (r : Fraction) (p : PlaceId) (most : ℕ) (told : Shares) (size : Sizing) → IsNet net → p.index < length net.places
    → IsShares net r (p ∷ []) most told → IsSizing net r p size → AreOneAnswer net p most told size
