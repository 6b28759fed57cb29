-- What a shorter holding time is worth: by the pace, the greatest ratio of time to tokens over the circuits of a net (chapter 2).
use Rattle.std.specs.Prelude.{◌*◌, ◌-◌, ◌≤◌, ◌≡◌, ◌⊎◌, List, [], Option, Some, None, Contains, ⊤}
use Rattle.teg_net.specs.Changes.{with_hold}
use Rattle.teg_net.specs.Circuits.{place_at}
use Rattle.teg_net.specs.Nets.{NetLists}
use Rattle.teg_net.specs.Ratios.{Fraction}
use Rattle.pace_calls.specs.Paces.{IsPace}
use Rattle.whatif.specs.declared.cuts.Cut.{Cut}
use Rattle.whatif.specs.declared.cuts.BestCut.{BestCut}

-- the first pace is at most the second; a net without a circuit is the quickest
abbrev pub IsAtMostPace : Option Fraction → Option Fraction → Type 0
IsAtMostPace None b = ⊤
IsAtMostPace (Some r) None = ⊥
IsAtMostPace (Some r) (Some s) = r.time * s.tokens ≤ s.time * r.tokens

-- the net with the place of the cut held so much less, down to 0 at most
abbrev pub with_cut : NetLists → Cut → NetLists
with_cut net c = with_hold net c.place ((place_at net c.place).hold - c.less)

-- the net with the cut has a pace, and it is at least this one
abbrev pub IsNoBetter : NetLists → Option Fraction → Cut → Type 0
IsNoBetter net pace c = (other : Option Fraction) × IsPace (with_cut net c) other × IsAtMostPace pace other

-- the told cut is one of the list, the told pace is that of the net with it, and no cut of the list gives a lower one
pub record IsBestOf (net : NetLists) (cuts : List Cut) (best : BestCut) : Type 0 where
  pub listed : Contains cuts best.cut
  pub pace : IsPace (with_cut net best.cut) best.pace
  pub none_better : (c : Cut) → Contains cuts c → IsNoBetter net best.pace c

-- the best cut of the list, or none where it is empty
abbrev pub IsBestCut : NetLists → List Cut → Option BestCut → Type 0
IsBestCut net cuts None = cuts ≡ []
IsBestCut net cuts (Some best) = IsBestOf net cuts best

-- the one of lower pace, of two with the same the first
abbrev pub IsBetterOf : Option BestCut → BestCut → BestCut → Type 0
IsBetterOf None new r = r ≡ new
IsBetterOf (Some best) new r = ((r ≡ best) × IsAtMostPace best.pace new.pace) ⊎ ((r ≡ new) × (IsAtMostPace best.pace new.pace → ⊥))
