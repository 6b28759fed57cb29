-- Why a run leaves no net.
use Rattle.std.specs.Prelude.{ℕ, ◌+◌, ◌-◌, ◌<◌, ◌≤◌, ◌≡◌, List, Option, Some, All, nat_lt, if◌then◌else◌, option_map, slice_get, length, map, ⊤}
use Rattle.teg_net.specs.declared.entries.Place.{Place}
use Rattle.teg_net.specs.declared.faults.NetFault.{NetFault}
use Rattle.teg_net.specs.Limits.{most_place_tokens}
use Rattle.teg_net.specs.NetFaults.{IsFirstBreach, IsNetFault}
use Rattle.teg_net.specs.Nets.{NetLists}
use Rattle.teg_net.specs.ReadyDates.{ready_date}
use Rattle.run_laws.specs.declared.fired.Fired.{Fired}
use Rattle.run_laws.specs.Earliest.{tokens_in}
use Rattle.state_laws.specs.NetsLeft.{count_in, place_after}
use Rattle.teg_state.specs.LeftLists.{AreListsLeft, AreNear, IsFarInput}
use Rattle.teg_state.specs.declared.refusal.NotLeft.{NotLeft}
use Rattle.teg_state.specs.declared.refusal.NotLeft.TheVariants.{Unpaid, ManyTokens, FarInput, NoNet, OutOfMemory}

-- the place gave no more tokens than it had and got, and is left no more than a place may have
pub record HasTokensLeft (run : List Fired) (p : Place) : Type 0 where
  pub paid : count_in run p.to.index ≤ p.tokens + count_in run p.from.index
  pub few : tokens_in run p ≤ most_place_tokens

-- the place gave more tokens than it had and got
abbrev pub IsUnpaid : List Fired → Place → Type 0
IsUnpaid run p = p.tokens + count_in run p.from.index < count_in run p.to.index

-- more tokens are left in the place than a place may have
abbrev pub IsCrowded : List Fired → Place → Type 0
IsCrowded run p = most_place_tokens < tokens_in run p

-- the fault is the first of a net of the places as they are left, with lists of the dates of inputs from now on
pub record IsFaultOfRest (net : NetLists) (run : List Fired) (now : ℕ) (fault : NetFault) : Type 0 where
  pub rest : NetLists
  pub transitions : rest.transitions ≡ net.transitions
  pub places : rest.places ≡ map (place_after run now) net.places
  pub inputs : AreListsLeft net run now (length net.transitions) rest.inputs
  pub is : IsNetFault rest fault

-- what a refusal tells, and that no cause before it is there: the first place that has not its tokens left, then the first input whose dates
-- from now on are no list, then a fault of the net that would be left; want of memory says nothing
abbrev pub IsWhyNotLeft : NetLists → List Fired → ℕ → NotLeft → Type 0
IsWhyNotLeft net run now (Unpaid place) = IsFirstBreach (HasTokensLeft run) (IsUnpaid run) net.places place.index
IsWhyNotLeft net run now (ManyTokens place) = IsFirstBreach (HasTokensLeft run) (IsCrowded run) net.places place.index
IsWhyNotLeft net run now (FarInput transition) =
    All (HasTokensLeft run) net.places × AreNear net run now transition.index × IsFarInput net run now transition.index
IsWhyNotLeft net run now (NoNet fault) =
    All (HasTokensLeft run) net.places × AreNear net run now (length net.transitions) × IsFaultOfRest net run now fault
IsWhyNotLeft net run now OutOfMemory = ⊤

-- the date from which the token is there that the place has for firing k of its downstream transition, by the dates of the upstream one
abbrev pub token_date_by : List ℕ → Place → ℕ → Option ℕ
token_date_by from p k = if nat_lt p.tokens k then option_map (λ d. d + p.hold) (slice_get from (k - p.tokens - 1)) else Some (ready_date p k)
