-- Critical circuits, and the bound past which the dates of a net go on by steps.
use Rattle.std.specs.Prelude.{ℕ, ◌+◌, ◌-◌, ◌*◌, ◌<◌, ◌≤◌, ◌≡◌, List, All, length}
use Rattle.settled_laws.specs.teg_net.declared.entries.PlaceId.{PlaceId}
use Rattle.settled_laws.specs.teg_net.Nets.{NetLists, IsNet, IsInput}
use Rattle.settled_laws.specs.teg_net.Circuits.{IsPathBetween, IsCircuit, IsLive, time_of, tokens_of}
use Rattle.settled_laws.specs.teg_net.Parts.{Reaches}

-- a circuit of ratio a/b, told from transition c on
pub record IsCriticalAt (net : NetLists) (a b c : ℕ) (ps : List PlaceId) : Type 0 where
  pub circuit : IsCircuit net ps
  pub at : IsPathBetween net c ps c
  pub critical : b * time_of net ps ≡ a * tokens_of net ps

-- the number is a multiple of the tokens of some critical circuit through each critical transition
abbrev pub IsCommon : NetLists → ℕ → ℕ → ℕ → Type 0
IsCommon net a b L = (c : ℕ) (ps : List PlaceId) → IsCriticalAt net a b c ps → (qs : List PlaceId) × IsCriticalAt net a b c qs × (u : ℕ) × (L ≡ u * tokens_of net qs)

-- each initial token is ready at 0
abbrev pub AllReadyAtZero : NetLists → Type 0
AllReadyAtZero net = All (λ p. All (λ d. d ≡ 0) p.ready) net.places

-- a path leads from each transition to each
abbrev pub EachReachesEach : NetLists → Type 0
EachReachesEach net = (s t : ℕ) → s < length net.transitions → t < length net.transitions → Reaches net s t

-- live, without inputs, all initial tokens ready at 0, each transition reaches each other, a/b is the greatest ratio and above 0, and the numbers keep these limits
pub record IsStrong (net : NetLists) (hold tokens a b : ℕ) : Type 0 where
  pub net_rules : IsNet net
  pub live : IsLive net
  pub no_input : (t : ℕ) → IsInput net t → ⊥
  pub reaches : EachReachesEach net
  pub center : ℕ
  pub core : List PlaceId
  pub attained : IsCriticalAt net a b center core
  pub greatest : (ps : List PlaceId) → IsCircuit net ps → b * time_of net ps ≤ a * tokens_of net ps
  pub time_some : 1 ≤ a
  pub tokens_some : 1 ≤ b
  pub holds : All (λ p. p.hold ≤ hold) net.places
  pub marks : All (λ p. p.tokens ≤ tokens) net.places
  pub one : 1 ≤ tokens
  pub ready_at_zero : AllReadyAtZero net

-- the bound of a net of n transitions: by its greatest hold, its greatest number of tokens and its ratio a/b
abbrev pub bound_of : ℕ → ℕ → ℕ → ℕ → ℕ → ℕ
bound_of n hold tokens a b =
    (n - 1) * tokens + n * tokens * (b * ((n - 1) * hold) + a * ((n - 1) * tokens + n * tokens)) + 1
