-- That the cyclicity is reached, and numbers that are common (chapter 3, cyclicity).
use Rattle.std.specs.Prelude.{ℕ, ◌+◌, ◌*◌, ◌<◌, ◌≤◌, ◌↔◌, List, length, All}
use Rattle.std.specs.Int.{◌∣◌}
use Rattle.bound_laws.specs.dioid.declared.dates.Date.{Date}
use Rattle.bound_laws.specs.teg_net.declared.entries.PlaceId.{PlaceId}
use Rattle.bound_laws.specs.teg_net.Limits.{greatest_every}
use Rattle.bound_laws.specs.teg_net.Nets.{NetLists, HasEndsInRange, HasListsOfInputs, HasRisingLists, HasListsByRule}
use Rattle.bound_laws.specs.teg_net.Circuits.{IsLive, time_of, tokens_of}
use Rattle.bound_laws.specs.teg_model.Datings.{IsLeastDating}
use Rattle.bound_laws.specs.settled_laws.SettledForms.{SettledForm}
use Rattle.bound_laws.specs.Critical.{IsCriticalAt}
use Rattle.bound_laws.specs.PastTheBound.{factorial}
use Rattle.slope_laws.specs.teg_loops.Loops.{IsCircuitTowards}
use Rattle.walk_times.specs.Transfers.{IsTransferOf}
use Rattle.cyclicity_laws.specs.CriticalParts.{IsStronglyConnected, IsCommonOfPart, IsCommonByParts}
use Rattle.cyclicity_laws.specs.PartsTowards.{IsCommonTowards, IsCommonOfNet}

-- where no circuit that leads to c exceeds the ratio a / b, the period of the greatest times of walks from c, a transition of a
-- critical circuit, is a multiple of the greatest common divisor of the tokens of some circuits of its critical part
abbrev pub TransfersAreCommon : Type 0
TransfersAreCommon =
    (net : NetLists) → IsLive net → (a b : ℕ) → 1 ≤ a → (c : ℕ) (ps : List PlaceId) → c < length net.transitions → IsCriticalAt net a b c ps
    → ((qs : List PlaceId) → IsCircuitTowards net c qs → b * time_of net qs ≤ a * tokens_of net qs)
    → (f : SettledForm) → IsTransferOf net c f → IsCommonOfPart net a b c f.period

-- in a strongly connected net the period of each transfer divides each number that is common by the parts
abbrev pub TransfersDivideByParts : Type 0
TransfersDivideByParts =
    (net : NetLists) (a b : ℕ) → IsStronglyConnected net a b → (c : ℕ) → c < length net.transitions → (f : SettledForm) → IsTransferOf net c f
    → (L : ℕ) → 1 ≤ L → (1 ≤ a → IsCommonByParts net a b L) → f.period ∣ L

-- so it is just the common numbers by the parts that all the periods of transfers divide
abbrev pub CyclicityIsByParts : Type 0
CyclicityIsByParts =
    (net : NetLists) (a b : ℕ) → IsStronglyConnected net a b → 1 ≤ a → (L : ℕ) → 1 ≤ L
    → ((c : ℕ) (f : SettledForm) → c < length net.transitions → IsTransferOf net c f → f.period ∣ L) ↔ IsCommonByParts net a b L

-- the greatest times of walks from each transition of a live net have a shortest settled form
abbrev pub TransfersExist : Type 0
TransfersExist = (net : NetLists) → HasEndsInRange net → IsLive net → (c : ℕ) → c < length net.transitions → (f : SettledForm) × IsTransferOf net c f

-- a number that is common whatever the rates, in a net of which no place has more tokens than these: a circuit has so many for each
-- transition at most, and by its rule a list repeats so many dates at most
abbrev pub common_number : NetLists → ℕ → ℕ
common_number net tokens = factorial (length net.transitions * tokens + greatest_every)

-- it is common towards each transition
abbrev pub CommonTowardsExist : Type 0
CommonTowardsExist =
    (net : NetLists) → HasEndsInRange net → HasListsByRule net → IsLive net → (tokens : ℕ) → All (λ p. p.tokens ≤ tokens) net.places
    → (t a b : ℕ) → (1 ≤ common_number net tokens) × IsCommonTowards net t a b (common_number net tokens)

-- and of the net
abbrev pub CommonOfNetsExist : Type 0
CommonOfNetsExist =
    (net : NetLists) → HasEndsInRange net → HasListsOfInputs net → HasRisingLists net → HasListsByRule net → IsLive net
    → (tokens : ℕ) → All (λ p. p.tokens ≤ tokens) net.places → (x : ℕ → ℕ → Date) → IsLeastDating net x → IsCommonOfNet net (common_number net tokens)

-- and by the parts
abbrev pub CommonByPartsExist : Type 0
CommonByPartsExist =
    (net : NetLists) → HasEndsInRange net → IsLive net → (tokens : ℕ) → All (λ p. p.tokens ≤ tokens) net.places
    → (a b : ℕ) → IsCommonByParts net a b (common_number net tokens)
