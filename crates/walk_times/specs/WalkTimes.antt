-- That the times of walks from an input settle, in one way.
use Rattle.std.specs.Prelude.{ℕ, ◌<◌, ◌≡◌}
use Rattle.teg_net.specs.Nets.{NetLists, HasEndsInRange, IsInput}
use Rattle.teg_net.specs.Circuits.{IsLive}
use Rattle.periodic_laws.specs.settled_laws.SettledForms.{SettledForm, settled_length}
use Rattle.walk_times.specs.Transfers.{IsTransferOf, TransferSettlesPast}

-- in a live net the greatest times of walks from the first firing of an input have a shortest settled form
abbrev pub WalkTimesSettle : Type 0
WalkTimesSettle = (net : NetLists) → HasEndsInRange net → IsLive net → (input : ℕ) → IsInput net input → (f : SettledForm) × IsTransferOf net input f

-- the greatest times of walks from the first firing of an input have one shortest settled form
abbrev pub TransfersAreOne : Type 0
TransfersAreOne = (net : NetLists) (input : ℕ) (f g : SettledForm) → IsTransferOf net input f → IsTransferOf net input g → f ≡ g

-- where each form of the times of walks from an input is longer than a limit, so is the shortest one
abbrev pub TransferLimitsAreTold : Type 0
TransferLimitsAreTold = (net : NetLists) (input limit : ℕ) (f : SettledForm) → IsTransferOf net input f → TransferSettlesPast net input limit → limit < settled_length f
