-- A net is live just where its transitions can fire on and on (chapter 2).
use Rattle.std.specs.Prelude.{ℕ, ◌<◌, ◌≤◌, ◌≡◌, ◌≢◌, ◌↔◌, List, [], None, length, All}
use Rattle.teg_net.specs.declared.entries.PlaceId.{PlaceId}
use Rattle.teg_net.specs.Nets.{NetLists, HasEndsInRange}
use Rattle.teg_net.specs.Circuits.{from_of, IsCircuit, tokens_of, IsLive}
use Rattle.run_laws.specs.declared.fired.Fired.{Fired}
use Rattle.run_laws.specs.Runs.{dates_of_transition, IsLegalRun}

-- each input list goes on past its end
abbrev pub NoInputListEnds : NetLists → Type 0
NoInputListEnds net = All (λ l. l.again ≢ None) net.inputs

-- the run has just so many firings of each transition of the net
abbrev pub FiresEach : NetLists → ℕ → List Fired → Type 0
FiresEach net most run = (t : ℕ) → t < length net.transitions → length (dates_of_transition run t) ≡ most

-- no legal run has a firing of a transition on a circuit without tokens
abbrev pub TokenFreeCircuitsNeverFire : Type 0
TokenFreeCircuitsNeverFire =
    (net : NetLists) (run : List Fired) (ps : List PlaceId) → IsLegalRun net run → IsCircuit net ps → tokens_of net ps ≡ 0
    → All (λ p. dates_of_transition run (from_of net p) ≡ []) ps

-- so a net is live if some legal run has a firing of each of its transitions
abbrev pub FiringEachShowsLife : Type 0
FiringEachShowsLife =
    (net : NetLists) (run : List Fired) → HasEndsInRange net → IsLegalRun net run
    → ((t : ℕ) → t < length net.transitions → 1 ≤ length (dates_of_transition run t)) → IsLive net

-- a net in which no input list ends is live just where, for each number, some legal run has so many firings of each transition
abbrev pub LiveNetsFireOn : Type 0
LiveNetsFireOn =
    (net : NetLists) → HasEndsInRange net → NoInputListEnds net
    → IsLive net ↔ ((most : ℕ) → (run : List Fired) × IsLegalRun net run × FiresEach net most run)
