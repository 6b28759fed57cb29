-- What the text of delays that stay shows, and that of delays that die out.
use Rattle.std.specs.Prelude.{ℕ, ◌+◌, ◌<◌, ◌≤◌, ◌≡◌, ◌^◌, ◌∷◌, ◌++◌, [], List, codes, length, map, slice_index_or}
use Rattle.std.specs.Fmt.{decimal}
use Rattle.std.specs.List.{range_with_len}
use Rattle.teg_net.specs.declared.entries.PlaceId.{PlaceId}
use Rattle.teg_net.specs.Nets.{NetLists}
use Rattle.teg_text.specs.Lines.{phrase, written}
use Rattle.teg_text.specs.WordsOfNames.{circuit_line, name_of_transition, settled_words}
use Rattle.settled_laws.specs.SettledForms.{SettledForm}
use Rattle.delay_laws.specs.declared.table.Timetable.{Timetable}
use Rattle.delay_laws.specs.Delays.{AreDelaysLeft, IsFormOfDelays}
use Rattle.delay_laws.specs.DelayOutcomes.{IsRecovered, KeepsDelays}
use Rattle.release_nets.specs.PlannedNets.{IsPlannedNet}

-- the line of the delays of transition t at the numbers from 1 to `count`
abbrev pub delays_line : NetLists → ℕ → (ℕ → ℕ) → ℕ → List (List ℕ)
delays_line net t delay count = codes "delays" ∷ name_of_transition net (record { index = t }) ∷ map (λ k. decimal (delay k)) (range_with_len 1 count)

-- the line of each transition
abbrev pub delays_lines : NetLists → (ℕ → ℕ → ℕ) → ℕ → List (List (List ℕ))
delays_lines net delay count = map (λ t. delays_line net t (delay t) count) (range_with_len 0 (length net.transitions))

-- that delays are kept, and the circuit that keeps them
abbrev pub kept_lines : NetLists → List PlaceId → List (List (List ℕ))
kept_lines net circuit = (codes "kept" ∷ []) ∷ circuit_line net circuit ∷ []

-- that no delay is left after a number
abbrev pub recovered_lines : ℕ → List (List (List ℕ))
recovered_lines last = (phrase (codes "recovered after") ++ decimal last ∷ []) ∷ []

-- the lines of delays: the number past which they come again and in how many numbers, what becomes of them, and the delays of each
-- transition up to the end of the first period
abbrev pub lines_of_delays : NetLists → (after turn : ℕ) → (outcome : List (List (List ℕ))) → (ℕ → ℕ → ℕ) → List (List (List ℕ))
lines_of_delays net after turn outcome delay = settled_words after turn ∷ (outcome ++ delays_lines net delay (after + turn))

-- the whole text tells the delays that are left, with these lines of what becomes of them: number and period of the first line are
-- those of the shortest settled form of delayed dates and releases together, each of 64 bits
abbrev pub TellsDelays : NetLists → ℕ → Timetable → List ℕ → List (List (List ℕ)) → Type 0
TellsDelays net period table text outcome = (form : SettledForm) × (delay : ℕ → ℕ → ℕ) × IsFormOfDelays net period table form
    × (form.after < 2 ^ 64) × (form.period < 2 ^ 64) × AreDelaysLeft net period table delay
    × (text ≡ written (lines_of_delays net form.after form.period outcome delay))

-- at some number at least this delay is left at the transition
abbrev pub IsSomewhereLeft : NetLists → ℕ → Timetable → ℕ → ℕ → Type 0
IsSomewhereLeft net period table t late = (k : ℕ) × (1 ≤ k) × ((delay : ℕ → ℕ → ℕ) → AreDelaysLeft net period table delay → late ≤ delay t k)

-- so much is left at each transition
pub record AreSomewhereLeft (net : NetLists) (period : ℕ) (table : Timetable) (left : List ℕ) : Type 0 where
  pub count : length left ≡ length net.transitions
  pub each : (t : ℕ) → t < length net.transitions → IsSomewhereLeft net period table t (slice_index_or left t 0)

-- the delays that are left, whatever settled form tells them, stay on the circuit
abbrev pub KeepsWhatIsLeft : NetLists → ℕ → Timetable → List PlaceId → Type 0
KeepsWhatIsLeft net period table circuit = (delay : ℕ → ℕ → ℕ) → AreDelaysLeft net period table delay → KeepsDelays net period delay circuit

-- none of the delays that are left comes after this number, the least such one
abbrev pub EndsWhatIsLeft : NetLists → ℕ → Timetable → ℕ → Type 0
EndsWhatIsLeft net period table last = (delay : ℕ → ℕ → ℕ) → AreDelaysLeft net period table delay → IsRecovered net delay last

-- the delays of the timetable can be followed in the net, the whole text tells those that are left and the circuit, and the circuit
-- keeps some of them for ever
pub record IsShownKept (net : NetLists) (period : ℕ) (table : Timetable) (text : List ℕ) (circuit : List PlaceId) : Type 0 where
  pub planned : IsPlannedNet net period table
  pub told : TellsDelays net period table text (kept_lines net circuit)
  pub keeps : KeepsWhatIsLeft net period table circuit

-- the delays of the timetable can be followed in the net, the whole text tells those that are left and a number, and it is the least
-- after which there is none
pub record IsShownRecovered (net : NetLists) (period : ℕ) (table : Timetable) (text : List ℕ) (last : ℕ) : Type 0 where
  pub planned : IsPlannedNet net period table
  pub told : TellsDelays net period table text (recovered_lines last)
  pub ends : EndsWhatIsLeft net period table last
