-- The texts of answers about timetables, and that they tell the answers.
use Rattle.std.specs.Prelude.{ℕ, ◌+◌, ◌<◌, ◌≤◌, ◌≡◌, ◌^◌, List, [], ◌∷◌, ◌++◌, length, map, codes, All, Option, Some, None, ⊤}
use Rattle.std.specs.Fmt.{decimal}
use Rattle.std.specs.List.{range_with_len}
use Rattle.teg_net.specs.declared.entries.PlaceId.{PlaceId}
use Rattle.teg_net.specs.declared.entries.TransitionId.{TransitionId}
use Rattle.teg_net.specs.Nets.{NetLists, IsNet}
use Rattle.teg_net.specs.Circuits.{AreInRange}
use Rattle.teg_text.specs.Faults.{row_line}
use Rattle.teg_text.specs.Lines.{phrase, written}
use Rattle.teg_text.specs.WordsOfNames.{circuit_line, name_of_place, name_of_transition, settled_words}
use Rattle.timetable_files.specs.declared.refusals.TableRefusal.{TableRefusal}
use Rattle.timetable_files.specs.declared.refusals.TableRefusal.TheVariants as table
use Rattle.teg_timetable.specs.declared.refusals.DelayRefusal.{DelayRefusal}
use Rattle.teg_timetable.specs.declared.refusals.DelayRefusal.TheVariants as delay
use Rattle.teg_settle.specs.settled_laws.SettledForms.{settled_length}
use Rattle.teg_timetable.specs.Spreads.{Spread, OutcomeTold, RecoveredTold, KeptTold, delay_by_spread}

-- what is told of a timetable: that its file is too long or could not be read; how its delays spread, with the delays left of each
-- transition; a faulty row of its file; a transition without a first departure; the numbers of a net that is too large; a place that does not fit; or a limit that is exceeded
pub data ToldTimetable : Type 0 where
  LongFileTold : ToldTimetable
  UnreadFileTold : ToldTimetable
  SpreadTold : (after period : ℕ) (outcome : OutcomeTold) (delays : List (List ℕ)) → ToldTimetable
  BadRowTold : (row : ℕ) → ToldTimetable
  UnknownTold : (row : ℕ) → ToldTimetable
  RepeatedTold : (row : ℕ) → ToldTimetable
  OutOfRangeTold : (row : ℕ) → ToldTimetable
  MissingTold : (transition : TransitionId) → ToldTimetable
  TooLargeTold : (transitions places : ℕ) → ToldTimetable
  UnworkableTold : (place : PlaceId) → ToldTimetable
  TooLongTold : (limit : ℕ) → ToldTimetable

-- the delays left of a transition at the numbers from 1 to `count`
abbrev pub delays_up_to : (ℕ → ℕ) → ℕ → List ℕ
delays_up_to delay count = map delay (range_with_len 1 count)

-- how delays spread, as it is told
abbrev pub spread_told : Spread → ToldTimetable
spread_told s = SpreadTold s.form.after s.form.period s.outcome (map (λ i. delays_up_to (delay_by_spread s i) (settled_length s.form)) (range_with_len 0 (length s.firsts)))

-- what is told of a file that is no timetable; nothing is told of want of memory
abbrev pub table_told : TableRefusal → Option ToldTimetable
table_told (table.BadRow row) = Some (BadRowTold row)
table_told (table.UnknownTransition row) = Some (UnknownTold row)
table_told (table.Repeated row) = Some (RepeatedTold row)
table_told (table.OutOfRange row) = Some (OutOfRangeTold row)
table_told (table.Missing transition) = Some (MissingTold transition)
table_told table.OutOfMemory = None

-- what is told of a timetable whose delays are not spread; nothing is told of want of memory
abbrev pub delay_told : DelayRefusal → Option ToldTimetable
delay_told (delay.TooLarge transitions places) = Some (TooLargeTold transitions places)
delay_told (delay.Unworkable place) = Some (UnworkableTold place)
delay_told (delay.TooLong limit) = Some (TooLongTold limit)
delay_told delay.OutOfMemory = None

-- that delays are kept, and the circuit that keeps them
abbrev pub kept_lines : NetLists → List PlaceId → List (List (List ℕ))
kept_lines net circuit = (codes "kept" ∷ []) ∷ circuit_line net circuit ∷ []

-- after which number no delay is left, or the circuit that keeps them
abbrev pub outcome_lines : NetLists → OutcomeTold → List (List (List ℕ))
outcome_lines net (RecoveredTold after) = (phrase (codes "recovered after") ++ decimal after ∷ []) ∷ []
outcome_lines net (KeptTold circuit) = kept_lines net circuit

-- the delays left of a transition, in order of number
abbrev pub delays_line : NetLists → ℕ → List ℕ → List (List ℕ)
delays_line net t delays = codes "delays" ∷ name_of_transition net (record { index = t }) ∷ map decimal delays

-- a line for each transition, from transition t on
abbrev pub delays_lines : NetLists → ℕ → List (List ℕ) → List (List (List ℕ))
delays_lines net t [] = []
delays_lines net t (delays ∷ more) = delays_line net t delays ∷ delays_lines net (t + 1) more

-- the lines of what is told of a timetable of a net
abbrev pub told_lines : NetLists → ToldTimetable → List (List (List ℕ))
told_lines net LongFileTold = phrase (codes "refused: the timetable is longer than 4194304 bytes") ∷ []
told_lines net UnreadFileTold = phrase (codes "fault: cannot read the timetable") ∷ []
told_lines net (SpreadTold after period outcome delays) = settled_words after period ∷ (outcome_lines net outcome ++ delays_lines net 0 delays)
told_lines net (BadRowTold row) = row_line (codes "timetable") row (phrase (codes "is not an entry")) ∷ []
told_lines net (UnknownTold row) = row_line (codes "timetable") row (phrase (codes "unknown transition")) ∷ []
told_lines net (RepeatedTold row) = row_line (codes "timetable") row (phrase (codes "repeated")) ∷ []
told_lines net (OutOfRangeTold row) = row_line (codes "timetable") row (phrase (codes "out of range")) ∷ []
told_lines net (MissingTold transition) = (phrase (codes "refused: no departure of") ++ name_of_transition net transition ∷ []) ∷ []
told_lines net (TooLargeTold transitions places) =
    (phrase (codes "refused: timetable of") ++ decimal transitions ∷ phrase (codes "transitions and") ++ decimal places ∷ codes "places" ∷ []) ∷ []
told_lines net (UnworkableTold place) =
    (phrase (codes "refused: place") ++ name_of_place net place ∷ phrase (codes "does not fit the timetable")) ∷ []
told_lines net (TooLongTold limit) = (phrase (codes "too long: no settled form within") ++ decimal limit ∷ []) ∷ []

-- the text tells this; there is none of nothing
abbrev pub IsTimetableText : NetLists → Option ToldTimetable → List ℕ → Type 0
IsTimetableText net None text = ⊥
IsTimetableText net (Some told) text = text ≡ written (told_lines net told)

-- what is told of the outcome is about the net: its circuit is, and its number has 64 bits
abbrev pub IsOutcomeToldOf : NetLists → OutcomeTold → Type 0
IsOutcomeToldOf net (RecoveredTold after) = after < 2 ^ 64
IsOutcomeToldOf net (KeptTold circuit) = AreInRange net circuit

-- the delays left of a transition up to a number have 64 bits
abbrev pub AreLeftDelaysShort : Spread → ℕ → ℕ → Type 0
AreLeftDelaysShort s i count = (k : ℕ) → 1 ≤ k → k ≤ count → delay_by_spread s i k < 2 ^ 64

-- number and period have 64 bits, the outcome is about the net, and there is a list of delays for each transition
pub record IsSpreadToldOf (net : NetLists) (after period : ℕ) (outcome : OutcomeTold) (delays : List (List ℕ)) : Type 0 where
  pub after_in : after < 2 ^ 64
  pub period_in : period < 2 ^ 64
  pub outcome_in : IsOutcomeToldOf net outcome
  pub each : length delays ≡ length net.transitions
  pub small : All (λ row. All (λ d. d < 2 ^ 64) row) delays

-- what is told is about the net, and its numbers have 64 bits
abbrev pub IsTimetableTold : NetLists → ToldTimetable → Type 0
IsTimetableTold net LongFileTold = ⊤
IsTimetableTold net UnreadFileTold = ⊤
IsTimetableTold net (SpreadTold after period outcome delays) = IsSpreadToldOf net after period outcome delays
IsTimetableTold net (BadRowTold row) = row < 2 ^ 64
IsTimetableTold net (UnknownTold row) = row < 2 ^ 64
IsTimetableTold net (RepeatedTold row) = row < 2 ^ 64
IsTimetableTold net (OutOfRangeTold row) = row < 2 ^ 64
IsTimetableTold net (MissingTold transition) = transition.index < length net.transitions
IsTimetableTold net (TooLargeTold transitions places) = (transitions < 2 ^ 64) × (places < 2 ^ 64)
IsTimetableTold net (UnworkableTold place) = place.index < length net.places
IsTimetableTold net (TooLongTold limit) = limit < 2 ^ 64

-- whatever is told of timetables of one net, answers and refusals together: what has the same text is the same
abbrev pub TextsOfTimetablesDiffer : Type 0
TextsOfTimetablesDiffer = (net : NetLists) → IsNet net → (p q : ToldTimetable) → IsTimetableTold net p → IsTimetableTold net q
    → written (told_lines net p) ≡ written (told_lines net q) → p ≡ q
