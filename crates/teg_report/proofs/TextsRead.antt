-- The short answers are read back from their lines.
use Rattle.std.proofs.Common.{ℕ, ◌<◌, refl, length, ◌∷◌, [], List, ap}
use Rattle.dioid.specs.declared.dates.Date.{Date as DateOf}
use Rattle.teg_net.specs.declared.entries.TransitionId.{TransitionId}
use Rattle.teg_net.specs.Nets.{NetLists, IsNet}
use Rattle.teg_report.specs.declared.answer.Which.{Which}
use Rattle.teg_report.specs.declared.answer.Which.TheVariants.{Net as NetFile, Due as DueFile, Log as LogFile, Timetable as TimetableFile}
use Rattle.teg_report.specs.AnswerValues.{Live, Date, TooLarge, TokenFree, NoTransition, TooLong, Fault}
use Rattle.teg_lines.specs.Widths.{IsWord64, IsWord32}
use Rattle.teg_report.specs.ShortAnswers.{date_line, live_lines, too_large_line, read_fault_line, no_transition_line, too_long_line}
use Rattle.teg_lines.specs.CircuitLines.{token_free_line}
use Rattle.teg_lines.proofs.CircuitsRead.{circuit_back}
use Rattle.teg_report.proofs.IsRead.{IsRead}
use Rattle.teg_text.proofs.NamesRead.{transition_back, transition_is_word}
use Rattle.teg_text.specs.WordsOfNames.{name_of_transition}
use Rattle.teg_text.specs.ValueWords.{IsDate, AreBytes}
use Rattle.teg_text.proofs.Back.{word32_back, word64_back, date_back, label_back}
use Rattle.teg_text.proofs.Words.{decimal_is_word, date_is_word, label_is_word}
use Rattle.teg_net.specs.declared.entries.PlaceId.{PlaceId}
use Rattle.teg_net.specs.Circuits.{AreInRange}

pub live_read : (names : NetLists) (transitions places : ℕ) → IsWord32 transitions × IsWord32 places → IsRead names (live_lines transitions places) (Live transitions places)
live_read names transitions places h = record {
  words = rw (decimal_is_word transitions, decimal_is_word places) refl;
  back = rw (word32_back transitions h.0, word32_back places h.1) refl;
}

pub no_transition_read : (names : NetLists) (name : List ℕ) → AreBytes name → IsRead names (no_transition_line name ∷ []) (NoTransition name)
no_transition_read names name h = record { words = rw (label_is_word name h) refl; back = rw (label_back name h) refl }

pub too_long_read : (names : NetLists) (limit : ℕ) → IsWord32 limit → IsRead names (too_long_line limit ∷ []) (TooLong limit)
too_long_read names limit h = record { words = rw (decimal_is_word limit) refl; back = rw (word32_back limit h) refl }

pub too_large_read : (names : NetLists) (file : Which) → IsRead names (too_large_line file ∷ []) (TooLarge file)
too_large_read names NetFile = record { words = refl; back = refl }
too_large_read names DueFile = record { words = refl; back = refl }
too_large_read names LogFile = record { words = refl; back = refl }
too_large_read names TimetableFile = record { words = refl; back = refl }

pub fault_read : (names : NetLists) (file : Which) → IsRead names (read_fault_line file ∷ []) (Fault file)
fault_read names NetFile = record { words = refl; back = refl }
fault_read names DueFile = record { words = refl; back = refl }
fault_read names LogFile = record { words = refl; back = refl }
fault_read names TimetableFile = record { words = refl; back = refl }

-- the date of a firing
pub date_read : (transition : TransitionId) (number : ℕ) (date : DateOf) → IsWord64 number × IsDate date → (net : NetLists) → IsNet net → transition.index < length net.transitions →
    IsRead net (date_line (name_of_transition net transition) number date ∷ []) (Date transition number date)
date_read transition number date kept net rules l = record {
  words = rw (transition_is_word net transition rules l, decimal_is_word number, date_is_word date) refl;
  back = rw (transition_back net transition rules l, word64_back number kept.0, date_back date kept.1) refl;
}

-- a circuit
pub circuit_read : (circuit : List PlaceId) (net : NetLists) → IsNet net → AreInRange net circuit → IsRead net (token_free_line net circuit ∷ []) (TokenFree circuit)
circuit_read circuit net rules h = let read = circuit_back net circuit rules h in record { words = read.words; back = ap TokenFree read.back }
