-- The texts that are written where words or files are refused, each that of an answer.
use Rattle.std.specs.Prelude.{ℕ, List, ◌∷◌, []}
use Rattle.teg_net.specs.declared.entries.PlaceId.{PlaceId}
use Rattle.teg_net.specs.Nets.{NetLists}
use Rattle.teg_reader.specs.declared.refusals.ReadRefusal.{ReadRefusal}
use Rattle.teg_report.specs.declared.answer.Which.{Which}
use Rattle.teg_report.specs.UsageLines.{usage_lines}
use Rattle.teg_report.specs.ShortAnswers.{too_large_line, read_fault_line}
use Rattle.teg_report.specs.teg_lines.CircuitLines.{token_free_line}
use Rattle.teg_report.specs.FileRefusalLines.{read_line}
use Rattle.teg_report.specs.teg_text.Lines.{written}

-- what is written where words are refused
abbrev pub usage : List ℕ
usage = written usage_lines

-- why the bytes of a file say no net
abbrev pub read_text : ReadRefusal → List ℕ
read_text refusal = written (read_line refusal ∷ [])

-- a circuit without tokens
abbrev pub token_free_text : NetLists → List PlaceId → List ℕ
token_free_text net circuit = written (token_free_line net circuit ∷ [])

-- that a file is longer than its limit
abbrev pub too_large_text : Which → List ℕ
too_large_text which = written (too_large_line which ∷ [])

-- that a file could not be read
abbrev pub fault_text : Which → List ℕ
fault_text which = written (read_fault_line which ∷ [])
