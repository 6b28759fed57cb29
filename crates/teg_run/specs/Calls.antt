-- One call of the workbench, as its caller sees it.
use Rattle.std.specs.Prelude.{ℕ, List, [], ◌∷◌, ◌-◌, ◌^◌, length, min}
use Rattle.teg_outside.specs.declared.monitor.Firing.{Firing}
use Rattle.teg_outside.specs.MonitorLines.{firings_line, greatest_lateness, greatest_tokens, high_water_line, lateness_line}
use Rattle.teg_outside.specs.Shelves.{ShelfState}
use Rattle.teg_outside.specs.Sinks.{SinkState}
use Rattle.teg_files.specs.declared.status.Status.{Status}

-- what a call was given, what it did to the shelf and the sink, and how it ended
pub record Call : Type 0 where
  -- the words after the name of the program
  pub words : List (List ℕ)
  -- what the monitors would print after given firings, a line each
  pub lines : List Firing → List (List ℕ)
  pub shelf_before : ShelfState
  pub shelf_after : ShelfState
  pub sink_before : SinkState
  pub sink_after : SinkState
  pub status : Status

-- a call by its parts
abbrev pub call_of : (words : List (List ℕ)) (lines : List Firing → List (List ℕ)) (shelf shelf' : ShelfState) (sink sink' : SinkState) (status : Status) → Call
call_of words lines shelf shelf' sink sink' status = record {
  words = words;
  lines = lines;
  shelf_before = shelf;
  shelf_after = shelf';
  sink_before = sink;
  sink_after = sink';
  status = status;
}

-- the lines of the three monitors of the program: how many firings there were, the greatest number of tokens and the greatest lateness
abbrev pub program_lines : List Firing → List (List ℕ)
program_lines firings =
    firings_line (min (length firings) (2 ^ 64 - 1)) ∷ high_water_line (greatest_tokens firings) ∷ lateness_line (greatest_lateness firings) ∷ []
