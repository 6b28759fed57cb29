-- Working definitions of a list of dates that is written as its rows are made.
use Rattle.std.specs.Prelude.{ℕ, ◌≡◌, ◌+◌, ◌*◌, ◌≤◌, ◌<◌, ◌++◌, List, [], length, take, Result, Ok, Err}
use Rattle.std.specs.List.{flat_map, range_with_len}
use Rattle.teg_report.specs.dioid.declared.dates.Date.{Date}
use Rattle.date_rows.specs.Streams.{AreFirstRowsOf, HasLeast, first_rows_given}
use Rattle.teg_net.specs.Nets.{NetLists}
use Rattle.teg_outside.specs.declared.sink.SinkFault.{SinkFault}
use Rattle.teg_outside.specs.declared.sink.SinkFault.TheVariants.{Failed}
use Rattle.teg_outside.specs.Sinks.{SinkState}
use Rattle.teg_report.specs.DateLists.{head_text, number_line}
use Rattle.teg_report.specs.teg_text.Lines.{line_then}
use Rattle.teg_files.specs.declared.listing.Buffers.{Buffers}
use Rattle.teg_files.specs.declared.listing.Listing.{Listing}
use Rattle.teg_files.specs.Writing.{WritesText}

-- from so many bytes on the rows that were made are written
abbrev pub piece : ℕ
piece = 65536

-- the lines of the numbers 1 to count
abbrev pub lines_text : NetLists → (ℕ → ℕ → Date) → ℕ → List ℕ
lines_text net x count = flat_map (λ k. line_then (number_line (length net.transitions) x k) []) (range_with_len 1 count)

-- there is room for a row of so many dates, for its line, and for a line behind less than a piece
pub record HasRoom (width : ℕ) (buffers : Buffers) : Type 0 where
  pub row : length buffers.row.items ≡ width
  pub line : length buffers.line.items ≡ (width + 1) * 41
  pub block : length buffers.block.items ≡ piece + (width + 1) * 41

-- the head is that of the list, no row was made, and there is room for what comes next
pub record IsListingOf (net : NetLists) (count : ℕ) (listing : Listing) : Type 0 where
  pub head : listing.head.items ≡ head_text net count
  pub stands : AreFirstRowsOf net listing.rows
  pub begins : first_rows_given listing.rows ≡ 0
  pub room : HasRoom (length net.transitions) listing.buffers
  pub exists : HasLeast net

-- a first part of what is gathered was written, or none of it, and less than a piece is left; or a fault came first
abbrev pub WritesFull : SinkState → SinkState → List ℕ → ℕ → Result ℕ SinkFault → Type 0
WritesFull old new block filled (Ok left) =
    (left < piece) × (left ≤ length block) × ((text : List ℕ) × WritesText old new text (Ok tt) × (text ++ take left block ≡ take filled block))
WritesFull old new block filled (Err Failed) = WritesText old new (take filled block) (Err Failed)
