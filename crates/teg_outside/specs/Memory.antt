-- A shelf and a sink in memory, and their own rules.
use Rattle.std.specs.Prelude.{ℕ, ◌-◌, ◌==◌, ◌≡◌, ◌⊎◌, nat_le, Bool, List, [], ◌∷◌, ◌++◌, length, take, min, Option, Some, None, Result, Ok, Err, if◌then◌else◌, String, string_bytes}
use Rattle.std.specs.List.{list_any}
use Rattle.std.specs.Global.{Vec, Global}
use Rattle.teg_outside.specs.Causes.{counted_once_more}
use Rattle.teg_outside.specs.Shelves.{ShelfState, file_of}
use Rattle.teg_outside.specs.Sinks.{SinkState}
use Rattle.teg_outside.specs.declared.shelf.ShelfFault.{ShelfFault}
use Rattle.teg_outside.specs.declared.shelf.ShelfFault.TheVariants.{Failed as ReadFailed, TooLarge, OutOfMemory}
use Rattle.teg_outside.specs.declared.sink.SinkFault.{SinkFault}
use Rattle.teg_outside.specs.declared.sink.SinkFault.TheVariants.{Failed as WriteFailed}

-- a shelf in memory as contracts see it
pub record FilesInMemory : Type 0 where
  -- names with bytes
  pub files : List (List ℕ × List ℕ)
  -- the numbers of the calls that fail, counted from 1
  pub failing : List ℕ
  -- names with limits, in order
  pub reads : List (List ℕ × ℕ)
  pub calls : ℕ
  pub faults : ℕ
  pub overlong : ℕ

-- what a shelf in memory tells, by the meaning of a shelf
abbrev pub shelf_told : FilesInMemory → ShelfState
shelf_told shelf = record {
  files = Some shelf.files;
  reads = Some shelf.reads;
  faults = shelf.faults;
  overlong = shelf.overlong;
}

-- a file as it is told: its name and its bytes
abbrev pub told_file : String Global × Vec ℕ → List ℕ × List ℕ
told_file file = (string_bytes file.0, file.1.items)

-- a read as it is told: its name and its limit
abbrev pub told_read : String Global × ℕ → List ℕ × ℕ
told_read read = (string_bytes read.0, read.1)

-- whether the next call is one of those that fail
abbrev pub fails_next : List ℕ → ℕ → Bool
fails_next failing calls = list_any (λ number. number == counted_once_more calls) failing

-- a file, if it is there and not longer than the limit
abbrev pub file_within : Option (List ℕ) → ℕ → Result (List ℕ) ShelfFault
file_within None limit = Err ReadFailed
file_within (Some bytes) limit = if nat_le (length bytes) limit then Ok bytes else Err TooLarge

-- how the call of this number answers where memory is found
abbrev pub reply_of : (files : List (List ℕ × List ℕ)) → (failing : List ℕ) → (call : ℕ) → (name : List ℕ) → (limit : ℕ) → Result (List ℕ) ShelfFault
reply_of files failing call name limit =
    if list_any (λ number. number == call) failing then Err ReadFailed else file_within (file_of files name) limit

-- how the next read answers where memory is found
abbrev pub next_read : FilesInMemory → List ℕ → ℕ → Result (List ℕ) ShelfFault
next_read shelf name limit = reply_of shelf.files shelf.failing (counted_once_more shelf.calls) name limit

-- the shelf after one more call
abbrev pub after_call : FilesInMemory → FilesInMemory
after_call shelf = record shelf { calls = counted_once_more shelf.calls }

-- the shelf after one more read, which it tells
abbrev pub after_read : FilesInMemory → List ℕ → ℕ → FilesInMemory
after_read shelf name limit = record shelf { calls = counted_once_more shelf.calls; reads = shelf.reads ++ (name, limit) ∷ [] }

-- what a read of a shelf in memory did, by its reply
abbrev pub MemoryReads : FilesInMemory → FilesInMemory → List ℕ → ℕ → Result (List ℕ) ShelfFault → Type 0
MemoryReads old new name limit (Ok bytes) =
    (next_read old name limit ≡ Ok bytes) × (new ≡ after_read old name limit)
MemoryReads old new name limit (Err ReadFailed) =
    (next_read old name limit ≡ Err ReadFailed)
    × (new ≡ record (after_read old name limit) { faults = counted_once_more old.faults })
MemoryReads old new name limit (Err TooLarge) =
    (next_read old name limit ≡ Err TooLarge)
    × (new ≡ record (after_read old name limit) { overlong = counted_once_more old.overlong })
MemoryReads old new name limit (Err OutOfMemory) = (new ≡ after_call old) ⊎ (new ≡ after_read old name limit)

-- a sink in memory as contracts see it
pub record BytesInMemory : Type 0 where
  pub bytes : List ℕ
  -- the most bytes that one call takes
  pub most : ℕ
  -- the most bytes that it holds
  pub room : ℕ
  -- the numbers of the calls that fail, counted from 1; calls with an empty piece have none
  pub failing : List ℕ
  pub calls : ℕ
  pub faults : ℕ

-- what a sink in memory tells, by the meaning of a sink
abbrev pub sink_told : BytesInMemory → SinkState
sink_told sink = record { bytes = Some sink.bytes; faults = sink.faults }

-- how many bytes of a piece of that length the next write takes, if it does not fail
abbrev pub bytes_taken : BytesInMemory → ℕ → ℕ
bytes_taken sink wanted = min (min wanted sink.most) (sink.room - length sink.bytes)

-- how the next write of a piece of that length answers: an empty piece never fails; any other fails
-- where no room is left, and by its number
abbrev pub next_write : BytesInMemory → ℕ → Result ℕ SinkFault
next_write sink wanted =
    if wanted == 0 then Ok 0
    else if length sink.bytes == sink.room then Err WriteFailed
    else if fails_next sink.failing sink.calls then Err WriteFailed else Ok (bytes_taken sink wanted)

-- the number of the last call with a piece that is not empty, after one with a piece of that length
abbrev pub calls_after : BytesInMemory → ℕ → ℕ
calls_after sink wanted = if wanted == 0 then sink.calls else counted_once_more sink.calls

-- what a write into a sink in memory did, by its answer
abbrev pub MemoryWrites : BytesInMemory → BytesInMemory → List ℕ → Result ℕ SinkFault → Type 0
MemoryWrites old new piece (Ok n) =
    (next_write old (length piece) ≡ Ok n)
    × (new ≡ record old { calls = calls_after old (length piece); bytes = old.bytes ++ take n piece })
MemoryWrites old new piece (Err WriteFailed) =
    (next_write old (length piece) ≡ Err WriteFailed)
    × (new ≡ record old { calls = counted_once_more old.calls; faults = counted_once_more old.faults })
