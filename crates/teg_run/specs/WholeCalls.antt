-- The whole call: from the words to an answer by the files that they name, and its writing.
use Rattle.std.specs.Prelude.{ℕ, List, Option, Result}
use Rattle.teg_outside.specs.declared.shelf.ShelfFault.{ShelfFault}
use Rattle.teg_outside.specs.Shelves.{ShelfState}
use Rattle.teg_outside.specs.Sinks.{SinkState}
use Rattle.teg_files.specs.declared.status.Status.{Status}
use Rattle.teg_report.specs.declared.answer.Which.{Which}
use Rattle.teg_run.specs.Calls.{Call}
use Rattle.teg_files.specs.Endings.{Ending, Whole, Lost}
use Rattle.teg_files.specs.Finishing.{Finished}
use Rattle.teg_files.specs.Reads.{ReadsAll}
use Rattle.teg_request.specs.declared.request.Request.{Request}
use Rattle.teg_request.specs.Requests.{request_of, asked_files}
use Rattle.teg_run.specs.Says.{Asked}

-- an ending by reads of these files: what is said by the replies, or want of memory
abbrev pub Answered : (List (Result (List ℕ) ShelfFault) → Status → List ℕ → Type 0) → List (Which × List ℕ) → ShelfState → ShelfState → Ending → Type 0
Answered says files old new (Whole status text) =
    (replies : List (Result (List ℕ) ShelfFault)) × ReadsAll old new files replies × says replies status text
Answered says files old new Lost = (replies : List (Result (List ℕ) ShelfFault)) × ReadsAll old new files replies

-- an answer by reads of these files, and its writing
abbrev pub Serves : (List (Result (List ℕ) ShelfFault) → Status → List ℕ → Type 0) → List (Which × List ℕ) → ShelfState → ShelfState → SinkState → SinkState → Status → Type 0
Serves says files shelf shelf' sink sink' status = (ending : Ending) × Answered says files shelf shelf' ending × Finished sink sink' ending status

-- the call carries out what is asked: an answer by the files that it names, and its writing
abbrev pub CarriesOut : Option Request → Call → Type 0
CarriesOut asked call =
    Serves (Asked asked call.lines) (asked_files asked) call.shelf_before call.shelf_after call.sink_before call.sink_after call.status

-- the call carries out what its words ask for
abbrev pub Runs : Call → Type 0
Runs call = CarriesOut (request_of call.words) call
