-- A second file is read only after a net file that says a live net.
use Rattle.std.proofs.Common.{◌≡◌, ◌≤◌, ℕ, List, [], ◌∷◌, ◌++◌, length, map, take, Option, Some, Result, ap, subst, arith}
use Rattle.std.proofs.lemmas.List.{append_cancel_left, length-map, length-take-le}
use Rattle.teg_net.specs.Nets.{NetLists}
use Rattle.teg_outside.specs.declared.shelf.ShelfFault.{ShelfFault}
use Rattle.teg_outside.specs.Shelves.{ShelfState, ReadsGrow}
use Rattle.teg_report.specs.csv_records.Records.{most_file_bytes}
use Rattle.teg_report.specs.declared.answer.Which.{Which}
use Rattle.teg_report.specs.declared.answer.Which.TheVariants.{Net as NetFile}
use Rattle.teg_run.specs.Calls.{Call}
use Rattle.teg_files.specs.Endings.{Ending, Whole, Lost}
use Rattle.teg_run.specs.Headline.{Opens, ReadsFirstOf, SecondOnlyOfLive, as_told}
use Rattle.teg_files.specs.Reads.{ReadsAll}
use Rattle.teg_request.specs.declared.request.Request.{Request}
use Rattle.teg_request.specs.Requests.{request_of, asked_files, second_of}
use Rattle.teg_run.specs.WholeCalls.{Answered, Runs}
use Rattle.teg_run.specs.Says.{Asked}
use Rattle.teg_run.proofs.Causes.{net_opened}
use Rattle.teg_run.proofs.ReadOrder.{reads_first}

-- reads of one file at most did not grow by two
not_by_two : (old new : ShelfState) (named : List (Which × List ℕ)) (reads : List (List ℕ × ℕ)) (a b : List ℕ × ℕ) → length named ≤ 1 → old.reads ≡ Some reads →
    new.reads ≡ Some (reads ++ a ∷ b ∷ []) → ReadsFirstOf old new named → ⊥
not_by_two old new named reads a b few told grown h =
    let more : List (List ℕ × ℕ) = take h.0 (map as_told named) in
    let grew : new.reads ≡ Some (reads ++ more) = subst (λ (o : Option (List (List ℕ × ℕ))). ReadsGrow o new.reads more) told h.2 in
    let both : reads ++ more ≡ reads ++ a ∷ b ∷ [] = cc in
    let two = ap (λ (l : List (List ℕ × ℕ)). length l) (append_cancel_left reads more (a ∷ b ∷ []) both) in
    let names = length-map named as_told in
    let taken = length-take-le h.0 (map as_told named) (omega (arith, h.1, names)) in
    omega (arith, few, h.1, two, taken)

second_after : (files : List (List ℕ × List ℕ)) (old new : ShelfState) (reads : List (List ℕ × ℕ)) (name : List ℕ) (second : Which × List ℕ)
    (replies : List (Result (List ℕ) ShelfFault)) → old.files ≡ Some files → old.reads ≡ Some reads →
    new.reads ≡ Some (reads ++ (name, most_file_bytes) ∷ (second.1, most_file_bytes) ∷ []) → ReadsAll old new ((NetFile, name) ∷ second ∷ []) replies →
    (net : NetLists) × Opens files name net
second_after files old new reads name second [] told told_reads grown h =
    absurd (not_by_two old new [] reads (name, most_file_bytes) (second.1, most_file_bytes) (omega arith) told_reads grown (reads_first old new [] [] h))
second_after files old new reads name second (reply ∷ []) told told_reads grown h =
    absurd (not_by_two old new ((NetFile, name) ∷ []) reads (name, most_file_bytes) (second.1, most_file_bytes) (omega arith) told_reads grown
    (reads_first old new ((NetFile, name) ∷ []) (reply ∷ []) h))
second_after files old new reads name second (reply ∷ next ∷ replies) told told_reads grown h =
    (h.2.0, net_opened files old h.0 name reply h.2.0 told h.1 h.2.1)

-- the reads of a call, however it ended
read_all : (call : Call) (ending : Ending) →
    Answered (Asked (request_of call.words) call.lines) (asked_files (request_of call.words)) call.shelf_before call.shelf_after ending →
    (replies : List (Result (List ℕ) ShelfFault)) × ReadsAll call.shelf_before call.shelf_after (asked_files (request_of call.words)) replies
read_all call Lost h = h
read_all call (Whole status text) h = (h.0, h.1)

-- where a second file was read, the net file says a live net
pub second_only_of_live : (call : Call) → Runs call → SecondOnlyOfLive call
second_only_of_live call runs files reads command name second told told_reads asks grown =
    let read = read_all call runs.0 runs.1 in
    second_after files call.shelf_before call.shelf_after reads name (second_of command, second) read.0 told told_reads grown
    (subst (λ (asked : Option Request). ReadsAll call.shelf_before call.shelf_after (asked_files asked) read.0) asks read.1)
