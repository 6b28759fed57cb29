-- Reads one after another.
use Rattle.std.specs.Prelude.{ℕ, ◌≡◌, List, [], ◌∷◌, Option, Some, None, Result}
use Rattle.teg_outside.specs.declared.shelf.ShelfFault.{ShelfFault}
use Rattle.teg_outside.specs.Shelves.{ShelfState, Reads}
use Rattle.teg_report.specs.csv_records.Records.{most_file_bytes}
use Rattle.teg_report.specs.declared.answer.Which.{Which}
use Rattle.teg_files.specs.Openings.{Opening, IsTaken}

-- more is read after this reply only where the file is accepted
abbrev pub ReadsOnIfTaken : Which → Result (List ℕ) ShelfFault → List (Result (List ℕ) ShelfFault) → Type 0
ReadsOnIfTaken which reply [] = Unit {0}
ReadsOnIfTaken which reply (next ∷ replies) = IsTaken which reply

-- reads of the first of these files, in order, each once and with the one limit, with these replies
abbrev pub ReadsAll : ShelfState → ShelfState → List (Which × List ℕ) → List (Result (List ℕ) ShelfFault) → Type 0
ReadsAll old new files [] = new ≡ old
ReadsAll old new [] (reply ∷ replies) = ⊥
ReadsAll old new (file ∷ files) (reply ∷ replies) =
    (mid : ShelfState) × Reads old mid file.1 most_file_bytes reply × ReadsOnIfTaken file.0 reply replies × ReadsAll mid new files replies

-- a file was opened, or memory ran out
abbrev pub OpenedBy : {A : Type 0} → (Result (List ℕ) ShelfFault → Opening A → Type 0) → List ℕ → ShelfState → ShelfState → Option (Opening A) → Type 0
OpenedBy opens name old new None = (reply : Result (List ℕ) ShelfFault) × Reads old new name most_file_bytes reply
OpenedBy opens name old new (Some opening) =
    (reply : Result (List ℕ) ShelfFault) × Reads old new name most_file_bytes reply × opens reply opening
