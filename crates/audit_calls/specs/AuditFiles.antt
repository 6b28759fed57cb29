-- What a file says that is read for an audit.
use Rattle.std.specs.Prelude.{ℕ, ◌≡◌, ◌≢◌, List, Option, Some, None, Result, Ok, Err, String, string_bytes, bytes_eq, codes, if◌then◌else◌}
use Rattle.std.specs.Global.{Global}
use Rattle.std.specs.Str.{IsUtf8}
use Rattle.teg_net.specs.Nets.{NetLists}
use Rattle.teg_outside.specs.Shelves.{ShelfState, Reads}
use Rattle.teg_outside.specs.declared.shelf.ShelfFault.{ShelfFault}
use Rattle.teg_outside.specs.declared.shelf.ShelfFault.TheVariants.{OutOfMemory}
use Rattle.teg_reader.specs.Documents.{document}

-- the most bytes that an answer may have
abbrev pub most_answer_bytes : ℕ
most_answer_bytes = 1073741824

-- the file that a word names; `-` is standard input
abbrev pub file_named : List ℕ → List ℕ
file_named word = if bytes_eq word (codes "-") then codes "/dev/stdin" else word

-- the bytes of a net file say this net
abbrev pub SaysNetOf : List ℕ → NetLists → Type 0
SaysNetOf bytes net = document bytes ≡ Ok net

-- the bytes are those of this text
abbrev pub SaysText : List ℕ → String Global → Type 0
SaysText bytes text = IsUtf8 bytes × (string_bytes text ≡ bytes)

-- what a reply of the shelf gives: what its bytes say; nothing where they say nothing, or the file was not read
abbrev pub GivesFile : {A : Type 0} → (List ℕ → A → Type 0) → Result (List ℕ) ShelfFault → Option A → Type 0
GivesFile says (Ok bytes) (Some file) = says bytes file
GivesFile {A = A} says (Ok bytes) None = (file : A) → says bytes file → ⊥
GivesFile says (Err fault) (Some file) = ⊥
GivesFile says (Err fault) None = fault ≢ OutOfMemory

-- the file of this name was read, once, and gives this
abbrev pub OpensFileOf : {A : Type 0} → (List ℕ → A → Type 0) → (name : List ℕ) → (most : ℕ) → ShelfState → ShelfState → Option A → Type 0
OpensFileOf says name most old new file =
    (reply : Result (List ℕ) ShelfFault) × Reads old new (file_named name) most reply × GivesFile says reply file
