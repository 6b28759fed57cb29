-- What a shelf tells, and what a read does to it.
use Rattle.std.specs.Prelude.{ℕ, ◌≤◌, ◌<◌, ◌≡◌, ◌⊎◌, List, [], ◌∷◌, ◌++◌, length, Option, Some, None, Result, Ok, Err, if◌then◌else◌}
use Rattle.std.specs.Str.{bytes_eq}
use Rattle.std.specs.Global.{Vec}
use Rattle.teg_outside.specs.Causes.{Rose, Rested, counted_once_more}
use Rattle.teg_outside.specs.declared.shelf.ShelfFault.{ShelfFault}
use Rattle.teg_outside.specs.declared.shelf.ShelfFault.TheVariants.{Failed, TooLarge, OutOfMemory}

-- a shelf as contracts see it
pub record ShelfState : Type 0 where
  -- the files that it tells, as names with bytes
  pub files : Option (List (List ℕ × List ℕ))
  -- the reads that it tells, as names with limits, in order
  pub reads : Option (List (List ℕ × ℕ))
  -- how many reads failed
  pub faults : ℕ
  -- how many reads met a file beyond their limit
  pub overlong : ℕ

-- a shelf that tells its counts alone
abbrev pub counting_shelf : ℕ → ℕ → ShelfState
counting_shelf faults overlong = record { files = None; reads = None; faults = faults; overlong = overlong }

-- the bytes of the first file of that name
abbrev pub file_of : List (List ℕ × List ℕ) → List ℕ → Option (List ℕ)
file_of [] name = None
file_of (file ∷ files) name = if bytes_eq file.0 name then Some file.1 else file_of files name

-- where files are told, these are the bytes of the first file of that name
abbrev pub IsFile : Option (List (List ℕ × List ℕ)) → List ℕ → List ℕ → Type 0
IsFile None name bytes = Unit {0}
IsFile (Some files) name bytes = file_of files name ≡ Some bytes

-- where files are told, there is one of that name, and it is longer than the limit
abbrev pub IsLongFile : Option (List (List ℕ × List ℕ)) → List ℕ → ℕ → Type 0
IsLongFile None name limit = Unit {0}
IsLongFile (Some files) name limit = (bytes : List ℕ) × (file_of files name ≡ Some bytes) × (limit < length bytes)

-- where reads are told, these were appended
abbrev pub ReadsGrow : Option (List (List ℕ × ℕ)) → Option (List (List ℕ × ℕ)) → List (List ℕ × ℕ) → Type 0
ReadsGrow None new more = new ≡ None
ReadsGrow (Some reads) new more = new ≡ Some (reads ++ more)

-- the reply of a read: the bytes of the file, or why there are none
abbrev pub replied : Result (Vec ℕ) ShelfFault → Result (List ℕ) ShelfFault
replied (Ok file) = Ok file.items
replied (Err fault) = Err fault

-- what a read of that name did, by its reply
abbrev pub ReadAnswers : ShelfState → ShelfState → List ℕ → ℕ → Result (List ℕ) ShelfFault → Type 0
ReadAnswers old new name limit (Ok bytes) =
    (new.faults ≡ old.faults) × (new.overlong ≡ old.overlong) × (length bytes ≤ limit)
    × IsFile old.files name bytes × ReadsGrow old.reads new.reads ((name, limit) ∷ [])
ReadAnswers old new name limit (Err Failed) =
    Rose old.faults new.faults × ReadsGrow old.reads new.reads ((name, limit) ∷ [])
ReadAnswers old new name limit (Err TooLarge) =
    Rose old.overlong new.overlong × (Rested old.faults new.faults → IsLongFile old.files name limit)
    × ReadsGrow old.reads new.reads ((name, limit) ∷ [])
ReadAnswers old new name limit (Err OutOfMemory) =
    ReadsGrow old.reads new.reads ((name, limit) ∷ []) ⊎ ReadsGrow old.reads new.reads []

-- all that a read says: no file changed, no count fell, and what it did by its reply
pub record Reads (old new : ShelfState) (name : List ℕ) (limit : ℕ) (reply : Result (List ℕ) ShelfFault) : Type 0 where
  pub files : new.files ≡ old.files
  pub faults : old.faults ≤ new.faults
  pub overlong : old.overlong ≤ new.overlong
  pub answer : ReadAnswers old new name limit reply

-- a read raises the count of its own fault by one, and no other
abbrev pub CountsFault : ShelfState → ShelfState → Result (List ℕ) ShelfFault → Type 0
CountsFault old new (Ok bytes) = (new.faults ≡ old.faults) × (new.overlong ≡ old.overlong)
CountsFault old new (Err Failed) = (new.faults ≡ counted_once_more old.faults) × (new.overlong ≡ old.overlong)
CountsFault old new (Err TooLarge) = (new.faults ≡ old.faults) × (new.overlong ≡ counted_once_more old.overlong)
CountsFault old new (Err OutOfMemory) = (new.faults ≡ old.faults) × (new.overlong ≡ old.overlong)

-- a told file beyond the limit is refused as such, where no fault rose and memory was found
abbrev pub LongIsTooLarge : ShelfState → ShelfState → List ℕ → ℕ → Result (List ℕ) ShelfFault → Type 0
LongIsTooLarge old new name limit reply =
    (files : List (List ℕ × List ℕ)) (bytes : List ℕ) →
    old.files ≡ Some files → file_of files name ≡ Some bytes → limit < length bytes →
    Rested old.faults new.faults → (reply ≡ Err TooLarge) ⊎ (reply ≡ Err OutOfMemory)
