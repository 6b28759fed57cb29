-- How a pass goes over the tree: the first finding at the top, then in each section by position.
use Rattle.std.specs.Prelude.{◌≡◌, ℕ, ◌+◌, Bool, true, false, List, [], ◌∷◌, Option, Some, None, Result, Ok, Err}
use Rattle.toml.specs.Data.{Data}
use Rattle.teg_reader.specs.declared.keys.Key.TheVariants as key
use Rattle.teg_reader.specs.declared.refusals.Section.{Section}
use Rattle.teg_reader.specs.declared.refusals.Section.TheVariants as section
use Rattle.teg_reader.specs.declared.refusals.Spot.{Spot}
use Rattle.teg_reader.specs.declared.refusals.ReadRefusal.{ReadRefusal}
use Rattle.teg_reader.specs.declared.refusals.ReadRefusal.TheVariants as refusal
use Rattle.teg_reader.specs.DocumentTrees.{array_at, or_else}

-- what a look at one table finds
abbrev pub Look : Type 0
Look = Spot → Data → Option ReadRefusal

-- a spot in the file: the entries of a section count from 1, and the top has 0
abbrev pub spot_at : Section → ℕ → Spot
spot_at section position = record { section = section; position = position }

-- the first finding among the entries of a section, which have positions from this one on
abbrev pub first_finding : Look → Section → ℕ → List Data → Option ReadRefusal
first_finding look section position [] = None
first_finding look section position (entry ∷ entries) = or_else (look (spot_at section position) entry) (first_finding look section (position + 1) entries)

-- the first finding of a pass: at the top, then among the transitions, the places and the input lists
unfoldable pub finding : Look → Data → Option ReadRefusal
finding look top =
    or_else (look (spot_at section.Top 0) top)
    (or_else (first_finding look section.Transition 1 (array_at key.Transition top))
    (or_else (first_finding look section.Place 1 (array_at key.Place top))
    (first_finding look section.Input 1 (array_at key.Input top))))

-- the first finding among the entries, of a look that tells no position
abbrev pub first_of_entries : (Data → Option ReadRefusal) → List Data → Option ReadRefusal
first_of_entries look [] = None
first_of_entries look (entry ∷ entries) = or_else (look entry) (first_of_entries look entries)

-- the refusal is want of memory
abbrev pub is_memory : ReadRefusal → Bool
is_memory refusal.OutOfMemory = true
is_memory _ = false

-- the answer tells this finding, or want of memory
abbrev pub Finds : {V : Type 0} → Option ReadRefusal → Result V ReadRefusal → Type 0
Finds found (Ok _) = found ≡ None
Finds found (Err r) = is_memory r ≡ false → found ≡ Some r
