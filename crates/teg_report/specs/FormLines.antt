-- A standard form: its lines, what its numbers keep, and how it is read back.
use Rattle.std.specs.Prelude.{ℕ, ◌<◌, List, [], ◌∷◌, ◌++◌, length, map, All, codes, Bool, not, drop}
use Rattle.std.specs.Fmt.{decimal}
use Rattle.teg_form.specs.declared.entries.Entry.{Entry}
use Rattle.teg_form.specs.declared.stars.StarEntry.{StarEntry}
use Rattle.teg_form.specs.StandardForms.{FormLists}
use Rattle.teg_net.specs.Nets.{NetLists}
use Rattle.teg_text.specs.WordsOfNames.{name_of_transition, transition_in}
use Rattle.teg_text.specs.WordReading.{word, stands_at, number_in}
use Rattle.teg_text.specs.LineBlocks.{those}
use Rattle.teg_lines.specs.Widths.{IsWord32, IsWord64}

-- how many entries there are
abbrev pub sizes_line : FormLists → List (List ℕ)
sizes_line form = codes "form" ∷ codes "stars" ∷ decimal (length form.stars) ∷ codes "entries" ∷ decimal (length form.entries) ∷ []

-- an entry of the star: its ends and its time
abbrev pub star_line : NetLists → StarEntry → List (List ℕ)
star_line net e = codes "star" ∷ name_of_transition net e.to ∷ name_of_transition net e.from ∷ decimal e.time ∷ []

-- an entry: its ends, its tokens and its time
abbrev pub entry_line : NetLists → Entry → List (List ℕ)
entry_line net e = codes "entry" ∷ name_of_transition net e.to ∷ name_of_transition net e.from ∷ decimal e.tokens ∷ decimal e.time ∷ []

-- the star entries and then the entries, one line for each
abbrev pub form_lines : NetLists → FormLists → List (List (List ℕ))
form_lines net form = sizes_line form ∷ (map (star_line net) form.stars ++ map (entry_line net) form.entries)

-- each entry leads between two transitions of the net
pub record HasEndsIn (net : NetLists) (form : FormLists) : Type 0 where
  pub stars_to : All (λ e. e.to.index < length net.transitions) form.stars
  pub stars_from : All (λ e. e.from.index < length net.transitions) form.stars
  pub entries_to : All (λ e. e.to.index < length net.transitions) form.entries
  pub entries_from : All (λ e. e.from.index < length net.transitions) form.entries

-- the numbers of a star entry
abbrev pub IsStarKept : StarEntry → Type 0
IsStarKept e = IsWord64 e.time

-- the numbers of an entry
abbrev pub IsEntryKept : Entry → Type 0
IsEntryKept e = IsWord32 e.tokens × IsWord64 e.time

-- the line of a star entry
abbrev pub is_star : List (List ℕ) → Bool
is_star line = stands_at 0 line (codes "star")

-- a star entry
abbrev pub star_in : NetLists → List (List ℕ) → StarEntry
star_in net line = record { to = transition_in net (word 1 line); from = transition_in net (word 2 line); time = number_in (word 3 line) }

-- an entry
abbrev pub entry_in : NetLists → List (List ℕ) → Entry
entry_in net line = record { to = transition_in net (word 1 line); from = transition_in net (word 2 line); tokens = number_in (word 3 line); time = number_in (word 4 line) }

-- a standard form
abbrev pub form_in : NetLists → List (List (List ℕ)) → FormLists
form_in net lines = record { stars = map (star_in net) (those is_star (drop 1 lines)); entries = map (entry_in net) (those (λ line. not (is_star line)) (drop 1 lines)) }
