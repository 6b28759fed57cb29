-- A firing that comes later than it is due, and a walk that shows it: their lines, and what their numbers keep.
use Rattle.std.specs.Prelude.{ℕ, ◌+◌, ◌<◌, ◌≤◌, ◌==◌, ◌^◌, List, [], ◌∷◌, ◌++◌, All, length, codes, if◌then◌else◌}
use Rattle.std.specs.Fmt.{decimal}
use Rattle.teg_net.specs.declared.entries.TransitionId.{TransitionId}
use Rattle.teg_net.specs.declared.walks.Step.{Step}
use Rattle.teg_net.specs.declared.walks.Step.TheVariants.{By, Next}
use Rattle.teg_net.specs.declared.walks.Walk.{Walk}
use Rattle.teg_net.specs.Circuits.{place_at}
use Rattle.teg_net.specs.Limits.{greatest_firing_number}
use Rattle.teg_net.specs.Nets.{NetLists}
use Rattle.teg_net.specs.Walks.{Walks, numbers_of}
use Rattle.teg_text.specs.WordsOfNames.{name_of_place, name_of_transition}
use Rattle.late_lines.specs.declared.late.LateFiring.{LateFiring}

-- a firing that is later than due, its least date, and a walk that leads there: from when its first tokens are ready, its first
-- firing, and its steps
pub record LateLists : Type 0 where
  pub transition : TransitionId
  pub number : ℕ
  pub due : ℕ
  pub least : ℕ
  pub start : ℕ
  pub from : TransitionId
  pub first : ℕ
  pub steps : List Step

-- that of this firing with this walk
abbrev pub late_by_walk : LateFiring → Walk → LateLists
late_by_walk late walk = record {
  transition = late.transition;
  number = late.number;
  due = late.due;
  least = late.least;
  start = late.start;
  from = walk.start;
  first = walk.number;
  steps = walk.steps.items;
}

-- the transition of the firing to which a step leads
abbrev pub step_to : NetLists → TransitionId → Step → TransitionId
step_to net t (By p) = (place_at net p).to
step_to net t Next = t

-- the number of that firing
abbrev pub step_number : NetLists → ℕ → Step → ℕ
step_number net k (By p) = k + (place_at net p).tokens
step_number net k Next = k + 1

-- a step from a firing, with the firing to which it leads
abbrev pub step_words : NetLists → TransitionId → ℕ → Step → List (List ℕ)
step_words net t k (By p) =
    codes "by" ∷ name_of_place net p ∷ name_of_transition net (step_to net t (By p)) ∷ decimal (step_number net k (By p)) ∷ []
step_words net t k Next = codes "next" ∷ name_of_transition net (step_to net t Next) ∷ decimal (step_number net k Next) ∷ []

-- the steps from a firing on
abbrev pub steps_words : NetLists → TransitionId → ℕ → List Step → List (List ℕ)
steps_words net t k [] = []
steps_words net t k (step ∷ steps) = step_words net t k step ++ steps_words net (step_to net t step) (step_number net k step) steps

-- a walk: its first firing and its steps
abbrev pub path_line : NetLists → TransitionId → ℕ → List Step → List (List ℕ)
path_line net from first steps = codes "path" ∷ name_of_transition net from ∷ decimal first ∷ steps_words net from first steps

-- the line of a start above 0
abbrev pub start_lines : ℕ → List (List (List ℕ))
start_lines start = if start == 0 then [] else (codes "from" ∷ codes "date" ∷ decimal start ∷ []) ∷ []

-- the firing, when it is due, and its least date
abbrev pub late_line : NetLists → TransitionId → ℕ → ℕ → ℕ → List (List ℕ)
late_line net transition number due least =
    codes "late" ∷ name_of_transition net transition ∷ decimal number ∷ codes "due" ∷ decimal due ∷ codes "least" ∷ decimal least ∷ []

-- the lines of the firing and of the walk
abbrev pub late_walk_lines : NetLists → LateLists → List (List (List ℕ))
late_walk_lines net late =
    late_line net late.transition late.number late.due late.least ∷ (start_lines late.start ++ path_line net late.from late.first late.steps ∷ [])

-- steps that follow each other from this firing on, and pass no number past the greatest
pub record IsPathIn (net : NetLists) (from : TransitionId) (first : ℕ) (steps : List Step) : Type 0 where
  pub inside : from.index < length net.transitions
  pub walks : (b k : ℕ) × Walks net from.index first steps b k
  pub numbers : All (λ k. k ≤ greatest_firing_number) (numbers_of net first steps)

-- a transition of the net, and a walk in it
pub record IsLateIn (net : NetLists) (late : LateLists) : Type 0 where
  pub transition : late.transition.index < length net.transitions
  pub path : IsPathIn net late.from late.first late.steps

-- the numbers of a firing that is later than due
pub record AreLateNumbers (late : LateLists) : Type 0 where
  pub number : late.number < 2 ^ 32
  pub due : late.due < 2 ^ 64
  pub least : late.least < 2 ^ 128
  pub start : late.start < 2 ^ 64
  pub first : late.first < 2 ^ 64
