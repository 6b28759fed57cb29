-- Latest dates, and due dates that no inputs can meet: their lines, what their numbers keep, and how they are read back.
use Rattle.std.specs.Prelude.{ℕ, ◌+◌, ◌<◌, ◌≤◌, ◌≡◌, ◌==◌, List, [], ◌∷◌, ◌++◌, All, Option, Some, None, map, flat_map, length, slice_index_or, codes}
use Rattle.std.specs.Prelude.{if◌then◌else◌, ⊤, zero, suc, ◌*◌, ◌/◌, ◌%◌, drop, bytes_eq, ◌^◌}
use Rattle.std.specs.Fmt.{decimal}
use Rattle.std.specs.List.{range_with_len}
use Rattle.teg_jit.specs.declared.answers.LatestDate.{LatestDate}
use Rattle.teg_jit.specs.declared.answers.LatestDate.TheVariants.{Free, At}
use Rattle.teg_jit.specs.declared.answers.Onward.{Onward}
use Rattle.teg_jit.specs.declared.answers.Onward.TheVariants.{Due, By as ByPlace, Next as ToNext}
use Rattle.teg_jit.specs.Plans.{PlanDates, latest_at, KeepsSizes}
use Rattle.teg_net.specs.declared.entries.Role.{Role}
use Rattle.teg_net.specs.declared.entries.Role.TheVariants.{Internal, Input, Output}
use Rattle.teg_net.specs.declared.entries.TransitionId.{TransitionId}
use Rattle.teg_net.specs.declared.walks.Step.{Step}
use Rattle.teg_net.specs.declared.walks.Step.TheVariants.{By, Next}
use Rattle.teg_net.specs.Circuits.{place_at}
use Rattle.teg_net.specs.Limits.{greatest_firing_number}
use Rattle.teg_net.specs.Nets.{NetLists}
use Rattle.teg_net.specs.Walks.{Walks, numbers_of}
use Rattle.teg_text.specs.WordsOfNames.{name_of_place, name_of_transition, no_transition, transition_in, place_named}
use Rattle.teg_text.specs.WordReading.{line_at, word, stands_at, number_in, is_numeral}
use Rattle.teg_lines.specs.Widths.{IsWord32, IsWord64}

-- the first step of a walk by which a latest date is attained
abbrev pub onward_words : NetLists → Onward → List (List ℕ)
onward_words net Due = codes "due" ∷ []
onward_words net (ByPlace place) = codes "by" ∷ name_of_place net place ∷ []
onward_words net ToNext = codes "next" ∷ []

-- a latest date
abbrev pub latest_words : NetLists → LatestDate → List (List ℕ)
latest_words net Free = codes "free" ∷ []
latest_words net (At date onward) = decimal date ∷ onward_words net onward

-- how lines of a transition begin
abbrev pub role_word : Role → List ℕ
role_word Internal = codes "latest"
role_word Input = codes "input"
role_word Output = codes "latest"

-- the line of firing k of the transition of number t, counted from 0
abbrev pub latest_line : NetLists → ℕ → ℕ → LatestDate → List (List ℕ)
latest_line net t k latest =
    role_word (slice_index_or net.transitions t no_transition).role ∷ name_of_transition net (record { index = t }) ∷ decimal k ∷ latest_words net latest

-- the line of the number behind k
abbrev pub planned_line : NetLists → PlanDates → ℕ → ℕ → List (List ℕ)
planned_line net plan t k = latest_line net t (k + 1) (latest_at plan t (k + 1))

-- the lines of a transition, one for each number
abbrev pub planned_lines : NetLists → PlanDates → ℕ → List (List (List ℕ))
planned_lines net plan t = map (planned_line net plan t) (range_with_len 0 plan.numbers)

-- how many numbers there are
abbrev pub numbers_line : ℕ → List (List ℕ)
numbers_line numbers = codes "latest" ∷ codes "inputs" ∷ codes "for" ∷ decimal numbers ∷ codes "firings" ∷ []

-- a plan, with the lines of each transition
abbrev pub plan_lines : NetLists → PlanDates → List (List (List ℕ))
plan_lines net plan = numbers_line plan.numbers ∷ flat_map (planned_lines net plan) (range_with_len 0 (length net.transitions))

-- a place that is named is one of the net
abbrev pub IsOnwardIn : NetLists → Onward → Type 0
IsOnwardIn net Due = ⊤
IsOnwardIn net (ByPlace place) = place.index < length net.places
IsOnwardIn net ToNext = ⊤

-- a latest date by which such a place is named
abbrev pub IsLatestIn : NetLists → LatestDate → Type 0
IsLatestIn net Free = ⊤
IsLatestIn net (At date onward) = IsOnwardIn net onward

-- a plan of the net's transitions, whose places are the net's
pub record IsPlanIn (net : NetLists) (plan : PlanDates) : Type 0 where
  pub width : plan.width ≡ length net.transitions
  pub each : (t k : ℕ) → t < plan.width → 1 ≤ k → k ≤ plan.numbers → IsLatestIn net (latest_at plan t k)

-- a firing that is later than due, its least date, and a walk that leads there: from when its first tokens are ready, its first
-- firing, and its steps
pub record LateLists : Type 0 where
  pub transition : TransitionId
  pub number : ℕ
  pub due : ℕ
  pub least : ℕ
  pub start : ℕ
  pub from : TransitionId
  pub first : ℕ
  pub steps : List Step

-- the transition of the firing to which a step leads
abbrev pub step_to : NetLists → TransitionId → Step → TransitionId
step_to net t (By p) = (place_at net p).to
step_to net t Next = t

-- the number of that firing
abbrev pub step_number : NetLists → ℕ → Step → ℕ
step_number net k (By p) = k + (place_at net p).tokens
step_number net k Next = k + 1

-- a step from a firing, with the firing to which it leads
abbrev pub step_words : NetLists → TransitionId → ℕ → Step → List (List ℕ)
step_words net t k (By p) =
    codes "by" ∷ name_of_place net p ∷ name_of_transition net (step_to net t (By p)) ∷ decimal (step_number net k (By p)) ∷ []
step_words net t k Next = codes "next" ∷ name_of_transition net (step_to net t Next) ∷ decimal (step_number net k Next) ∷ []

-- the steps from a firing on
abbrev pub steps_words : NetLists → TransitionId → ℕ → List Step → List (List ℕ)
steps_words net t k [] = []
steps_words net t k (step ∷ steps) = step_words net t k step ++ steps_words net (step_to net t step) (step_number net k step) steps

-- a walk: its first firing and its steps
abbrev pub path_line : NetLists → TransitionId → ℕ → List Step → List (List ℕ)
path_line net from first steps = codes "path" ∷ name_of_transition net from ∷ decimal first ∷ steps_words net from first steps

-- the line of a start above 0
abbrev pub start_lines : ℕ → List (List (List ℕ))
start_lines start = if start == 0 then [] else (codes "from" ∷ codes "date" ∷ decimal start ∷ []) ∷ []

-- the firing, when it is due, and its least date
abbrev pub late_line : NetLists → TransitionId → ℕ → ℕ → ℕ → List (List ℕ)
late_line net transition number due least =
    codes "late" ∷ name_of_transition net transition ∷ decimal number ∷ codes "due" ∷ decimal due ∷ codes "least" ∷ decimal least ∷ []

-- the lines of a firing that is later than due; nothing is told of want of memory
abbrev pub late_lines : NetLists → Option LateLists → List (List (List ℕ))
late_lines net None = []
late_lines net (Some late) =
    late_line net late.transition late.number late.due late.least ∷ (start_lines late.start ++ path_line net late.from late.first late.steps ∷ [])

-- steps that follow each other from this firing on, and pass no number past the greatest
pub record IsPathIn (net : NetLists) (from : TransitionId) (first : ℕ) (steps : List Step) : Type 0 where
  pub inside : from.index < length net.transitions
  pub walks : (b k : ℕ) × Walks net from.index first steps b k
  pub numbers : All (λ k. k ≤ greatest_firing_number) (numbers_of net first steps)

-- a transition of the net, and a walk in it
pub record IsLateIn (net : NetLists) (late : LateLists) : Type 0 where
  pub transition : late.transition.index < length net.transitions
  pub path : IsPathIn net late.from late.first late.steps

-- a firing is told that is later than due, with a transition of the net and a walk in it
abbrev pub IsLatePlanTold : NetLists → Option LateLists → Type 0
IsLatePlanTold net None = ⊥
IsLatePlanTold net (Some late) = IsLateIn net late

-- the number of a latest date
abbrev pub IsLatestKept : LatestDate → Type 0
IsLatestKept Free = ⊤
IsLatestKept (At date onward) = IsWord64 date

-- the sizes of a plan, and the numbers of its dates
pub record AreLatestKept (plan : PlanDates) : Type 0 where
  pub sizes : KeepsSizes plan
  pub each : (t k : ℕ) → t < plan.width → k < plan.numbers → IsLatestKept (latest_at plan t (k + 1))

-- the numbers of a firing that is later than due
pub record AreLateNumbers (late : LateLists) : Type 0 where
  pub number : IsWord32 late.number
  pub due : IsWord64 late.due
  pub least : late.least < 2 ^ 128
  pub start : IsWord64 late.start
  pub first : IsWord64 late.first

-- the numbers of a firing are told that is later than due; it is not want of memory
abbrev pub IsLateKept : Option LateLists → Type 0
IsLateKept None = ⊥
IsLateKept (Some late) = AreLateNumbers late

-- the first step by which a latest date is attained
abbrev pub onward_in : NetLists → List (List ℕ) → Onward
onward_in net line = if stands_at 4 line (codes "due") then Due else if stands_at 4 line (codes "next") then ToNext else ByPlace (place_named net (word 5 line))

-- a latest date
abbrev pub latest_in_line : NetLists → List (List ℕ) → LatestDate
latest_in_line net line = if is_numeral (word 3 line) then At (number_in (word 3 line)) (onward_in net line) else Free

-- so many numbers of a plan, from the lines of all its firings, transition by transition
abbrev pub plan_in_lines : NetLists → ℕ → List (List (List ℕ)) → PlanDates
plan_in_lines net numbers lines = record {
  width = length net.transitions;
  numbers = numbers;
  dates = map (λ i. latest_in_line net (line_at (i % length net.transitions * numbers + i / length net.transitions) lines)) (range_with_len 0 (numbers * length net.transitions));
}

-- a plan
abbrev pub plan_in : NetLists → List (List (List ℕ)) → PlanDates
plan_in net lines = plan_in_lines net (number_in (word 3 (line_at 0 lines))) (drop 1 lines)

-- the steps of a walk, so many at most
abbrev pub steps_in : NetLists → ℕ → List (List ℕ) → List Step
steps_in net zero words = []
steps_in net (suc n) [] = []
steps_in net (suc n) (first ∷ words) =
    if bytes_eq first (codes "next") then Next ∷ steps_in net n (drop 2 words) else By (place_named net (word 0 words)) ∷ steps_in net n (drop 3 words)

-- the line of a walk, the last one
abbrev pub path_in : List (List (List ℕ)) → List (List ℕ)
path_in lines = if stands_at 0 (line_at 1 lines) (codes "from") then line_at 2 lines else line_at 1 lines

-- a firing that is later than due
abbrev pub late_in : NetLists → List (List (List ℕ)) → LateLists
late_in net lines = record {
  transition = transition_in net (word 1 (line_at 0 lines));
  number = number_in (word 2 (line_at 0 lines));
  due = number_in (word 4 (line_at 0 lines));
  least = number_in (word 6 (line_at 0 lines));
  start = if stands_at 0 (line_at 1 lines) (codes "from") then number_in (word 2 (line_at 1 lines)) else 0;
  from = transition_in net (word 1 (path_in lines));
  first = number_in (word 2 (path_in lines));
  steps = steps_in net (length (drop 3 (path_in lines))) (drop 3 (path_in lines));
}
