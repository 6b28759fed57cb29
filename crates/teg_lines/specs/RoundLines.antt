-- Rounds of policy iteration, part by part: their lines, what rounds meet that are told, and how they are read back.
use Rattle.std.specs.Prelude.{ℕ, suc, ◌+◌, ◌<◌, ◌≡◌, List, [], ◌∷◌, All, Option, Some, None, map, flat_map, length, slice_index_or, codes, ⊤, Bool, not, ◌==◌, drop, ◌^◌}
use Rattle.std.specs.Fmt.{decimal, signed_decimal}
use Rattle.std.specs.List.{range_with_len}
use Rattle.teg_net.specs.declared.entries.PlaceId.{PlaceId}
use Rattle.teg_net.specs.declared.rounds.Choice.{Choice}
use Rattle.teg_net.specs.Circuits.{AreInRange}
use Rattle.teg_net.specs.Nets.{NetLists}
use Rattle.teg_net.specs.Ratios.{Fraction}
use Rattle.teg_lines.specs.CycleLines.{ToldPart, NoCircuitIn, BestOf, told_in, is_part}
use Rattle.teg_text.specs.WordsOfNames.{circuit_line, name_of_place, name_of_transition, transition_in, place_named, ratio_of_word}
use Rattle.teg_text.specs.ValueWords.{ratio_word}
use Rattle.teg_text.specs.WordReading.{line_at, word, number_in, signed_in}
use Rattle.teg_text.specs.LineBlocks.{those, blocks_in}
use Rattle.std.specs.Int.RustNames.{unsigned_abs}
use Rattle.teg_lines.specs.Widths.{IsWord64}

-- a round: its ratio, its circuit, and for each member the place that enters it and its potential
pub record RoundLists : Type 0 where
  pub ratio : Fraction
  pub circuit : List PlaceId
  pub choices : List Choice

-- what stands past the last round
abbrev pub no_round : RoundLists
no_round = record { ratio = record { time = 0; tokens = 0 }; circuit = []; choices = [] }

-- a part with a circuit: its number, counted from 0, and its rounds
pub record Run : Type 0 where
  pub part : ℕ
  pub rounds : List RoundLists

-- the place and the potential of a member
abbrev pub choice_line : NetLists → Choice → List (List ℕ)
choice_line net c = codes "choice" ∷ name_of_transition net c.transition ∷ name_of_place net c.place ∷ signed_decimal c.value ∷ []

-- the first line of a round; parts and rounds are numbered from 1 on
abbrev pub turn_line : ℕ → ℕ → Fraction → List (List ℕ)
turn_line part k ratio =
    codes "part" ∷ decimal (part + 1) ∷ codes "round" ∷ decimal (k + 1) ∷ codes "ratio" ∷ ratio_word ratio.time ratio.tokens ∷ []

-- the lines of a round
abbrev pub round_lines : NetLists → ℕ → ℕ → RoundLists → List (List (List ℕ))
round_lines net part k r = turn_line part k r.ratio ∷ circuit_line net r.circuit ∷ map (choice_line net) r.choices

-- the lines of the rounds of a part
abbrev pub run_lines : NetLists → Run → List (List (List ℕ))
run_lines net run = flat_map (λ k. round_lines net run.part k (slice_index_or run.rounds k no_round)) (range_with_len 0 (length run.rounds))

-- how many of these parts have a circuit
abbrev pub circuits_in : List ToldPart → ℕ
circuits_in [] = 0
circuits_in (NoCircuitIn ∷ parts) = circuits_in parts
circuits_in (BestOf ratio circuit potentials ∷ parts) = suc (circuits_in parts)

-- the lists of rounds, each with the number of its part: one for each part with a circuit, where those from number n on are these
abbrev pub runs_from : ℕ → List ToldPart → List (List RoundLists) → List Run
runs_from n [] runs = []
runs_from n (NoCircuitIn ∷ parts) runs = runs_from (n + 1) parts runs
runs_from n (BestOf ratio circuit potentials ∷ parts) [] = []
runs_from n (BestOf ratio circuit potentials ∷ parts) (rounds ∷ runs) = record { part = n; rounds = rounds } ∷ runs_from (n + 1) parts runs

-- the lists of rounds that are told, none where none are given
abbrev pub told_runs : List ToldPart → Option (List (List RoundLists)) → List Run
told_runs parts None = []
told_runs parts (Some runs) = runs_from 0 parts runs

-- the lines of rounds, part by part
abbrev pub runs_lines : NetLists → List Run → List (List (List ℕ))
runs_lines net runs = flat_map (run_lines net) runs

-- a choice of a transition and a place of the net
pub record IsChoiceIn (net : NetLists) (c : Choice) : Type 0 where
  pub transition : c.transition.index < length net.transitions
  pub place : c.place.index < length net.places

-- a round whose circuit and choices are in the net
pub record IsRoundIn (net : NetLists) (r : RoundLists) : Type 0 where
  pub circuit : AreInRange net r.circuit
  pub choices : All (IsChoiceIn net) r.choices

-- rounds in the net, of which there is one at least
pub record IsRunIn (net : NetLists) (rounds : List RoundLists) : Type 0 where
  pub some : 0 < length rounds
  pub each : All (IsRoundIn net) rounds

-- a list of rounds for each part with a circuit, in order
pub record AreRunsTold (net : NetLists) (parts : List ToldPart) (runs : List (List RoundLists)) : Type 0 where
  pub full : length runs ≡ circuits_in parts
  pub each : All (IsRunIn net) runs

-- rounds that are told, where they are given
abbrev pub AreRoundsTold : NetLists → List ToldPart → Option (List (List RoundLists)) → Type 0
AreRoundsTold net parts None = ⊤
AreRoundsTold net parts (Some runs) = AreRunsTold net parts runs

-- the potential of a choice
abbrev pub IsChoiceKept : Choice → Type 0
IsChoiceKept c = unsigned_abs c.value < 2 ^ 128

-- the numbers of a round
pub record IsRoundKept (r : RoundLists) : Type 0 where
  pub time : IsWord64 r.ratio.time
  pub tokens : IsWord64 r.ratio.tokens
  pub choices : All IsChoiceKept r.choices

-- the rounds of a part, and how many there are
pub record IsRunKept (rounds : List RoundLists) : Type 0 where
  pub count : IsWord64 (length rounds)
  pub each : All IsRoundKept rounds

-- a choice
abbrev pub choice_in_line : NetLists → List (List ℕ) → Choice
choice_in_line net line = record { transition = transition_in net (word 1 line); place = place_named net (word 2 line); value = signed_in (word 3 line) }

-- a round, from its block of lines
abbrev pub round_in : NetLists → List (List (List ℕ)) → RoundLists
round_in net block = record {
  ratio = ratio_of_word (word 5 (line_at 0 block));
  circuit = map (place_named net) (drop 1 (line_at 1 block));
  choices = map (choice_in_line net) (drop 2 block);
}

-- whether the block is that of a first round
abbrev pub is_first_round : List (List (List ℕ)) → Bool
is_first_round block = number_in (word 3 (line_at 0 block)) == 1

-- the blocks of the rounds, in a list for each part with a circuit
abbrev pub runs_in : List (List (List ℕ)) → List (List (List (List (List ℕ))))
runs_in lines = (blocks_in is_first_round (those (λ block. not (is_part block)) (told_in lines))).blocks

-- the lists of rounds, if there are any
abbrev pub some_runs : List (List RoundLists) → Option (List (List RoundLists))
some_runs [] = None
some_runs (rounds ∷ runs) = Some (rounds ∷ runs)

-- the rounds of policy iteration
abbrev pub rounds_in_lines : NetLists → List (List (List ℕ)) → Option (List (List RoundLists))
rounds_in_lines net lines = some_runs (map (map (round_in net)) (runs_in lines))
