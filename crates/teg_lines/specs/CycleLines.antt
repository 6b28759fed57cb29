-- Cycle times: their lines, what an answer on them meets that is told, and how it is read back.
use Rattle.std.specs.Prelude.{ℕ, Bool, false, ◌+◌, ◌<◌, ◌^◌, ◌≡◌, ◌==◌, ◌&&◌, List, [], ◌∷◌, ◌++◌, All, Option, Some, None, map, flat_map, length}
use Rattle.std.specs.Prelude.{slice_index_or, codes, if◌then◌else◌, ⊤, not, ◌||◌, drop}
use Rattle.std.specs.Int.RustNames.{unsigned_abs}
use Rattle.std.specs.Fmt.{decimal, signed_decimal}
use Rattle.std.specs.List.{range_with_len}
use Rattle.teg_net.specs.declared.answers.Potential.{Potential}
use Rattle.teg_net.specs.declared.entries.PlaceId.{PlaceId}
use Rattle.teg_net.specs.declared.entries.TransitionId.{TransitionId}
use Rattle.teg_net.specs.Circuits.{AreInRange}
use Rattle.teg_net.specs.Nets.{NetLists}
use Rattle.teg_net.specs.Ratios.{Fraction}
use Rattle.teg_text.specs.WordsOfNames.{circuit_line, name_of_transition, transition_in, place_named, ratio_of_word}
use Rattle.teg_text.specs.ValueWords.{ratio_word}
use Rattle.teg_text.specs.WordReading.{line_at, word, stands_at, signed_in}
use Rattle.teg_text.specs.LineBlocks.{those, first_where, blocks_in}

-- what is told of a part: that no circuit lies in it, or its greatest ratio, a circuit and potentials
pub data ToldPart : Type 0 where
  NoCircuitIn : ToldPart
  BestOf : (ratio : Fraction) (circuit : List PlaceId) (potentials : List Potential) → ToldPart

-- the part of each transition, what is told of each part, and the part that is told first
pub record CycleLists : Type 0 where
  pub part_of : List ℕ
  pub parts : List ToldPart
  pub best : Option ℕ

-- what is told of the part of this number
abbrev pub told_part_at : List ToldPart → ℕ → ToldPart
told_part_at parts n = slice_index_or parts n NoCircuitIn

-- the transitions of a part, where those from number k on have these parts
abbrev pub members_from : ℕ → List ℕ → ℕ → List TransitionId
members_from k [] part = []
members_from k (p ∷ ps) part = if p == part then record { index = k } ∷ members_from (k + 1) ps part else members_from (k + 1) ps part

-- a transition of a part without a circuit
abbrev pub member_line : NetLists → TransitionId → List (List ℕ)
member_line net t = codes "member" ∷ name_of_transition net t ∷ []

-- the potential of a transition
abbrev pub potential_line : NetLists → Potential → List (List ℕ)
potential_line net v = codes "potential" ∷ name_of_transition net v.transition ∷ signed_decimal v.value ∷ []

-- the first line of a part with a circuit
abbrev pub ratio_line : ℕ → Fraction → List (List ℕ)
ratio_line n ratio = codes "part" ∷ decimal (n + 1) ∷ codes "ratio" ∷ ratio_word ratio.time ratio.tokens ∷ []

-- the lines of a part, which is numbered from 1 on
abbrev pub part_lines : NetLists → List ℕ → ℕ → ToldPart → List (List (List ℕ))
part_lines net part_of n NoCircuitIn =
    (codes "part" ∷ decimal (n + 1) ∷ codes "no" ∷ codes "circuit" ∷ []) ∷ map (member_line net) (members_from 0 part_of n)
part_lines net part_of n (BestOf ratio circuit potentials) =
    ratio_line n ratio ∷ circuit_line net circuit ∷ map (potential_line net) potentials

-- the ratio and the circuit of a part
abbrev pub best_lines : NetLists → ToldPart → List (List (List ℕ))
best_lines net NoCircuitIn = []
best_lines net (BestOf ratio circuit potentials) =
    (codes "cycle" ∷ codes "time" ∷ ratio_word ratio.time ratio.tokens ∷ []) ∷ circuit_line net circuit ∷ []

-- what is told of the part that is told first
abbrev pub best_of : List ToldPart → Option ℕ → ToldPart
best_of parts None = NoCircuitIn
best_of parts (Some n) = told_part_at parts n

-- the cycle time and a circuit that has it, and then the lines of each part
abbrev pub cycle_lines : NetLists → CycleLists → List (List (List ℕ))
cycle_lines net answer =
    best_lines net (best_of answer.parts answer.best)
    ++ flat_map (λ n. part_lines net answer.part_of n (told_part_at answer.parts n)) (range_with_len 0 (length answer.parts))

-- the circuit that is told of a part, where one is, is in the net
abbrev pub HasPartCircuitIn : NetLists → ToldPart → Type 0
HasPartCircuitIn net NoCircuitIn = ⊤
HasPartCircuitIn net (BestOf ratio circuit potentials) = AreInRange net circuit

-- a potential of a transition of the net
pub record IsPotentialIn (net : NetLists) (v : Potential) : Type 0 where
  pub transition : v.transition.index < length net.transitions
  pub value : unsigned_abs v.value < 2 ^ 128

-- a ratio, a circuit in the net, and a potential for each member in order
pub record IsBestTold (net : NetLists) (members : List TransitionId) (ratio : Fraction) (circuit : List PlaceId) (potentials : List Potential) : Type 0 where
  pub time : ratio.time < 2 ^ 64
  pub tokens : ratio.tokens < 2 ^ 64
  pub circuit_in : AreInRange net circuit
  pub members_are : map (λ v. v.transition) potentials ≡ members
  pub potentials_in : All (IsPotentialIn net) potentials

-- what is told of a part whose members are these
abbrev pub IsPartTold : NetLists → List TransitionId → ToldPart → Type 0
IsPartTold net members NoCircuitIn = ⊤
IsPartTold net members (BestOf ratio circuit potentials) = IsBestTold net members ratio circuit potentials

-- whether the part has this ratio
abbrev pub has_ratio : Fraction → ToldPart → Bool
has_ratio r NoCircuitIn = false
has_ratio r (BestOf ratio circuit potentials) = (ratio.time == r.time) && (ratio.tokens == r.tokens)

-- what is told of a part is a ratio, and no part before it has this ratio
abbrev pub IsFirstOfRatio : List ToldPart → ℕ → ToldPart → Type 0
IsFirstOfRatio parts n NoCircuitIn = ⊥
IsFirstOfRatio parts n (BestOf ratio circuit potentials) = (m : ℕ) → m < n → has_ratio ratio (told_part_at parts m) ≡ false

-- a part that is told first, since no part before it has its ratio
abbrev pub HasFirst : List ToldPart → Option ℕ → Type 0
HasFirst parts None = ⊥
HasFirst parts (Some n) = (n < length parts) × IsFirstOfRatio parts n (told_part_at parts n)

-- a part for each transition of the net, what is told of each part, and the part that is told first
pub record IsCycleTold (net : NetLists) (answer : CycleLists) : Type 0 where
  pub full : length answer.part_of ≡ length net.transitions
  pub part_of_in : All (λ p. p < length answer.parts) answer.part_of
  pub parts : (n : ℕ) → n < length answer.parts → IsPartTold net (members_from 0 answer.part_of n) (told_part_at answer.parts n)
  pub best : HasFirst answer.parts answer.best

-- a potential
abbrev pub potential_in : NetLists → List (List ℕ) → Potential
potential_in net line = record { transition = transition_in net (word 1 line); value = signed_in (word 2 line) }

-- a part, from its block of lines
abbrev pub part_in : NetLists → List (List (List ℕ)) → ToldPart
part_in net block =
    if stands_at 2 (line_at 0 block) (codes "no") then NoCircuitIn
    else BestOf (ratio_of_word (word 3 (line_at 0 block))) (map (place_named net) (drop 1 (line_at 1 block))) (map (potential_in net) (drop 2 block))

-- the members of a part: the lines behind its first or its first two
abbrev pub members_in : NetLists → List (List (List ℕ)) → List TransitionId
members_in net block =
    map (λ line. transition_in net (word 1 line)) (if stands_at 2 (line_at 0 block) (codes "no") then drop 1 block else drop 2 block)

-- whether the transition of this number is among these
abbrev pub is_member : ℕ → List TransitionId → Bool
is_member t [] = false
is_member t (m ∷ ms) = (m.index == t) || is_member t ms

-- the first line of a part or of a round
abbrev pub is_part_line : List (List ℕ) → Bool
is_part_line line = stands_at 0 line (codes "part")

-- the blocks of parts and rounds
abbrev pub told_in : List (List (List ℕ)) → List (List (List (List ℕ)))
told_in lines = (blocks_in is_part_line (drop 2 lines)).blocks

-- whether the block is that of a part
abbrev pub is_part : List (List (List ℕ)) → Bool
is_part block = not (stands_at 2 (line_at 0 block) (codes "round"))

-- the blocks of the parts
abbrev pub parts_in : List (List (List ℕ)) → List (List (List (List ℕ)))
parts_in lines = those is_part (told_in lines)

-- cycle times
abbrev pub cycle_in : NetLists → List (List (List ℕ)) → CycleLists
cycle_in net lines = record {
  part_of = map (λ t. first_where (is_member t) (map (members_in net) (parts_in lines))) (range_with_len 0 (length net.transitions));
  parts = map (part_in net) (parts_in lines);
  best = Some (first_where (has_ratio (ratio_of_word (word 2 (line_at 0 lines)))) (map (part_in net) (parts_in lines)));
}
