-- Cycle times are read back from their lines.
use Rattle.std.proofs.Common.{◌≡◌, ℕ, ◌∙◌, ◌++◌, List, All, IfSome, Option, Some, None, append_assoc, length, refl, subst, sym}
use Rattle.std.specs.List.{flat_map, range_with_len}
use Rattle.teg_net.specs.Nets.{NetLists, IsNet}
use Rattle.teg_lines.specs.CycleLines.{CycleLists, HasFirst, IsCycleTold, IsFirstOfRatio, ToldPart, NoCircuitIn, BestOf}
use Rattle.teg_lines.specs.CycleLines.{best_lines, best_of, cycle_in, cycle_lines, part_lines, told_part_at}
use Rattle.teg_lines.specs.RoundLines.{AreRoundsTold, IsRunKept, RoundLists, rounds_in_lines, runs_lines, told_runs}
use Rattle.teg_lines.proofs.CyclesRead.{times_read}
use Rattle.teg_report.specs.Answering.{answer_of}
use Rattle.teg_report.specs.AnswerValues.{Cycle}
use Rattle.teg_report.proofs.IsRead.{IsRead}

-- the first words of lines that begin with these tell that they are cycle times
begins : (net : NetLists) (parts : List ToldPart) (n : ℕ) (part : ToldPart) (rest : List (List (List ℕ))) → IsFirstOfRatio parts n part →
    answer_of net (best_lines net part ++ rest) ≡ Cycle (cycle_in net (best_lines net part ++ rest)) (rounds_in_lines net (best_lines net part ++ rest))
begins net parts n NoCircuitIn rest first = absurd first
begins net parts n (BestOf ratio circuit potentials) rest first = refl

best_begins : (net : NetLists) (parts : List ToldPart) (best : Option ℕ) (rest : List (List (List ℕ))) → HasFirst parts best →
    answer_of net (best_lines net (best_of parts best) ++ rest)
    ≡ Cycle (cycle_in net (best_lines net (best_of parts best) ++ rest)) (rounds_in_lines net (best_lines net (best_of parts best) ++ rest))
best_begins net parts None rest h = absurd h
best_begins net parts (Some n) rest h = begins net parts n (told_part_at parts n) rest h.1

pub cycle_read : (answer : CycleLists) (rounds : Option (List (List RoundLists))) → IfSome rounds (λ runs. All IsRunKept runs) → (net : NetLists) → IsNet net →
    IsCycleTold net answer × AreRoundsTold net answer.parts rounds → IsRead net (cycle_lines net answer ++ runs_lines net (told_runs answer.parts rounds)) (Cycle answer rounds)
cycle_read answer rounds kept net rules h =
    let read = times_read net answer rounds rules h.0 h.1 kept in
    let head = best_lines net (best_of answer.parts answer.best) in
    let blocks = flat_map (λ n. part_lines net answer.part_of n (told_part_at answer.parts n)) (range_with_len 0 (length answer.parts)) in
    let runs = runs_lines net (told_runs answer.parts rounds) in
    let told : answer_of net ((head ++ blocks) ++ runs) ≡ Cycle (cycle_in net ((head ++ blocks) ++ runs)) (rounds_in_lines net ((head ++ blocks) ++ runs)) =
    subst (λ (ls : List (List (List ℕ))). answer_of net ls ≡ Cycle (cycle_in net ls) (rounds_in_lines net ls)) (sym (append_assoc head blocks runs))
    (best_begins net answer.parts answer.best (blocks ++ runs) h.0.best) in
    record { words = read.words; back = told ∙ (λ i. Cycle (read.cycle i) (read.runs i)) }
