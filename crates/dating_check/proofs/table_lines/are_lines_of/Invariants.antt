use Rattle.std.proofs.Common.{ℕ, ◌≤◌, map, slice_index_or}
use Rattle.teg_text.specs.WordsOfNames.{name_of_transition, no_transition}
use Rattle.dating_check.specs.ShownTables.{role_told}
use Rattle.dating_check.specs.TableReading.{IsFiringLine, line_words}
use Rattle.dating_check.proofs.table_lines.are_lines_of.Given as goal

abbrev pub invariant-loop-before : goal.invariant-loop-before
invariant-loop-before l = (k : ℕ) → 1 ≤ k → k ≤ l.before
    → IsFiringLine (role_told (slice_index_or l.net.transitions l.index no_transition).role) (name_of_transition l.net (record { index = l.index })) k (line_words (map (λ x. x.now) l.lines) l.numbers l.index k)
