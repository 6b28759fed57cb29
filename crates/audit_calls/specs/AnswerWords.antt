-- What an answer is, by its first words and by what it was asked with.
use Rattle.std.specs.Prelude.{ℕ, Bool, ◌==◌, ◌&&◌, ◌-◌, List, [], Option, Some, None, bytes_eq, codes, length, slice_get, slice_index_or, if◌then◌else◌}
use Rattle.std.specs.List.{slice_split}
use Rattle.std.specs.Str.Lines.{lines}
use Rattle.audit_calls.specs.declared.kinds.Alone.TheVariants.{Live, Deadlock, Listed, NoCircuit, Slack, Cycle, Size}
use Rattle.audit_calls.specs.declared.kinds.Searched.TheVariants.{Rounds, Settled, Bound}
use Rattle.audit_calls.specs.declared.kinds.Kind.{Kind}
use Rattle.audit_calls.specs.declared.kinds.Kind.TheVariants.{OfNet, OfSearch, Plan, Releases, LateRow, LateOrder, OneDate, Kept, Recovered}
use Rattle.audit_calls.specs.declared.question.Beside.{Beside}
use Rattle.audit_calls.specs.declared.question.Beside.TheVariants.{Nothing, File, Timetable}

-- a text, or an empty one
abbrev pub text_or_empty : Option (List ℕ) → List ℕ
text_or_empty None = []
text_or_empty (Some text) = text

-- the word of this number in a line, counted from 0, where a blank ends each; an empty one where there are fewer
abbrev pub word_in : List ℕ → ℕ → List ℕ
word_in line i = text_or_empty (slice_get (slice_split (λ b. b == 32) line) i)

-- the answer tells a circuit without tokens, by its first two words
abbrev pub is_deadlock_told : List ℕ → List ℕ → Bool
is_deadlock_told first second = bytes_eq first (codes "refused:") && bytes_eq second (codes "token-free")

-- an answer that begins with `no`, by its second word
abbrev pub none_told : List ℕ → Option Kind
none_told second =
    if bytes_eq second (codes "circuit") then Some (OfNet NoCircuit)
    else (if bytes_eq second (codes "bound:") then Some (OfSearch Bound)
    else None)

-- cycle times, by the first word of the last line: with the rounds or without
abbrev pub times_told : List ℕ → Kind
times_told last = if bytes_eq last (codes "choice") then OfSearch Rounds else OfNet Cycle

-- an answer that begins with `cycle`, by the first words of its second line and of its last one
abbrev pub pace_told : (below last : List ℕ) → Kind
pace_told below last = if bytes_eq below (codes "place") then OfNet Slack else times_told last

-- an answer that was asked with the net alone, by its first two words and the first words of its second line and of its last one
abbrev pub told_alone : (first second below last : List ℕ) → Option Kind
told_alone first second below last =
    if bytes_eq first (codes "live") then Some (OfNet Live)
    else (if bytes_eq first (codes "dates") then Some (OfNet Listed)
    else (if bytes_eq first (codes "no") then none_told second
    else (if bytes_eq first (codes "cycle") then Some (pace_told below last)
    else (if bytes_eq first (codes "settled") then Some (OfSearch Settled)
    else (if bytes_eq first (codes "size") then Some (OfNet Size)
    else (if bytes_eq first (codes "bound") then Some (OfSearch Bound)
    else None))))))

-- an answer of latest dates, by its first line: releases without end, or a table
abbrev pub plan_told : List ℕ → Kind
plan_told line = if bytes_eq line (codes "latest inputs forever") then Releases else Plan

-- an answer of a late firing, by the first word of its second line: one with a path, or with a date from which it leads, as `jit` tells
-- it; or one of a line alone, as `forever` does
abbrev pub late_told : List ℕ → Option Kind
late_told below =
    if bytes_eq below (codes "path") then Some LateRow
    else (if bytes_eq below (codes "from") then Some LateRow
    else (if bytes_eq below [] then Some LateOrder
    else None))

-- an answer that was asked with a file, by its first line, the first word of it and that of the second: latest dates, a late row, or one
-- date
abbrev pub told_with_file : (line first below : List ℕ) → Option Kind
told_with_file line first below =
    if bytes_eq first (codes "latest") then Some (plan_told line)
    else (if bytes_eq first (codes "late") then late_told below
    else (if bytes_eq first (codes "date") then Some OneDate
    else None))

-- an answer that was asked with a timetable and begins with `settled`, by the first word of its second line: delays that are kept, or
-- that die out
abbrev pub delays_told : List ℕ → Option Kind
delays_told below =
    if bytes_eq below (codes "kept") then Some Kept
    else (if bytes_eq below (codes "recovered") then Some Recovered
    else None)

-- an answer that was asked with a timetable
abbrev pub told_with_table : (first below : List ℕ) → Option Kind
told_with_table first below = if bytes_eq first (codes "settled") then delays_told below else None

-- an answer that tells no circuit without tokens, by what it was asked with
abbrev pub told_beside : Beside → (line first second below last : List ℕ) → Option Kind
told_beside Nothing line first second below last = told_alone first second below last
told_beside (File name) line first second below last = told_with_file line first below
told_beside (Timetable period name) line first second below last = told_with_table first below

-- what an answer is; none where no checker reads it
abbrev pub kind_told : Beside → (line first second below last : List ℕ) → Option Kind
kind_told beside line first second below last =
    if is_deadlock_told first second then Some (OfNet Deadlock) else told_beside beside line first second below last

-- what an answer of these lines is
abbrev pub kind_of_lines : Beside → List (List ℕ) → Option Kind
kind_of_lines beside ls =
    kind_told beside (slice_index_or ls 0 []) (word_in (slice_index_or ls 0 []) 0) (word_in (slice_index_or ls 0 []) 1) (word_in (slice_index_or ls 1 []) 0)
    (word_in (slice_index_or ls (length ls - 1) []) 0)

-- what an answer of this text is
abbrev pub kind_of_text : Beside → List ℕ → Option Kind
kind_of_text beside text = kind_of_lines beside (lines text)
