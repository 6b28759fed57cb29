-- Settled forms, those of the dates of a net and those of walks from its inputs to its outputs: their lines, what their numbers keep, and
-- how they are read back.
use Rattle.std.specs.Prelude.{ℕ, ℤ, Bool, true, false, ◌<◌, List, [], ◌∷◌, ◌++◌, All, map, flat_map, length, count_by, codes, ◌≡◌, drop, take, ◌-◌, ◌^◌}
use Rattle.std.specs.Fmt.{decimal, signed_decimal}
use Rattle.std.specs.List.{range_with_len}
use Rattle.dioid.specs.declared.dates.Date.{Date}
use Rattle.settled_forms.specs.settled_laws.SettledForms.{SettledForm, row_of, step_of_form}
use Rattle.teg_net.specs.declared.entries.Role.{Role}
use Rattle.teg_net.specs.declared.entries.Role.TheVariants.{Internal, Input, Output}
use Rattle.teg_net.specs.declared.entries.TransitionId.{TransitionId}
use Rattle.teg_net.specs.Nets.{NetLists}
use Rattle.teg_text.specs.WordsOfNames.{name_of_transition, settled_words, transition_in}
use Rattle.teg_text.specs.ValueWords.{date_word, IsDate}
use Rattle.teg_text.specs.WordReading.{line_at, word, stands_at, number_in, signed_in, date_of_word}
use Rattle.teg_text.specs.LineBlocks.{blocks_in}
use Rattle.std.specs.Int.RustNames.{unsigned_abs}
use Rattle.teg_lines.specs.Widths.{IsWord64}

-- from one input to one output: the greatest times of walks from its first firing, and by how much they go on in a period
pub record TimesTo : Type 0 where
  pub to : TransitionId
  pub dates : List Date
  pub step : ℤ

-- from one input to each output: the greatest times of walks from its first firing, with their number and their period
pub record TimesFrom : Type 0 where
  pub from : TransitionId
  pub after : ℕ
  pub period : ℕ
  pub lines : List TimesTo

-- dates, and the step by which they go on
abbrev pub row_words : List Date → ℤ → List (List ℕ)
row_words dates step = map date_word dates ++ codes "step" ∷ signed_decimal step ∷ []

-- the line of the transition of this number, counted from 0
abbrev pub settled_line : NetLists → SettledForm → ℕ → List (List ℕ)
settled_line net f t = codes "transition" ∷ name_of_transition net (record { index = t }) ∷ row_words (row_of f t) (step_of_form f t)

-- a settled form, with a line for each transition
abbrev pub settled_lines : NetLists → SettledForm → List (List (List ℕ))
settled_lines net f = settled_words f.after f.period ∷ map (settled_line net f) (range_with_len 0 (length net.transitions))

-- the role of outputs
abbrev pub is_output : Role → Bool
is_output Internal = false
is_output Input = false
is_output Output = true

-- how many outputs a net has
abbrev pub output_count : NetLists → ℕ
output_count net = count_by (λ t. is_output t.role) net.transitions

-- the line of an output
abbrev pub to_line : NetLists → TimesTo → List (List ℕ)
to_line net times = codes "to" ∷ name_of_transition net times.to ∷ row_words times.dates times.step

-- the first line of an input
abbrev pub from_line : NetLists → TimesFrom → List (List ℕ)
from_line net times = codes "from" ∷ name_of_transition net times.from ∷ settled_words times.after times.period

-- the lines of an input
abbrev pub from_lines : NetLists → TimesFrom → List (List (List ℕ))
from_lines net times = from_line net times ∷ map (to_line net) times.lines

-- how many inputs and outputs there are
abbrev pub transfer_line : ℕ → ℕ → List (List ℕ)
transfer_line inputs outputs =
    codes "transfer" ∷ codes "of" ∷ decimal inputs ∷ codes "inputs" ∷ codes "to" ∷ decimal outputs ∷ codes "outputs" ∷ []

-- the lines of all inputs
abbrev pub transfer_lines : NetLists → List TimesFrom → List (List (List ℕ))
transfer_lines net inputs = transfer_line (length inputs) (output_count net) ∷ flat_map (from_lines net) inputs

-- the times lead between transitions of the net
pub record AreTimesIn (net : NetLists) (times : TimesFrom) : Type 0 where
  pub from : times.from.index < length net.transitions
  pub lines : All (λ l. l.to.index < length net.transitions) times.lines

-- the numbers of a settled form, and a step for each row
pub record IsSettledKept (f : SettledForm) : Type 0 where
  pub after : IsWord64 f.after
  pub period : IsWord64 f.period
  pub full : length f.steps ≡ length f.rows
  pub dates : All (All IsDate) f.rows
  pub steps : All (λ step. unsigned_abs step < 2 ^ 128) f.steps

-- the numbers of times to an output
pub record AreTimesToKept (times : TimesTo) : Type 0 where
  pub dates : All IsDate times.dates
  pub step : unsigned_abs times.step < 2 ^ 128

-- the numbers of times from an input
pub record AreTimesKept (times : TimesFrom) : Type 0 where
  pub after : IsWord64 times.after
  pub period : IsWord64 times.period
  pub lines : All AreTimesToKept times.lines

-- the dates of a row: behind two words, and before two
abbrev pub row_dates_in : List (List ℕ) → List Date
row_dates_in line = map date_of_word (take (length line - 4) (drop 2 line))

-- the step of a row: its last word
abbrev pub row_step_in : List (List ℕ) → ℤ
row_step_in line = signed_in (word (length line - 1) line)

-- a settled form
abbrev pub settled_in : List (List (List ℕ)) → SettledForm
settled_in lines = record {
  after = number_in (word 2 (line_at 0 lines));
  period = number_in (word 4 (line_at 0 lines));
  rows = map row_dates_in (drop 1 lines);
  steps = map row_step_in (drop 1 lines);
}

-- the first line of an input
abbrev pub is_from : List (List ℕ) → Bool
is_from line = stands_at 0 line (codes "from")

-- the times to an output
abbrev pub times_to_in : NetLists → List (List ℕ) → TimesTo
times_to_in net line = record { to = transition_in net (word 1 line); dates = row_dates_in line; step = row_step_in line }

-- the times from an input, from its block of lines
abbrev pub times_from_in : NetLists → List (List (List ℕ)) → TimesFrom
times_from_in net block = record {
  from = transition_in net (word 1 (line_at 0 block));
  after = number_in (word 4 (line_at 0 block));
  period = number_in (word 6 (line_at 0 block));
  lines = map (times_to_in net) (drop 1 block);
}

-- the times from each input
abbrev pub transfer_in : NetLists → List (List (List ℕ)) → List TimesFrom
transfer_in net lines = map (times_from_in net) (blocks_in is_from (drop 1 lines)).blocks
