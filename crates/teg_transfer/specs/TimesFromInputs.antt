-- The times from the inputs of a net to its outputs (chapter 5).
use Rattle.std.specs.Prelude.{ℕ, Bool, true, false, ◌≤◌, ◌≡◌, List, All, length, map, slice_get}
use Rattle.std.specs.List.{filter, range_with_len}
use Rattle.std.specs.Option.{option_map_or}
use Rattle.teg_settle.specs.settled_laws.SettledForms.{SettledForm, settled_length, row_of, step_of_form}
use Rattle.teg_net.specs.declared.entries.Role.{Role}
use Rattle.teg_net.specs.declared.entries.Role.TheVariants.{Internal, Input, Output}
use Rattle.teg_net.specs.declared.entries.TransitionId.{TransitionId}
use Rattle.teg_net.specs.Nets.{NetLists, IsInput}
use Rattle.teg_report.specs.SettledTexts.{TimesFrom, TimesTo}
use Rattle.teg_settle.specs.walk_times.Transfers.{IsTransferOf, TransferSettlesPast}

-- whether two roles are one
abbrev pub is_same_role : Role → Role → Bool
is_same_role Internal Internal = true
is_same_role Input Input = true
is_same_role Output Output = true
is_same_role _ _ = false

-- whether the transition has this role
abbrev pub has_transition_role : NetLists → Role → TransitionId → Bool
has_transition_role net role t = option_map_or (λ x. is_same_role x.role role) (slice_get net.transitions t.index) false

-- the transition of this number, counted from 0
abbrev pub transition_id : ℕ → TransitionId
transition_id index = record { index = index }

-- the transitions of a role, in order
abbrev pub those_of_role : NetLists → Role → List TransitionId
those_of_role net role = filter (has_transition_role net role) (map transition_id (range_with_len 0 (length net.transitions)))

-- of a settled form what goes to one transition
abbrev pub times_in : SettledForm → TransitionId → TimesTo
times_in f t = record { to = t; dates = row_of f t.index; step = step_of_form f t.index }

-- of a settled form what goes from this input to each output, in order
abbrev pub times_of : NetLists → TransitionId → SettledForm → TimesFrom
times_of net input f = record { from = input; after = f.after; period = f.period; lines = map (times_in f) (those_of_role net Output) }

-- the shortest settled form, over all transitions, of the greatest times of walks from the first firing of the input is within the limit, and
-- of its rows these are those of the outputs
abbrev pub IsTimesFrom : NetLists → ℕ → TimesFrom → Type 0
IsTimesFrom net limit times =
    (f : SettledForm) × IsTransferOf net times.from.index f × (settled_length f ≤ limit) × (times ≡ times_of net times.from f)

-- the times from each input to each output, in the order of the inputs
pub record AreTimesFrom (net : NetLists) (limit : ℕ) (times : List TimesFrom) : Type 0 where
  pub inputs : map (λ from. from.from) times ≡ those_of_role net Input
  pub each : All (IsTimesFrom net limit) times

-- the times from some input have no settled form within the limit
abbrev pub TimesSettlePast : NetLists → ℕ → Type 0
TimesSettlePast net limit = (input : TransitionId) × IsInput net input.index × TransferSettlesPast net input.index limit
