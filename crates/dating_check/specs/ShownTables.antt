-- What the table of latest dates shows.
use Rattle.std.specs.Prelude.{ℕ, pos, ◌+◌, ◌-◌, ◌*◌, ◌<◌, ◌≤◌, ◌≡◌, ◌≢◌, ◌∷◌, [], ⊤, Any, List, Option, Some, None, codes, flat_map, length, map, slice_index_or}
use Rattle.std.specs.Fmt.{decimal, signed_decimal}
use Rattle.std.specs.List.{range_with_len}
use Rattle.teg_model.specs.dioid.declared.dates.Date.{Date}
use Rattle.teg_model.specs.dioid.declared.dates.Date.TheVariants.{Early, At, Never}
use Rattle.teg_model.specs.teg_net.declared.entries.Role.{Role}
use Rattle.teg_model.specs.teg_net.declared.entries.Role.TheVariants.{Internal, Input, Output}
use Rattle.teg_model.specs.teg_net.declared.walks.Step.{Step}
use Rattle.teg_model.specs.teg_net.declared.walks.Step.TheVariants.{By, Next}
use Rattle.teg_model.specs.teg_net.Nets.{NetLists}
use Rattle.teg_model.specs.dioid.Dates.{delayed}
use Rattle.teg_model.specs.teg_net.Circuits.{IsLive, from_of, place_at}
use Rattle.due_laws.specs.MeetingDueDates.{AreLatestInputs}
use Rattle.teg_due.specs.declared.rows.DueRow.{DueRow}
use Rattle.teg_text.specs.Lines.{written}
use Rattle.teg_text.specs.WordsOfNames.{name_of_place, name_of_transition, no_transition}
use Rattle.dating_certificates.specs.CheckedRows.{date_in_rows, date_up_to}
use Rattle.latest_certificates.specs.LatestRows.{IsRowOf, ListsDues}
use Rattle.latest_certificates.specs.PlanRows.{ArePlanRows}
use Rattle.dating_check.specs.DueNumbers.{IsGreatestNumber}

-- how lines of a transition begin
abbrev pub role_told : Role → List ℕ
role_told Internal = codes "latest"
role_told Input = codes "input"
role_told Output = codes "latest"

-- how a latest date is attained: by no step, where its firing is due then, or by the first step of a walk
abbrev pub way_words : NetLists → Option Step → List (List ℕ)
way_words net None = codes "due" ∷ []
way_words net (Some (By p)) = codes "by" ∷ name_of_place net p ∷ []
way_words net (Some Next) = codes "next" ∷ []

-- a place that a step names is one of the net
abbrev pub IsWayIn : NetLists → Option Step → Type 0
IsWayIn net None = ⊤
IsWayIn net (Some (By p)) = p.index < length net.places
IsWayIn net (Some Next) = ⊤

-- a latest date and how it is attained; a firing without one is free
abbrev pub latest_date_words : NetLists → Date → Option Step → List (List ℕ)
latest_date_words net Early way = codes "epsilon" ∷ way_words net way
latest_date_words net (At date) way = signed_decimal date ∷ way_words net way
latest_date_words net Never way = codes "free" ∷ []

-- the line of firing k of the transition of number t, counted from 0
abbrev pub firing_line : NetLists → ℕ → ℕ → Date → Option Step → List (List ℕ)
firing_line net t k date way =
    role_told (slice_index_or net.transitions t no_transition).role ∷ name_of_transition net (record { index = t }) ∷ decimal k ∷ latest_date_words net date way

-- the lines of a transition up to a number, by rows of so many dates and ways
abbrev pub firing_lines : NetLists → ℕ → ℕ → List Date → List (Option Step) → ℕ → List (List (List ℕ))
firing_lines net width numbers dates ways t =
    map (λ k. firing_line net t k (date_in_rows width dates t k) (slice_index_or ways ((k - 1) * width + t) None))
    (range_with_len 1 numbers)

-- how many numbers there are, and the lines of each transition
abbrev pub table_told_lines : NetLists → ℕ → ℕ → List Date → List (Option Step) → List (List (List ℕ))
table_told_lines net width numbers dates ways =
    (codes "latest" ∷ codes "inputs" ∷ codes "for" ∷ decimal numbers ∷ codes "firings" ∷ [])
    ∷ flat_map (firing_lines net width numbers dates ways) (range_with_len 0 (length net.transitions))

-- the step of firing k of transition t in rows of this many steps
abbrev pub way_in_rows : ℕ → List (Option Step) → ℕ → ℕ → Option Step
way_in_rows width ways t k = slice_index_or ways ((k - 1) * width + t) None

-- the date of a firing is attained: by its row, which says that it is due then; by the next firing, which comes at the same date;
-- or by a place out of its transition, at whose end the firing that takes the token comes just the holding time later
abbrev pub IsAttainedBy : NetLists → List DueRow → (ℕ → ℕ → Date) → ℕ → ℕ → Option Step → Type 0
IsAttainedBy net rows y t k None = (d : ℕ) × Any (λ r. IsRowOf r t k d) rows × (y t k ≡ At (pos d))
IsAttainedBy net rows y t k (Some Next) = y t (k + 1) ≡ y t k
IsAttainedBy net rows y t k (Some (By p)) =
    (from_of net p ≡ t) × (y (place_at net p).to.index (k + (place_at net p).tokens) ≡ delayed (place_at net p).hold (y t k))

-- the firing is free, or its date is attained by its step
abbrev pub IsAttained : NetLists → List DueRow → ℕ → ℕ → List Date → List (Option Step) → ℕ → ℕ → Type 0
IsAttained net rows numbers width dates ways t k =
    date_up_to numbers width dates t k ≢ Never → IsAttainedBy net rows (date_up_to numbers width dates) t k (way_in_rows width ways t k)

-- so is each firing of the table
abbrev pub AreAttained : NetLists → List DueRow → ℕ → ℕ → List Date → List (Option Step) → Type 0
AreAttained net rows numbers width dates ways = (t k : ℕ) → t < width → 1 ≤ k → k ≤ numbers → IsAttained net rows numbers width dates ways t k

-- the dates are those of a plan: the latest dates of the net, where inputs at 0 meet what is due; at the inputs they are the
-- latest inputs that meet it
pub record IsPlanTold (net : NetLists) (due : ℕ → ℕ → Option ℕ) (numbers : ℕ) (dates : List Date) : Type 0 where
  pub rows : ArePlanRows net due numbers dates
  pub inputs : AreLatestInputs net due (date_up_to numbers (length net.transitions) dates)

-- the whole text is a table of these dates and steps, which are those of a plan for what the rows list
pub record IsTableTold (net : NetLists) (rows : List DueRow) (text : List ℕ) (numbers : ℕ) (dates : List Date) (ways : List (Option Step)) : Type 0 where
  pub told : text ≡ written (table_told_lines net (length net.transitions) numbers dates ways)
  pub steps : AreAttained net rows numbers (length net.transitions) dates ways
  pub plan : (due : ℕ → ℕ → Option ℕ) → ListsDues rows due → IsPlanTold net due numbers dates

-- the net is live, and the text is the table of a plan for what the rows list, up to the greatest number that is due
pub record IsShownTable (net : NetLists) (rows : List DueRow) (text : List ℕ) (numbers : ℕ) : Type 0 where
  pub live : IsLive net
  pub greatest : IsGreatestNumber rows numbers
  pub table : (dates : List Date) × (ways : List (Option Step)) × IsTableTold net rows text numbers dates ways
