-- Working definitions of what the search for the releases of inputs goes by.
use Rattle.std.specs.Prelude.{ℕ, ◌≡◌, ◌≤◌, List}
use Rattle.teg_check.specs.Ranks.{IsRanking}
use Rattle.teg_net.specs.Circuits.{IsLive}
use Rattle.teg_net.specs.declared.entries.PlaceId.{PlaceId}
use Rattle.teg_net.specs.declared.entries.TransitionId.{TransitionId}
use Rattle.teg_net.specs.Nets.{NetLists, IsNet, IsInput, without_inputs}
use Rattle.forever_laws.specs.settled_laws.SettledForms.{SettledForm, settled_length}
use Rattle.teg_lags.specs.Lags.{AreLeaving}
use Rattle.teg_settle.specs.walk_times.Transfers.{IsTransferOf}
use Rattle.forever_laws.specs.due_laws.MeetingDueDates.{InputsMeet, inputs_at_zero}
use Rattle.endless_due.specs.declared.row.EndlessRow.{EndlessRow}
use Rattle.endless_due.specs.EndlessRows.{IsEndlessOf, IsEndlessRow, due_on}
use Rattle.teg_forever.specs.LatestReleases.{longest_form}

-- a live net with its ranks, and endless due dates
pub record AreRanked (net : NetLists) (ranks : List ℕ) (rows : List EndlessRow) : Type 0 where
  pub rules : IsNet net
  pub stands : IsRanking net ranks
  pub is_live : IsLive net
  pub ends : IsEndlessOf net rows

-- with the places that leave each transition
pub record AreDue (net : NetLists) (ranks : List ℕ) (rows : List EndlessRow) (leaving : List (List PlaceId)) : Type 0 where
  pub ranked : AreRanked net ranks rows
  pub lists : AreLeaving net leaving

-- an input of a live net with endless due dates, and the settled form of its walk times, which is not too long
pub record IsAsked (net : NetLists) (f : SettledForm) (u : ℕ) (rows : List EndlessRow) : Type 0 where
  pub rules : IsNet net
  pub is_live : IsLive net
  pub input : IsInput net u
  pub transfer : IsTransferOf net u f
  pub short : settled_length f ≤ longest_form
  pub ends : IsEndlessOf net rows

-- ---- each with what stands with it, as one value

-- a net, its ranks, and endless due dates
pub record RankedRows : Type 0 where
  pub net : NetLists
  pub ranks : List ℕ
  pub rows : List EndlessRow

-- with these parts
abbrev pub ranked_rows : NetLists → List ℕ → List EndlessRow → RankedRows
ranked_rows net ranks rows = record { net = net; ranks = ranks; rows = rows }

-- the net is live, with its ranks, and the due dates are some of it
abbrev pub AreRankedRows : RankedRows → Type 0
AreRankedRows a = AreRanked a.net a.ranks a.rows

-- inputs at 0 meet the due dates
abbrev pub AreMetAtZero : RankedRows → Type 0
AreMetAtZero a = InputsMeet a.net (due_on a.rows) inputs_at_zero

-- a net, the form of the walk times of an input, the input, and endless due dates
pub record InputAsked : Type 0 where
  pub net : NetLists
  pub settled : SettledForm
  pub input : TransitionId
  pub rows : List EndlessRow

-- with these parts
abbrev pub input_asked : NetLists → SettledForm → TransitionId → List EndlessRow → InputAsked
input_asked net f u rows = record { net = net; settled = f; input = u; rows = rows }

-- the input is one of the net, which is live, and the form is that of its walk times, and not too long
abbrev pub IsAskedWith : InputAsked → Type 0
IsAskedWith a = IsAsked a.net a.settled a.input.index a.rows

-- ---- the net without its inputs

-- a live net and a row of endless due dates of it
pub record IsLiveRow (net : NetLists) (row : EndlessRow) : Type 0 where
  pub rules : IsNet net
  pub is_live : IsLive net
  pub ends : IsEndlessRow net row

-- with the net without its inputs, which is live too, and its ranks
pub record IsPlainRow (net plain : NetLists) (ranks : List ℕ) (row : EndlessRow) : Type 0 where
  pub live : IsLiveRow net row
  pub plain_is : plain ≡ without_inputs net
  pub plain_live : IsLive plain
  pub stands : IsRanking plain ranks

-- a net, and a row of endless due dates
pub record RowOfNet : Type 0 where
  pub net : NetLists
  pub row : EndlessRow

-- with these parts
abbrev pub row_of_net : NetLists → EndlessRow → RowOfNet
row_of_net net row = record { net = net; row = row }

-- the net is live, and the row is one of it
abbrev pub IsRowOfLive : RowOfNet → Type 0
IsRowOfLive a = IsLiveRow a.net a.row
