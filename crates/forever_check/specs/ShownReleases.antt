-- What the text of releases without end shows.
use Rattle.std.specs.Prelude.{ℕ, ℤ, ◌+◌, ◌<◌, ◌≤◌, ◌≡◌, ◌∷◌, ◌++◌, [], List, Option, Some, None, All, Any, codes, length, map, slice_index_or, ⊤}
use Rattle.std.specs.Fmt.{decimal}
use Rattle.teg_net.specs.declared.entries.Again.{Again}
use Rattle.teg_net.specs.declared.entries.InputList.{InputList}
use Rattle.teg_net.specs.Nets.{NetLists, IsInput, lists_of}
use Rattle.teg_net.specs.Circuits.{IsLive}
use Rattle.teg_text.specs.Lines.{phrase, written}
use Rattle.teg_text.specs.WordsOfNames.{name_of_transition}
use Rattle.teg_net.specs.Inputs.{list_date}
use Rattle.dioid.specs.declared.dates.Date.{Date}
use Rattle.dioid.specs.Dates.{move}
use Rattle.teg_model.specs.Datings.{as_date, listed_releases}
use Rattle.due_laws.specs.MeetingDueDates.{InputsMeet, AreLatestInputs}
use Rattle.due_laws.specs.LatestDates.{IsLatestDate}
use Rattle.endless_due.specs.declared.row.EndlessRow.{EndlessRow}
use Rattle.endless_due.specs.EndlessRows.{due_on, IsEndlessOf}

-- ---- lines

-- the words of dates that go on: the dates, in how many firings they do, and by how much
abbrev pub going_words : List ℕ → Again → List (List ℕ)
going_words dates a = map decimal dates ++ codes "period" ∷ decimal a.every ∷ codes "step" ∷ decimal a.gap ∷ []

-- the words of dates; of those that end, `free`
abbrev pub list_words : List ℕ → Option Again → List (List ℕ)
list_words dates None = codes "free" ∷ []
list_words dates (Some a) = going_words dates a

-- the line of an input with this list
abbrev pub release_line : NetLists → InputList → List (List ℕ)
release_line net l = codes "input" ∷ name_of_transition net l.transition ∷ list_words l.dates l.again

-- the lines of inputs with these lists
abbrev pub released_lines : NetLists → List InputList → List (List (List ℕ))
released_lines net lists = phrase (codes "latest inputs forever") ∷ map (release_line net) lists

-- ---- releases

-- the net with these input lists
abbrev pub with_lists : NetLists → List InputList → NetLists
with_lists net lists = lists_of net.transitions net.places lists

-- dates that end are none
abbrev pub EndsAtOnce : List ℕ → Option Again → Type 0
EndsAtOnce dates None = length dates ≡ 0
EndsAtOnce dates (Some a) = ⊤

-- each list is of a later transition than the one before
abbrev pub AreInOrder : List InputList → Type 0
AreInOrder lists = (i : ℕ) (d : InputList) → i + 1 < length lists → (slice_index_or lists i d).transition.index < (slice_index_or lists (i + 1) d).transition.index

-- a list for each input, in order; it goes on for ever, or has no date, so that the input never fires
pub record AreReleases (net : NetLists) (lists : List InputList) : Type 0 where
  pub each_input : (t : ℕ) → t < length net.transitions → IsInput net t → Any (λ l. l.transition.index ≡ t) lists
  pub in_order : AreInOrder lists
  pub ends : All (λ l. EndsAtOnce l.dates l.again) lists

-- the net is live and the rows are due dates of it; the whole text tells releases of its inputs, which meet what is due for every firing
pub record IsShownMet (net : NetLists) (rows : List EndlessRow) (text : List ℕ) : Type 0 where
  pub live : IsLive net
  pub due : IsEndlessOf net rows
  pub lists : List InputList
  pub releases : AreReleases net lists
  pub told : text ≡ written (released_lines net lists)
  pub meet : InputsMeet net (due_on rows) (listed_releases (with_lists net lists))

-- the date of firing k by a list
abbrev pub list_release : InputList → ℕ → Date
list_release l k = as_date (list_date l.dates l.again k)

-- past the number the dates of the list go on by some step in so many firings
pub record ListRepeats (l : InputList) (past every : ℕ) : Type 0 where
  pub some : 1 ≤ every
  pub step : ℤ
  pub again : (k : ℕ) → past < k → list_release l (k + every) ≡ move step (list_release l k)

-- dates that go on so do it in no fewer firings, and past no smaller number
abbrev pub IsShortestOf : InputList → Option Again → Type 0
IsShortestOf l None = ⊤
IsShortestOf l (Some a) = (past every : ℕ) → ListRepeats l past every → (a.every ≤ every) × (length l.dates ≤ past + a.every)

-- no shorter list tells the same dates
abbrev pub IsShortestList : InputList → Type 0
IsShortestList l = IsShortestOf l l.again

-- the net is live and the rows are due dates of it; the whole text tells releases of its inputs, which are together the latest inputs that
-- meet what is due for every firing; the date of each firing is its latest, and never only where no walk leads from it to a due one;
-- and no shorter lists tell the same releases
pub record IsShownForever (net : NetLists) (rows : List EndlessRow) (text : List ℕ) : Type 0 where
  pub live : IsLive net
  pub due : IsEndlessOf net rows
  pub lists : List InputList
  pub releases : AreReleases net lists
  pub told : text ≡ written (released_lines net lists)
  pub latest : AreLatestInputs net (due_on rows) (listed_releases (with_lists net lists))
  pub dates : (t k : ℕ) → IsInput net t → 1 ≤ k → IsLatestDate net (due_on rows) t k (listed_releases (with_lists net lists) t k)
  pub shortest : All IsShortestList lists
