-- The dates before which the firings of an input transition cannot happen.
use Rattle.std.specs.Prelude.{ℕ, ◌+◌, ◌-◌, ◌*◌, ◌/◌, ◌<◌, ◌≤◌, ◌≡◌, ◌≢◌, List, Option, Some, None, All, nat_le, ◌==◌, if◌then◌else◌, find, slice_index, length, option_map}
use Rattle.teg_net.specs.declared.entries.Again.{Again}
use Rattle.teg_net.specs.declared.entries.InputList.{InputList}
use Rattle.teg_net.specs.Nets.{NetLists}

-- the date moved by the gap; never stays never
abbrev pub moved_by : ℕ → Option ℕ → Option ℕ
moved_by gap date = option_map (λ d. d + gap) date

-- past a list that ends no firing comes; past one that goes on each date is that of `every` firings before, plus the gap
abbrev pub GoOnBy : ℕ → Option Again → (ℕ → Option ℕ) → Type 0
GoOnBy long None u = (k : ℕ) → long < k → u k ≡ None
GoOnBy long (Some a) u = (k : ℕ) → long < k → u k ≡ moved_by a.gap (u (k - a.every))

-- u gives each firing its date by the list: the k-th date for firing k, and past the list as it goes on
pub record IsInputDates (l : InputList) (u : ℕ → Option ℕ) : Type 0 where
  pub listed : (k : ℕ) → 1 ≤ k → k ≤ length l.dates → u k ≡ Some (slice_index l.dates (k - 1))
  pub past : GoOnBy (length l.dates) l.again u

-- the date of firing k by the list: dates by the list exist, and all such dates give firing k this one
pub record IsListDate (l : InputList) (k : ℕ) (date : Option ℕ) : Type 0 where
  pub some : (u : ℕ → Option ℕ) × IsInputDates l u
  pub each : (u : ℕ → Option ℕ) → IsInputDates l u → u k ≡ date

-- u gives each firing of the transition its date: by its list, and 0 where it has none; `None` stands for never
pub record AreInputDates (net : NetLists) (t : ℕ) (u : ℕ → Option ℕ) : Type 0 where
  pub by_list : All (λ l. l.transition.index ≡ t → IsInputDates l u) net.inputs
  pub no_list : All (λ l. l.transition.index ≢ t) net.inputs → (k : ℕ) → u k ≡ Some 0

-- the date of firing k of the transition: dates by the lists exist, and all such dates give firing k this one
pub record IsInputDate (net : NetLists) (t k : ℕ) (date : Option ℕ) : Type 0 where
  pub some : (u : ℕ → Option ℕ) × AreInputDates net t u
  pub each : (u : ℕ → Option ℕ) → AreInputDates net t u → u k ≡ date

-- how many times `every` firings lead from firing k back into a list of `long` dates
abbrev pub laps_past : ℕ → ℕ → ℕ → ℕ
laps_past long every k = (k - long - 1) / every + 1

-- the date of firing k past the end of the list
abbrev pub list_date_past : List ℕ → Option Again → ℕ → Option ℕ
list_date_past dates None k = None
list_date_past dates (Some a) k =
    let rounds = laps_past (length dates) a.every k in
    Some (slice_index dates (k - rounds * a.every - 1) + rounds * a.gap)

-- the date of firing k by a list
abbrev pub list_date : List ℕ → Option Again → ℕ → Option ℕ
list_date dates again k =
    if nat_le k (length dates) then Some (slice_index dates (k - 1)) else list_date_past dates again k

-- the date of firing k of an input that may have a list
abbrev pub date_by_list : Option InputList → ℕ → Option ℕ
date_by_list None k = Some 0
date_by_list (Some l) k = list_date l.dates l.again k

-- the list of the transition, if it has one
abbrev pub list_of_input : NetLists → ℕ → Option InputList
list_of_input net t = find (λ l. l.transition.index == t) net.inputs

-- the date of firing k of an input transition; `None` where it never fires
abbrev pub input_date : NetLists → ℕ → ℕ → Option ℕ
input_date net t k = date_by_list (list_of_input net t) k
