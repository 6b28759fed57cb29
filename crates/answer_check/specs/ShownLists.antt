-- What the text of a list of dates shows.
use Rattle.std.specs.Prelude.{ℕ, ◌<◌, ◌≤◌, ◌≡◌, ◌^◌, true, ◌∷◌, [], List, Option, Some, None, codes, length, map}
use Rattle.std.specs.Fmt.{decimal}
use Rattle.std.specs.List.{range_with_len}
use Rattle.teg_model.specs.dioid.declared.dates.Date.{Date}
use Rattle.teg_model.specs.teg_net.Nets.{NetLists}
use Rattle.teg_model.specs.teg_net.Circuits.{IsLive}
use Rattle.teg_model.specs.Datings.{IsLeastDating}
use Rattle.teg_text.specs.Lines.{is_word, written}
use Rattle.dating_certificates.specs.CheckedRows.{AreFirstRows, AreRowsOf, date_in_rows}
use Rattle.teg_text.specs.ValueWords.{date_word}

-- of how many numbers dates are told
abbrev pub count_line : ℕ → List (List ℕ)
count_line count = codes "dates" ∷ codes "of" ∷ decimal count ∷ codes "firings" ∷ []

-- the names of the transitions
abbrev pub all_names_line : NetLists → List (List ℕ)
all_names_line net = codes "transition" ∷ map (λ t. t.name) net.transitions

-- the number k, and a word for the firing of that number of each of so many transitions
abbrev pub words_line : ℕ → (ℕ → ℕ → List ℕ) → ℕ → List (List ℕ)
words_line width words k = decimal k ∷ map (λ t. words t k) (range_with_len 0 width)

-- such words for the firings of the numbers 1 to count, one line for each number
abbrev pub lines_of_words : NetLists → (ℕ → ℕ → List ℕ) → ℕ → List (List (List ℕ))
lines_of_words net words count = count_line count ∷ all_names_line net ∷ map (words_line (length net.transitions) words) (range_with_len 1 count)

-- the number k, and the dates that x gives to the firings of that number of so many transitions
abbrev pub row_line : ℕ → (ℕ → ℕ → Date) → ℕ → List (List ℕ)
row_line width x k = words_line width (λ t k. date_word (x t k)) k

-- the dates that x gives to the firings of the numbers 1 to count, one line for each number
abbrev pub lines_of_dating : NetLists → (ℕ → ℕ → Date) → ℕ → List (List (List ℕ))
lines_of_dating net x count = lines_of_words net (λ t k. date_word (x t k)) count

-- the whole text is that of the dates which the least dating gives to the firings up to this number
abbrev pub TellsLeastDates : NetLists → List ℕ → ℕ → Type 0
TellsLeastDates net text count = (x : ℕ → ℕ → Date) × IsLeastDating net x × (text ≡ written (lines_of_dating net x count))

-- the net is live, and the text tells the dates of its least dating up to this number
pub record IsShownList (net : NetLists) (text : List ℕ) (count : ℕ) : Type 0 where
  pub live : IsLive net
  pub told : TellsLeastDates net text count

-- the number up to which the text is shown to tell dates; none just where there is none of 32 bits
abbrev pub ShowsList : NetLists → List ℕ → Option ℕ → Type 0
ShowsList net text (Some count) = IsShownList net text count
ShowsList net text None = (count : ℕ) → count < 2 ^ 32 → IsShownList net text count → ⊥

-- the net is live, and the whole text is that of these rows of dates, which are not the first of its least dating
pub record IsOtherList (net : NetLists) (count : ℕ) (dates : List Date) (text : List ℕ) : Type 0 where
  pub live : IsLive net
  pub rows : AreRowsOf net dates count
  pub told : text ≡ written (lines_of_dating net (date_in_rows (length net.transitions) dates) count)
  pub other : AreFirstRows net dates → ⊥

-- the whole text is a list up to this number, with some word in the place of each date
pub record IsListText (net : NetLists) (text : List ℕ) (count : ℕ) (words : ℕ → ℕ → List ℕ) : Type 0 where
  pub few : count < 2 ^ 32
  pub are : (t k : ℕ) → t < length net.transitions → 1 ≤ k → k ≤ count → is_word (words t k) ≡ true
  pub told : text ≡ written (lines_of_words net words count)

-- the words of the row of this number are the dates of the least dating
abbrev pub IsRightRow : NetLists → (ℕ → ℕ → List ℕ) → ℕ → Type 0
IsRightRow net words k = (x : ℕ → ℕ → Date) → IsLeastDating net x → (t : ℕ) → t < length net.transitions → words t k ≡ date_word (x t k)

-- of the rows up to a number, this is the first that is not right
pub record IsFirstWrongRow (net : NetLists) (words : ℕ → ℕ → List ℕ) (count row : ℕ) : Type 0 where
  pub some : 1 ≤ row
  pub within : row ≤ count
  pub before : (k : ℕ) → 1 ≤ k → k < row → IsRightRow net words k
  pub wrong : IsRightRow net words row → ⊥

-- the net is live, and the text is a list of which this row is the first that is not right
pub record IsRefutedList (net : NetLists) (text : List ℕ) (row : ℕ) : Type 0 where
  pub live : IsLive net
  pub list : (count : ℕ) × (words : ℕ → ℕ → List ℕ) × IsListText net text count words × IsFirstWrongRow net words count row

-- if the net is live and the text is a list, it is shown
abbrev pub IsShownIfList : NetLists → List ℕ → Type 0
IsShownIfList net text = IsLive net → (count : ℕ) (words : ℕ → ℕ → List ℕ) → IsListText net text count words → IsShownList net text count

-- the row that refutes the text; none just where the net is not live, or the text is no list or is shown
abbrev pub RefutesList : NetLists → List ℕ → Option ℕ → Type 0
RefutesList net text (Some row) = IsRefutedList net text row
RefutesList net text None = IsShownIfList net text
