-- What the line of one date shows.
use Rattle.std.specs.Prelude.{ℕ, ◌<◌, ◌≤◌, ◌≡◌, ◌^◌, true, ◌∷◌, [], List, Option, Some, None, codes, length}
use Rattle.std.specs.Fmt.{decimal}
use Rattle.answer_check.specs.declared.date.ShownDate.{ShownDate}
use Rattle.teg_model.specs.dioid.declared.dates.Date.{Date}
use Rattle.teg_model.specs.teg_net.declared.entries.TransitionId.{TransitionId}
use Rattle.teg_model.specs.teg_net.Nets.{NetLists}
use Rattle.teg_model.specs.teg_net.Circuits.{IsLive}
use Rattle.teg_model.specs.Datings.{IsLeastDating}
use Rattle.teg_text.specs.Lines.{is_word, written}
use Rattle.teg_text.specs.ValueWords.{date_word}
use Rattle.teg_text.specs.WordsOfNames.{name_of_transition}
use Rattle.answer_check.specs.ShownLists.{IsShownList}

-- the line of the firing of this number of the transition, with a word for its date
abbrev pub line_of_firing : NetLists → TransitionId → ℕ → List ℕ → List (List ℕ)
line_of_firing net t k word = codes "date" ∷ name_of_transition net t ∷ decimal k ∷ word ∷ []

-- the date of the firing of this number of the transition
abbrev pub line_of_date : NetLists → TransitionId → ℕ → Date → List (List ℕ)
line_of_date net t k date = line_of_firing net t k (date_word date)

-- the net is live; the whole text is the line of this firing, whose number has 32 bits, with this date, which the least dating gives to it
pub record IsShownDate (net : NetLists) (text : List ℕ) (shown : ShownDate) : Type 0 where
  pub live : IsLive net
  pub transition : shown.transition.index < length net.transitions
  pub number : 1 ≤ shown.number
  pub small : shown.number < 2 ^ 32
  pub least : (x : ℕ → ℕ → Date) → IsLeastDating net x → shown.date ≡ x shown.transition.index shown.number
  pub told : text ≡ written (line_of_date net shown.transition shown.number shown.date ∷ [])

-- the text is shown to be a list of the least dates up to this number, or to one past it
abbrev pub HasRow : NetLists → List ℕ → ℕ → Type 0
HasRow net list k = (count : ℕ) × (count < 2 ^ 32) × (1 ≤ k) × (k ≤ count) × IsShownList net list count

-- the firing and the date that are shown, of those that the list has; none just where the text tells none of them with its date
abbrev pub ShowsDate : NetLists → List ℕ → List ℕ → Option ShownDate → Type 0
ShowsDate net list text (Some shown) = HasRow net list shown.number × IsShownDate net text shown
ShowsDate net list text None = (shown : ShownDate) → HasRow net list shown.number → IsShownDate net text shown → ⊥

-- the whole text is the line of a firing of some transition of the net, with some word for its date
pub record IsFiringText (net : NetLists) (text : List ℕ) (t : TransitionId) (k : ℕ) (word : List ℕ) : Type 0 where
  pub transition : t.index < length net.transitions
  pub plain : is_word word ≡ true
  pub told : text ≡ written (line_of_firing net t k word ∷ [])

-- the text tells, of a firing that the list has, another date than the least dating gives to it
abbrev pub IsOtherDate : NetLists → List ℕ → List ℕ → Type 0
IsOtherDate net list text = (t : TransitionId) × (k : ℕ) × (word : List ℕ) × HasRow net list k × IsFiringText net text t k word
    × ((x : ℕ → ℕ → Date) → IsLeastDating net x → word ≡ date_word (x t.index k) → ⊥)
