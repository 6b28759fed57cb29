-- Working definitions of how the line of one date is read.
use Rattle.std.specs.Prelude.{ℕ, ◌<◌, ◌≡◌, ◌^◌, ◌↔◌, Bool, IsTrue, List, Option, Some, None, length}
use Rattle.std.specs.Fmt.{decimal}
use Rattle.teg_model.specs.dioid.declared.dates.Date.{Date}
use Rattle.teg_model.specs.teg_net.declared.entries.TransitionId.{TransitionId}
use Rattle.teg_model.specs.teg_net.Nets.{NetLists}
use Rattle.teg_model.specs.DateBounds.{IsDateWithin, greatest_least_date}
use Rattle.teg_model.specs.Datings.{IsLeastDating}
use Rattle.teg_text.specs.ValueWords.{date_word}
use Rattle.answer_check.specs.declared.date.ShownDate.{ShownDate}
use Rattle.answer_check.specs.ShownDates.{HasRow, IsFiringText, line_of_firing}

-- a transition, a number, and a word
pub record FiringWords : Type 0 where
  pub transition : TransitionId
  pub number : ℕ
  pub word : List ℕ

-- the word writes the number, which has 32 bits
pub record IsSmallWord (word : List ℕ) (n : ℕ) : Type 0 where
  pub few : n < 2 ^ 32
  pub told : word ≡ decimal n

-- the number of 32 bits that the word writes; none just where it writes none
abbrev pub ReadsSmall : List ℕ → Option ℕ → Type 0
ReadsSmall word (Some n) = IsSmallWord word n
ReadsSmall word None = (n : ℕ) → n < 2 ^ 32 → word ≡ decimal n → ⊥

-- the words are those of the firing
pub record AreFiringWords (net : NetLists) (words : List (List ℕ)) (told : FiringWords) : Type 0 where
  pub transition : told.transition.index < length net.transitions
  pub number : told.number < 2 ^ 32
  pub are : words ≡ line_of_firing net told.transition told.number told.word

-- the firing of which these are the words; none just where they are those of none
abbrev pub ReadsFiringWords : NetLists → List (List ℕ) → Option FiringWords → Type 0
ReadsFiringWords net words (Some told) = AreFiringWords net words told
ReadsFiringWords net words None = (told : FiringWords) → AreFiringWords net words told → ⊥

-- the firing of which the text is the line; none just where it is that of none with a number of 32 bits
abbrev pub ReadsFiring : NetLists → List ℕ → Option FiringWords → Type 0
ReadsFiring net text (Some told) = (told.number < 2 ^ 32) × IsFiringText net text told.transition told.number told.word
ReadsFiring net text None = (t : TransitionId) (k : ℕ) (word : List ℕ) → k < 2 ^ 32 → IsFiringText net text t k word → ⊥

-- the date of a firing that the list has, as the least dating gives it
pub record IsListedDate (net : NetLists) (list : List ℕ) (t k : ℕ) (date : Date) : Type 0 where
  pub row : HasRow net list k
  pub within : IsDateWithin greatest_least_date date
  pub least : (x : ℕ → ℕ → Date) → IsLeastDating net x → date ≡ x t k

-- the date that the list tells; none just where it is not shown, or does not have the firing
abbrev pub ReadsListed : NetLists → List ℕ → ℕ → ℕ → Option Date → Type 0
ReadsListed net list t k (Some date) = IsListedDate net list t k date
ReadsListed net list t k None = HasRow net list k → ⊥

-- whether the word tells this date, where it is one that a least dating may have
abbrev pub TellsDate : List ℕ → Date → Bool → Type 0
TellsDate word date told = IsDateWithin greatest_least_date date → IsTrue told ↔ (word ≡ date_word date)

-- of the firing that the text tells, the date that the list tells, and whether the text tells it; none just where the list has no such firing
abbrev pub ComparesDate : NetLists → List ℕ → List ℕ → Option (ShownDate × Bool) → Type 0
ComparesDate net list text (Some found) =
    (word : List ℕ) × IsFiringText net text found.0.transition found.0.number word × IsListedDate net list found.0.transition.index found.0.number found.0.date
    × (IsTrue found.1 ↔ (word ≡ date_word found.0.date))
ComparesDate net list text None = (t : TransitionId) (k : ℕ) (word : List ℕ) → IsFiringText net text t k word → HasRow net list k → ⊥
