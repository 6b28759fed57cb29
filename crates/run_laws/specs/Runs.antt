-- Runs of the token game: lists of firings, each a transition with a date, and which of them are legal.
use Rattle.std.specs.Prelude.{ℕ, ◌+◌, ◌-◌, ◌<◌, ◌≤◌, ◌≡◌, ◌==◌, nat_lt, if◌then◌else◌, List, [], ◌∷◌, length, take, Option, Some, None, option_map, slice_get, slice_index_or, All, ⊤}
use Rattle.teg_net.specs.declared.entries.Place.{Place}
use Rattle.teg_net.specs.Nets.{NetLists, IsInput}
use Rattle.teg_net.specs.Inputs.{input_date}
use Rattle.teg_net.specs.ReadyDates.{ready_date}
use Rattle.run_laws.specs.declared.fired.Fired.{Fired}

-- the dates of the firings of transition t, in order
abbrev pub dates_of_transition : List Fired → ℕ → List ℕ
dates_of_transition [] t = []
dates_of_transition (f ∷ run) t = if f.transition.index == t then f.date ∷ dates_of_transition run t else dates_of_transition run t

-- the number that the next firing of transition t has
abbrev pub next_number : List Fired → ℕ → ℕ
next_number run t = length (dates_of_transition run t) + 1

-- the date of firing k of transition t; none where it is missing
abbrev pub firing_date : List Fired → ℕ → ℕ → Option ℕ
firing_date run t k = slice_get (dates_of_transition run t) (k - 1)

-- the date from which the token is there that the place has for firing k of its downstream transition: an
-- initial token is there from its ready date on, another from the firing that brings it and its hold on;
-- none where that firing is missing
abbrev pub token_date : List Fired → Place → ℕ → Option ℕ
token_date run p k =
    if nat_lt p.tokens k then option_map (λ d. d + p.hold) (firing_date run p.from.index (k - p.tokens)) else Some (ready_date p k)

-- there is a date, and it is at most t
abbrev pub IsThereBy : ℕ → Option ℕ → Type 0
IsThereBy t None = ⊥
IsThereBy t (Some d) = d ≤ t

-- each place into transition t has its token for firing k by the date
abbrev pub HasTokensBy : NetLists → List Fired → ℕ → ℕ → ℕ → Type 0
HasTokensBy net run t k date = All (λ p. p.to.index ≡ t → IsThereBy date (token_date run p k)) net.places

-- an input has its date for firing k by the date; no other transition waits for one
abbrev pub IsReleasedBy : NetLists → ℕ → ℕ → ℕ → Type 0
IsReleasedBy net t k date = IsInput net t → IsThereBy date (input_date net t k)

-- the date of the last firing
abbrev pub last_date : List Fired → Option ℕ
last_date run = option_map (λ f. f.date) (slice_get run (length run - 1))

-- the date is not before that of the last firing, if there is one
abbrev pub IsNotBefore : Option ℕ → ℕ → Type 0
IsNotBefore None date = ⊤
IsNotBefore (Some last) date = last ≤ date

-- the firing may follow the run: its tokens are there, it does not go back in time, and an input is released
pub record IsLegalAfter (net : NetLists) (run : List Fired) (f : Fired) : Type 0 where
  pub transition_in : f.transition.index < length net.transitions
  pub tokens : HasTokensBy net run f.transition.index (next_number run f.transition.index) f.date
  pub in_order : IsNotBefore (last_date run) f.date
  pub released : IsReleasedBy net f.transition.index (next_number run f.transition.index) f.date

-- each firing may follow those before it
abbrev pub IsLegalRun : NetLists → List Fired → Type 0
IsLegalRun net run = (i : ℕ) (d : Fired) → i < length run → IsLegalAfter net (take i run) (slice_index_or run i d)
