-- The earliest run of a dating: its firings in the order of their dates.
use Rattle.std.specs.Prelude.{ℕ, pos, ◌<◌, ◌≤◌, ◌≡◌, ◌≢◌, ◌⊎◌, List, length, All, AllPairs, Contains, slice_index_or, take}
use Rattle.teg_model.specs.dioid.declared.dates.Date.{Date}
use Rattle.teg_model.specs.dioid.declared.dates.Date.TheVariants.{At, Never}
use Rattle.teg_model.specs.dioid.Dates.{IsAtMostDate}
use Rattle.teg_net.specs.Nets.{NetLists, HasEndsInRange}
use Rattle.teg_model.specs.Datings.{IsLeastDating}
use Rattle.run_laws.specs.declared.fired.Fired.{Fired}
use Rattle.run_laws.specs.Runs.{IsLegalRun}

-- a firing of a transition by its number
pub record Numbered : Type 0 where
  pub transition : ℕ
  pub number : ℕ

-- the date of a firing
abbrev pub date_of_firing : (ℕ → ℕ → Date) → Numbered → Date
date_of_firing x f = x f.transition f.number

-- date a comes before date b
abbrev pub IsBeforeDate : Date → Date → Type 0
IsBeforeDate a b = IsAtMostDate b a → ⊥

-- transition s comes before t by rank, then by index
abbrev pub ComesBeforeByRank : (ℕ → ℕ) → ℕ → ℕ → Type 0
ComesBeforeByRank rank s t = (rank s < rank t) ⊎ ((rank s ≡ rank t) × (s < t))

-- firing a comes before b by firing number, then by rank and index
abbrev pub ComesBeforeByNumber : (ℕ → ℕ) → Numbered → Numbered → Type 0
ComesBeforeByNumber rank a b = (a.number < b.number) ⊎ ((a.number ≡ b.number) × ComesBeforeByRank rank a.transition b.transition)

-- firing a comes before b by date, then by firing number, then by rank, then by index
abbrev pub ComesBefore : (ℕ → ℕ → Date) → (ℕ → ℕ) → Numbered → Numbered → Type 0
ComesBefore x rank a b = IsBeforeDate (date_of_firing x a) (date_of_firing x b) ⊎ ((date_of_firing x a ≡ date_of_firing x b) × ComesBeforeByNumber rank a b)

-- the firing is one of the net's up to the number
pub record IsFiringUpTo (net : NetLists) (most : ℕ) (f : Numbered) : Type 0 where
  pub transition_in : f.transition < length net.transitions
  pub first : 1 ≤ f.number
  pub last : f.number ≤ most

-- the run has every firing up to the number whose date in x is not never, at that date, in this order
pub record IsRunInOrder (net : NetLists) (x : ℕ → ℕ → Date) (rank : ℕ → ℕ) (most : ℕ) (firings : List Numbered) (run : List Fired) : Type 0 where
  pub known : All (IsFiringUpTo net most) firings
  pub all : (f : Numbered) → IsFiringUpTo net most f → date_of_firing x f ≢ Never → Contains firings f
  pub order : AllPairs (ComesBefore x rank) firings
  pub count : length run ≡ length firings
  pub transitions : (i : ℕ) (f : Numbered) (d : Fired) → i < length firings → (slice_index_or run i d).transition.index ≡ (slice_index_or firings i f).transition
  pub dates : (i : ℕ) (f : Numbered) (d : Fired) → i < length firings → date_of_firing x (slice_index_or firings i f) ≡ At (pos (slice_index_or run i d).date)

-- a rank of each transition that rises along each place without tokens
abbrev pub RisesAlong : NetLists → (ℕ → ℕ) → Type 0
RisesAlong net rank = All (λ p. p.tokens ≡ 0 → rank p.from.index < rank p.to.index) net.places

-- the earliest run of x up to the number
pub record IsEarliestRun (net : NetLists) (x : ℕ → ℕ → Date) (most : ℕ) (run : List Fired) : Type 0 where
  pub rank : ℕ → ℕ
  pub rises : RisesAlong net rank
  pub firings : List Numbered
  pub in_order : IsRunInOrder net x rank most firings run

-- the earliest runs of the least dating are legal
abbrev pub EarliestRunsAreLegal : Type 0
EarliestRunsAreLegal =
    (net : NetLists) (x : ℕ → ℕ → Date) (most : ℕ) (run : List Fired) → HasEndsInRange net
    → IsLeastDating net x → IsEarliestRun net x most run → IsLegalRun net run

-- the first firings of an earliest run of the least dating are a legal run
abbrev pub PartsOfEarliestRunsAreLegal : Type 0
PartsOfEarliestRunsAreLegal =
    (net : NetLists) (x : ℕ → ℕ → Date) (most n : ℕ) (run : List Fired) → HasEndsInRange net
    → IsLeastDating net x → IsEarliestRun net x most run → n ≤ length run → IsLegalRun net (take n run)
