-- All releases later by a number: by how much the dates are later (chapters 2 and 5).
use Rattle.std.specs.Prelude.{ℕ, ◌+◌, ◌-◌, ◌<◌, ◌≤◌, ◌≡◌, length, nat_lt, if◌then◌else◌}
use Rattle.teg_model.specs.dioid.declared.dates.Date.{Date}
use Rattle.teg_model.specs.dioid.declared.dates.Date.TheVariants.{Early}
use Rattle.teg_model.specs.dioid.Dates.{IsAtMostDate, later_of, delayed}
use Rattle.teg_model.specs.teg_net.Nets.{NetLists, HasEndsInRange}
use Rattle.teg_model.specs.teg_net.Circuits.{IsLive}
use Rattle.teg_model.specs.Datings.{IsLeastUnder}
use Rattle.io_laws.specs.InputOutput.{no_releases}

-- each release comes so much later
abbrev pub moved : ℕ → (ℕ → ℕ → Date) → ℕ → ℕ → Date
moved c u t k = delayed c (u t k)

-- each release is that of n numbers before, and the first n numbers wait for none
abbrev pub numbered_on : ℕ → (ℕ → ℕ → Date) → ℕ → ℕ → Date
numbered_on n u t k = if nat_lt n k then u t (k - n) else Early

-- a date in a net whose releases are moved by c: not before that without the move, at most c after it, and just c after it
-- where releases alone keep it: where it is not the date `free` that the firing has without releases
pub record IsMovedDate (c : ℕ) (free before after : Date) : Type 0 where
  pub not_before : IsAtMostDate before after
  pub at_most : IsAtMostDate after (delayed c before)
  pub just : ¬ IsAtMostDate before free → after ≡ delayed c before

-- each least date of a live net so
abbrev pub ReleasesMoveDates : Type 0
ReleasesMoveDates = (net : NetLists) → HasEndsInRange net → IsLive net → (c : ℕ) (u free x y : ℕ → ℕ → Date)
    → IsLeastUnder net no_releases free → IsLeastUnder net u x → IsLeastUnder net (moved c u) y
    → (t k : ℕ) → t < length net.transitions → 1 ≤ k → IsMovedDate c (free t k) (x t k) (y t k)

-- releases n numbers later: each least date is that of n numbers before, or that without releases where that is later
abbrev pub ReleasesMoveNumbers : Type 0
ReleasesMoveNumbers = (net : NetLists) → HasEndsInRange net → (n : ℕ) (u free x y : ℕ → ℕ → Date)
    → IsLeastUnder net no_releases free → IsLeastUnder net u x → IsLeastUnder net (numbered_on n u) y
    → (t k : ℕ) → t < length net.transitions → 1 ≤ k → y t (k + n) ≡ later_of (free t (k + n)) (x t k)
