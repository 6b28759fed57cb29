-- What the standard form says of dates: the date of a firing is the latest of its start, of the firing before, and of what
-- the form's stars and entries lead to (chapter 2, the explicit form).
use Rattle.std.specs.Prelude.{ℕ, ◌-◌, ◌<◌, ◌≤◌, ◌≡◌, length, All}
use Rattle.dioid.specs.declared.dates.Date.{Date}
use Rattle.dioid.specs.Dates.{IsAtMostDate, delayed}
use Rattle.teg_net.specs.Nets.{NetLists, HasEndsInRange}
use Rattle.teg_net.specs.Circuits.{IsLive}
use Rattle.teg_model.specs.Starts.{start_of_firing}
use Rattle.teg_model.specs.Datings.{IsLeastUnder}
use Rattle.teg_form.specs.StandardForms.{FormLists, IsStandardFormOf}

-- z is not before the start of firing k of transition t, which is the latest of 0, the ready dates of the initial tokens that it
-- takes and, for an input, its release; not before the firing before; nor before what stars and entries lead to
pub record IsNotBeforeForm (net : NetLists) (form : FormLists) (u x : ℕ → ℕ → Date) (t k : ℕ) (z : Date) : Type 0 where
  pub start : IsAtMostDate (start_of_firing net u t k) z
  pub before : 1 < k → IsAtMostDate (x t (k - 1)) z
  pub stars : All (λ e. e.to.index ≡ t → IsAtMostDate (delayed e.time (x e.from.index k)) z) form.stars
  pub entries : All (λ e. e.to.index ≡ t → e.tokens < k → IsAtMostDate (delayed e.time (x e.from.index (k - e.tokens))) z) form.entries

-- the date of firing k of transition t is the least that is not before its start, the firing before, and what stars and entries
-- lead to
pub record IsDateByForm (net : NetLists) (form : FormLists) (u x : ℕ → ℕ → Date) (t k : ℕ) : Type 0 where
  pub not_before : IsNotBeforeForm net form u x t k (x t k)
  pub least : (z : Date) → IsNotBeforeForm net form u x t k z → IsAtMostDate (x t k) z

-- each date of a firing of the net is that by the form
abbrev pub AreDatesByForm : NetLists → FormLists → (ℕ → ℕ → Date) → (ℕ → ℕ → Date) → Type 0
AreDatesByForm net form u x = (t k : ℕ) → t < length net.transitions → 1 ≤ k → IsDateByForm net form u x t k

-- the least dates of a live net are those by its form, under any releases
abbrev pub LeastDatesAreByForm : Type 0
LeastDatesAreByForm = (net : NetLists) → HasEndsInRange net → IsLive net → (form : FormLists) → IsStandardFormOf net form
    → (u x : ℕ → ℕ → Date) → IsLeastUnder net u x → AreDatesByForm net form u x

-- dates of a live net by its form are its least dates: the form says the whole of the net
abbrev pub DatesByFormAreLeast : Type 0
DatesByFormAreLeast = (net : NetLists) → HasEndsInRange net → IsLive net → (form : FormLists) → IsStandardFormOf net form
    → (u x : ℕ → ℕ → Date) → AreDatesByForm net form u x → IsLeastUnder net u x
