-- One date lowered.
use Rattle.std.proofs.Common.{ℕ, ◌<◌, ◌≤◌, ◌≡◌, true, false, ltb, refl, sym, ap, arith, inl, inr, ⊎_elim}
use Rattle.std.specs.Prelude.{pos, ◌⊎◌, Some, None}
use Rattle.std.proofs.lemmas.Bool.{cases_Bool}
use Rattle.std.proofs.lemmas.Bool.Decides.{nat_tests}
use Rattle.std.proofs.lemmas.Int.{ints}
use Rattle.date_rows.specs.dioid.declared.dates.Date.TheVariants.{At as on_date, Never}
use Rattle.date_rows.specs.dioid.Dates.{IsAtMostDate}
use Rattle.teg_jit.specs.declared.answers.Onward.{Onward}
use Rattle.teg_jit.specs.declared.answers.Onward.TheVariants.{Due}
use Rattle.teg_jit.specs.declared.answers.LatestDate.{LatestDate}
use Rattle.teg_jit.specs.declared.answers.LatestDate.TheVariants.{Free, At}
use Rattle.teg_jit.specs.Plans.{date_or_never}
use Rattle.teg_jit.specs.GoingBack.{lowered, date_there}
use Rattle.teg_due.proofs.DueRows.{none_is_not, date_is}

-- the date comes strictly before what is there
pub record IsBefore (d : ℕ) (b : LatestDate) : Type 0 where
  pub below : IsAtMostDate (on_date (pos d)) (date_or_never b)
  pub strict : IsAtMostDate (date_or_never b) (on_date (pos d)) → ⊥

-- what is there stays, or the date takes its place
pub lowered_cases : (b : LatestDate) (d : ℕ) (o : Onward) → ((lowered b d o ≡ b) × IsAtMostDate (date_or_never b) (on_date (pos d))) ⊎ ((lowered b d o ≡ At d o) × IsBefore d b)
lowered_cases Free d o = inr (refl, record { below = tt; strict = λ l. l })
lowered_cases (At b q) d o =
    ⊎_elim
    (λ (e : ltb d b ≡ true).
    let l : d < b = grind (arith, nat_tests) in
    inr (rw e refl, record { below = omega (arith, ints); strict = λ m. omega (arith, ints, m) }))
    (λ (e : ltb d b ≡ false).
    let l : b ≤ d = grind (arith, nat_tests) in
    inl (rw e refl, omega (arith, ints)))
    (cases_Bool (ltb d b))

-- where no date is read there is never one, and else it is that
pub there_none : (b : LatestDate) → None ≡ date_there b → date_or_never b ≡ Never
there_none Free e = refl
there_none (At d o) e = absurd (none_is_not d e)

pub there_some : (b : LatestDate) (d : ℕ) → Some d ≡ date_there b → date_or_never b ≡ on_date (pos d)
there_some Free d e = absurd (none_is_not d (sym e))
there_some (At b o) d e = ap (λ z. on_date (pos z)) (sym (date_is d b e))

-- a date is a number, or none
abbrev pub onward_of : LatestDate → Onward
onward_of Free = Due
onward_of (At d o) = o
