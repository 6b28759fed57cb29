-- Delays of dates.
use Rattle.std.proofs.Common.{ℕ, ◌+◌, ◌≡◌, refl, ap, arith}
use Rattle.std.proofs.lemmas.Int.{ints}
use Rattle.dioid.specs.declared.dates.Date.{Date}
use Rattle.dioid.specs.declared.dates.Date.TheVariants.{Early, At, Never}
use Rattle.dioid.specs.Dates.{delayed}

pub delayed_twice : (m n : ℕ) (d : Date) → delayed (m + n) d ≡ delayed n (delayed m d)
delayed_twice m n Early = refl
delayed_twice m n (At x) = ap At (omega (arith, ints))
delayed_twice m n Never = refl

pub delayed_not : (d : Date) → delayed 0 d ≡ d
delayed_not Early = refl
delayed_not (At x) = ap At (omega (arith, ints))
delayed_not Never = refl
