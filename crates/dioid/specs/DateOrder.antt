-- What the order of dates is.
use Rattle.std.specs.Prelude.{◌≡◌, ◌↔◌, ◌⊎◌}
use Rattle.std.specs.Ordering.{MatchOrdering}
use Rattle.std.specs.declared.cmp.Ordering.{Ordering}
use Rattle.dioid.specs.Dates.{IsAtMostDate, later_of}
use Rattle.dioid.specs.DioidAxioms.{IsAtMost}
use Rattle.dioid.specs.declared.dates.Date.{Date}

-- a is at most b, as a fact from which both dates can be read
pub record Le (a b : Date) : Type 0 where
  pub holds : IsAtMostDate a b

-- x is the greater of a and b: one of the two, and each is at most x
pub record IsGreaterOf (a b x : Date) : Type 0 where
  pub one : (x ≡ a) ⊎ (x ≡ b)
  pub left : IsAtMostDate a x
  pub right : IsAtMostDate b x

-- x is the lesser of a and b: one of the two, and x is at most each
pub record IsLesserOf (a b x : Date) : Type 0 where
  pub one : (x ≡ a) ⊎ (x ≡ b)
  pub left : IsAtMostDate x a
  pub right : IsAtMostDate x b

-- the order of dates is a total order, and it is the one that their sum, the later one, gives
pub record IsOrderOfDates : Type 0 where
  pub reflexive : (a : Date) → IsAtMostDate a a
  pub transitive : (a b c : Date) → IsAtMostDate a b → IsAtMostDate b c → IsAtMostDate a c
  pub antisymmetric : (a b : Date) → IsAtMostDate a b → IsAtMostDate b a → a ≡ b
  pub total : (a b : Date) → IsAtMostDate a b ⊎ IsAtMostDate b a
  pub of_the_sum : (a b : Date) → IsAtMost later_of a b ↔ IsAtMostDate a b

-- the ordering is that of a and b: b is not at most a, they are one date, or a is not at most b
abbrev pub IsDateOrdering : Ordering → Date → Date → Type 0
IsDateOrdering order a b = MatchOrdering order (¬ IsAtMostDate b a) (a ≡ b) (¬ IsAtMostDate a b)
