-- The order of dates, and what the later, the earlier, the delayed and the added date do in it.
use Rattle.std.proofs.Common.{ℕ, ℤ, pos, ◌≡◌, ◌↔◌, refl, ap, arith, inl, inr, ⊎_elim}
use Rattle.std.specs.Prelude.{◌≤ℤ◌, ◌⊎◌}
use Rattle.std.specs.Int.{int_max, int_min}
use Rattle.std.proofs.lemmas.Int.{ints, clamps, by_lt_z}
use Rattle.dioid.specs.Dates.{IsAtMostDate, later_of, earlier_of, delayed, date_product}
use Rattle.dioid.specs.DioidAxioms.{IsAtMost}
use Rattle.dioid.specs.DateOrder.{IsGreaterOf, IsLesserOf, IsOrderOfDates}
use Rattle.dioid.specs.declared.dates.Date.{Date}
use Rattle.dioid.specs.declared.dates.Date.TheVariants.{Early, At, Never}

-- ---- a total order

pub at_most_refl : (a : Date) → IsAtMostDate a a
at_most_refl Early = tt
at_most_refl (At s) = omega (arith, ints)
at_most_refl Never = tt

pub at_most_is : (a b : Date) → a ≡ b → IsAtMostDate a b
at_most_is a b e = rw (← e) (at_most_refl a)

pub at_most_trans : (a b c : Date) → IsAtMostDate a b → IsAtMostDate b c → IsAtMostDate a c
at_most_trans Early b c h l = tt
at_most_trans (At s) Early c h l = absurd h
at_most_trans (At s) (At t) Early h l = absurd l
at_most_trans (At s) (At t) (At u) h l = omega (arith, ints)
at_most_trans (At s) (At t) Never h l = tt
at_most_trans (At s) Never Early h l = absurd l
at_most_trans (At s) Never (At u) h l = absurd l
at_most_trans (At s) Never Never h l = tt
at_most_trans Never Early c h l = absurd h
at_most_trans Never (At t) c h l = absurd h
at_most_trans Never Never c h l = l

-- two dates that are each at most the other are one
pub same_by_at_most : (a b : Date) → IsAtMostDate a b → IsAtMostDate b a → a ≡ b
same_by_at_most Early Early h l = refl
same_by_at_most Early (At t) h l = absurd l
same_by_at_most Early Never h l = absurd l
same_by_at_most (At s) Early h l = absurd h
same_by_at_most (At s) (At t) h l = let e : s ≡ t = omega (arith, ints) in ap At e
same_by_at_most (At s) Never h l = absurd l
same_by_at_most Never Early h l = absurd h
same_by_at_most Never (At t) h l = absurd h
same_by_at_most Never Never h l = refl

int_total : (s t : ℤ) → (s ≤ℤ t) ⊎ (t ≤ℤ s)
int_total s t = by_lt_z s t (λ h. let l : s ≤ℤ t = omega (arith, ints) in inl l) (λ h. inr h)

pub at_most_total : (a b : Date) → IsAtMostDate a b ⊎ IsAtMostDate b a
at_most_total Early b = inl tt
at_most_total (At s) Early = inr tt
at_most_total (At s) (At t) = int_total s t
at_most_total (At s) Never = inl tt
at_most_total Never Early = inr tt
at_most_total Never (At t) = inr tt
at_most_total Never Never = inl tt

pub never_last : (a : Date) → IsAtMostDate a Never
never_last Early = tt
never_last (At s) = tt
never_last Never = tt

-- what is at most Early is Early, and what Never is at most is Never
pub at_most_early : (a : Date) → IsAtMostDate a Early → a ≡ Early
at_most_early Early h = refl
at_most_early (At s) h = absurd h
at_most_early Never h = absurd h

pub at_least_never : (a : Date) → IsAtMostDate Never a → a ≡ Never
at_least_never Early h = absurd h
at_least_never (At s) h = absurd h
at_least_never Never h = refl

-- ---- the later date

pub later_left : (a b : Date) → IsAtMostDate a (later_of a b)
later_left Early b = tt
later_left (At s) Early = omega (arith, ints)
later_left (At s) (At t) = omega (arith, ints, clamps)
later_left (At s) Never = tt
later_left Never b = tt

pub later_right : (a b : Date) → IsAtMostDate b (later_of a b)
later_right Early b = at_most_refl b
later_right (At s) Early = tt
later_right (At s) (At t) = omega (arith, ints, clamps)
later_right (At s) Never = tt
later_right Never b = never_last b

pub later_least : (a b c : Date) → IsAtMostDate a c → IsAtMostDate b c → IsAtMostDate (later_of a b) c
later_least Early b c h l = l
later_least (At s) Early c h l = h
later_least (At s) (At t) Early h l = absurd h
later_least (At s) (At t) (At u) h l = omega (arith, ints, clamps)
later_least (At s) (At t) Never h l = tt
later_least (At s) Never c h l = l
later_least Never b c h l = h

int_max_either : (s t : ℤ) → (int_max s t ≡ s) ⊎ (int_max s t ≡ t)
int_max_either s t = by_lt_z s t (λ h. let e : int_max s t ≡ t = omega (arith, ints, clamps) in inr e) (λ h. let e : int_max s t ≡ s = omega (arith, ints, clamps) in inl e)

pub later_either : (a b : Date) → (later_of a b ≡ a) ⊎ (later_of a b ≡ b)
later_either Early b = inr refl
later_either (At s) Early = inl refl
later_either (At s) (At t) = ⊎_elim (λ e. inl (ap At e)) (λ e. inr (ap At e)) (int_max_either s t)
later_either (At s) Never = inr refl
later_either Never b = inl refl

-- the later of a and b is b where a is at most b
pub later_is_right : (a b : Date) → IsAtMostDate a b → later_of a b ≡ b
later_is_right a b h = same_by_at_most (later_of a b) b (later_least a b b h (at_most_refl b)) (later_right a b)

pub later_is_left : (a b : Date) → IsAtMostDate b a → later_of a b ≡ a
later_is_left a b h = same_by_at_most (later_of a b) a (later_least a b a (at_most_refl a) h) (later_left a b)

-- ---- the earlier date

pub earlier_left : (a b : Date) → IsAtMostDate (earlier_of a b) a
earlier_left Early b = tt
earlier_left (At s) Early = tt
earlier_left (At s) (At t) = omega (arith, ints, clamps)
earlier_left (At s) Never = omega (arith, ints)
earlier_left Never b = never_last b

pub earlier_right : (a b : Date) → IsAtMostDate (earlier_of a b) b
earlier_right Early b = tt
earlier_right (At s) Early = tt
earlier_right (At s) (At t) = omega (arith, ints, clamps)
earlier_right (At s) Never = tt
earlier_right Never b = at_most_refl b

pub earlier_greatest : (a b c : Date) → IsAtMostDate c a → IsAtMostDate c b → IsAtMostDate c (earlier_of a b)
earlier_greatest Early b c h l = h
earlier_greatest (At s) Early c h l = l
earlier_greatest (At s) (At t) Early h l = tt
earlier_greatest (At s) (At t) (At u) h l = omega (arith, ints, clamps)
earlier_greatest (At s) (At t) Never h l = absurd h
earlier_greatest (At s) Never c h l = h
earlier_greatest Never b c h l = l

int_min_either : (s t : ℤ) → (int_min s t ≡ s) ⊎ (int_min s t ≡ t)
int_min_either s t = by_lt_z s t (λ h. let e : int_min s t ≡ s = omega (arith, ints, clamps) in inl e) (λ h. let e : int_min s t ≡ t = omega (arith, ints, clamps) in inr e)

pub earlier_either : (a b : Date) → (earlier_of a b ≡ a) ⊎ (earlier_of a b ≡ b)
earlier_either Early b = inl refl
earlier_either (At s) Early = inr refl
earlier_either (At s) (At t) = ⊎_elim (λ e. inl (ap At e)) (λ e. inr (ap At e)) (int_min_either s t)
earlier_either (At s) Never = inl refl
earlier_either Never b = inr refl

-- ---- delays and products

pub delayed_rises : (h : ℕ) (a b : Date) → IsAtMostDate a b → IsAtMostDate (delayed h a) (delayed h b)
delayed_rises h Early b l = tt
delayed_rises h (At s) Early l = absurd l
delayed_rises h (At s) (At t) l = omega (arith, ints)
delayed_rises h (At s) Never l = tt
delayed_rises h Never Early l = absurd l
delayed_rises h Never (At t) l = absurd l
delayed_rises h Never Never l = tt

-- a date is at most the one that comes later by some delay
pub delayed_later : (h : ℕ) (a : Date) → IsAtMostDate a (delayed h a)
delayed_later h Early = tt
delayed_later h (At s) = omega (arith, ints)
delayed_later h Never = tt

-- a delay is a product with a number
pub delayed_is_product : (h : ℕ) (a : Date) → delayed h a ≡ date_product a (At (pos h))
delayed_is_product h Early = refl
delayed_is_product h (At s) = refl
delayed_is_product h Never = refl

pub product_rises : (a b c d : Date) → IsAtMostDate a b → IsAtMostDate c d → IsAtMostDate (date_product a c) (date_product b d)
product_rises Early b c d h k = tt
product_rises (At s) Early c d h k = absurd h
product_rises (At s) (At t) Early d h k = tt
product_rises (At s) (At t) (At u) Early h k = absurd k
product_rises (At s) (At t) (At u) (At v) h k = omega (arith, ints)
product_rises (At s) (At t) (At u) Never h k = tt
product_rises (At s) (At t) Never Early h k = absurd k
product_rises (At s) (At t) Never (At v) h k = absurd k
product_rises (At s) (At t) Never Never h k = tt
product_rises (At s) Never Early d h k = tt
product_rises (At s) Never (At u) Early h k = absurd k
product_rises (At s) Never (At u) (At v) h k = tt
product_rises (At s) Never (At u) Never h k = tt
product_rises (At s) Never Never Early h k = absurd k
product_rises (At s) Never Never (At v) h k = absurd k
product_rises (At s) Never Never Never h k = tt
product_rises Never Early c d h k = absurd h
product_rises Never (At t) c d h k = absurd h
product_rises Never Never Early d h k = tt
product_rises Never Never (At u) Early h k = absurd k
product_rises Never Never (At u) (At v) h k = tt
product_rises Never Never (At u) Never h k = tt
product_rises Never Never Never Early h k = absurd k
product_rises Never Never Never (At v) h k = absurd k
product_rises Never Never Never Never h k = tt

-- ---- the order that the sum gives

pub at_most_of_the_sum : (a b : Date) → IsAtMost later_of a b ↔ IsAtMostDate a b
at_most_of_the_sum a b = (λ e. rw e at (later_left a b), λ h. later_is_right a b h)

pub order_of_dates : IsOrderOfDates
order_of_dates = record {
  reflexive = at_most_refl;
  transitive = at_most_trans;
  antisymmetric = same_by_at_most;
  total = at_most_total;
  of_the_sum = at_most_of_the_sum;
}
