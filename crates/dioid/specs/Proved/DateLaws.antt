-- The laws of the max-plus dioid.
use Rattle.std.proofs.Common.{◌≡◌, ◌↔◌, refl, ap, arith, ℤ, pos, negsuc, zero, suc, ◌+ℤ◌, ◌-ℤ◌, sym, ◌∙◌}
use Rattle.std.specs.Prelude.{⊤}
use Rattle.std.proofs.lemmas.Int.{ints, clamps}
use Rattle.std.specs.Int.{int_max, int_min}
use Rattle.dioid.specs.Dates.{later_of, earlier_of, date_product, date_star, date_left}
use Rattle.dioid.specs.DioidAxioms.{IsAtMost, IsClosed, DioidLaws, StarLaws, ResidualLaws}
use Rattle.dioid.specs.declared.dates.Date.{Date}
use Rattle.dioid.specs.declared.dates.Date.TheVariants.{Early, At, Never}

-- each date is an element
abbrev pub any_date : Date → Type 0
any_date _ = ⊤

max_assoc : (a b c : ℤ) → int_max (int_max a b) c ≡ int_max a (int_max b c)
max_assoc a b c = omega (arith, ints, clamps)

max_commutes : (a b : ℤ) → int_max a b ≡ int_max b a
max_commutes a b = omega (arith, ints, clamps)

max_idempotent : (a : ℤ) → int_max a a ≡ a
max_idempotent a = omega (arith, ints, clamps)

sum_assoc : (a b c : ℤ) → (a +ℤ b) +ℤ c ≡ a +ℤ (b +ℤ c)
sum_assoc a b c = omega (arith, ints)

add_max : (a b c : ℤ) → a +ℤ int_max b c ≡ int_max (a +ℤ b) (a +ℤ c)
add_max a b c = omega (arith, ints, clamps)

max_add : (a b c : ℤ) → int_max a b +ℤ c ≡ int_max (a +ℤ c) (b +ℤ c)
max_add a b c = omega (arith, ints, clamps)

pub later_assoc : (a b c : Date) → later_of (later_of a b) c ≡ later_of a (later_of b c)
later_assoc Early b c = refl
later_assoc (At s) Early c = refl
later_assoc (At s) (At t) Early = refl
later_assoc (At s) (At t) (At u) = ap At (max_assoc s t u)
later_assoc (At s) (At t) Never = refl
later_assoc (At s) Never c = refl
later_assoc Never b c = refl

pub later_commutes : (a b : Date) → later_of a b ≡ later_of b a
later_commutes Early Early = refl
later_commutes Early (At t) = refl
later_commutes Early Never = refl
later_commutes (At s) Early = refl
later_commutes (At s) (At t) = ap At (max_commutes s t)
later_commutes (At s) Never = refl
later_commutes Never Early = refl
later_commutes Never (At t) = refl
later_commutes Never Never = refl

pub later_idempotent : (a : Date) → later_of a a ≡ a
later_idempotent Early = refl
later_idempotent (At s) = ap At (max_idempotent s)
later_idempotent Never = refl

pub times_assoc : (a b c : Date) → date_product (date_product a b) c ≡ date_product a (date_product b c)
times_assoc Early b c = refl
times_assoc (At s) Early c = refl
times_assoc (At s) (At t) Early = refl
times_assoc (At s) (At t) (At u) = ap At (sum_assoc s t u)
times_assoc (At s) (At t) Never = refl
times_assoc (At s) Never Early = refl
times_assoc (At s) Never (At u) = refl
times_assoc (At s) Never Never = refl
times_assoc Never Early c = refl
times_assoc Never (At t) Early = refl
times_assoc Never (At t) (At u) = refl
times_assoc Never (At t) Never = refl
times_assoc Never Never Early = refl
times_assoc Never Never (At u) = refl
times_assoc Never Never Never = refl

pub times_later : (a b c : Date) → date_product a (later_of b c) ≡ later_of (date_product a b) (date_product a c)
times_later Early b c = refl
times_later (At s) Early c = refl
times_later (At s) (At t) Early = refl
times_later (At s) (At t) (At u) = ap At (add_max s t u)
times_later (At s) (At t) Never = refl
times_later (At s) Never c = refl
times_later Never Early c = refl
times_later Never (At t) Early = refl
times_later Never (At t) (At u) = refl
times_later Never (At t) Never = refl
times_later Never Never c = refl

pub later_times : (a b c : Date) → date_product (later_of a b) c ≡ later_of (date_product a c) (date_product b c)
later_times Early b c = refl
later_times (At s) Early Early = refl
later_times (At s) Early (At u) = refl
later_times (At s) Early Never = refl
later_times (At s) (At t) Early = refl
later_times (At s) (At t) (At u) = ap At (max_add s t u)
later_times (At s) (At t) Never = refl
later_times (At s) Never Early = refl
later_times (At s) Never (At u) = refl
later_times (At s) Never Never = refl
later_times Never Early Early = refl
later_times Never Early (At u) = refl
later_times Never Early Never = refl
later_times Never (At t) Early = refl
later_times Never (At t) (At u) = refl
later_times Never (At t) Never = refl
later_times Never Never Early = refl
later_times Never Never (At u) = refl
later_times Never Never Never = refl

pub times_early : (a : Date) → date_product a Early ≡ Early
times_early Early = refl
times_early (At s) = refl
times_early Never = refl

pub one_times : (a : Date) → date_product (At (pos 0)) a ≡ a
one_times Early = refl
one_times (At s) = ap At (omega (arith, ints))
one_times Never = refl

pub times_one : (a : Date) → date_product a (At (pos 0)) ≡ a
times_one Early = refl
times_one (At s) = ap At (omega (arith, ints))
times_one Never = refl

pub dates_closed : IsClosed any_date Early (At (pos 0)) later_of date_product
dates_closed = record { zero_is = tt; one_is = tt; sum_is = λ a b _ _. tt; product_is = λ a b _ _. tt }

pub date_laws : DioidLaws any_date Early (At (pos 0)) later_of date_product
date_laws = record {
  sum_assoc = λ a b c _ _ _. later_assoc a b c;
  sum_commutes = λ a b _ _. later_commutes a b;
  sum_idempotent = λ a _. later_idempotent a;
  product_assoc = λ a b c _ _ _. times_assoc a b c;
  left_distributes = λ a b c _ _ _. times_later a b c;
  right_distributes = λ a b c _ _ _. later_times a b c;
  zero_neutral = λ a _. refl;
  zero_absorbs_left = λ a _. refl;
  zero_absorbs_right = λ a _. times_early a;
  one_neutral_left = λ a _. one_times a;
  one_neutral_right = λ a _. times_one a;
}

-- ---- the star

pub at_inj : (s t : ℤ) → At s ≡ At t → s ≡ t
at_inj s t h = cc

date_star_solves : (a b : Date) → IsAtMost later_of (later_of (date_product a (date_product (date_star a) b)) b) (date_product (date_star a) b)
date_star_solves Early Early = refl
date_star_solves Early (At t) = ap At (omega (arith, ints, clamps))
date_star_solves Early Never = refl
date_star_solves (At (pos zero)) Early = refl
date_star_solves (At (pos zero)) (At t) = ap At (omega (arith, ints, clamps))
date_star_solves (At (pos zero)) Never = refl
date_star_solves (At (pos (suc n))) Early = refl
date_star_solves (At (pos (suc n))) (At t) = refl
date_star_solves (At (pos (suc n))) Never = refl
date_star_solves (At (negsuc n)) Early = refl
date_star_solves (At (negsuc n)) (At t) = ap At (omega (arith, ints, clamps))
date_star_solves (At (negsuc n)) Never = refl
date_star_solves Never Early = refl
date_star_solves Never (At t) = refl
date_star_solves Never Never = refl

-- what is at most x, where b and more is at most x
right_part : (y b x : Date) → IsAtMost later_of (later_of y b) x → IsAtMost later_of b x
right_part y b x h =
    ap (later_of b) (sym h) ∙ sym (later_assoc b (later_of y b) x)
    ∙ ap (λ z. later_of z x) (later_commutes b (later_of y b) ∙ later_assoc y b b ∙ ap (later_of y) (later_idempotent b)) ∙ h

date_star_least : (a b x : Date) → IsAtMost later_of (later_of (date_product a x) b) x → IsAtMost later_of (date_product (date_star a) b) x
date_star_least Early b x h = rw (one_times b) (right_part Early b x h)
date_star_least (At (pos zero)) b x h = rw (one_times b) (right_part (date_product (At (pos 0)) x) b x h)
date_star_least (At (negsuc n)) b x h = rw (one_times b) (right_part (date_product (At (negsuc n)) x) b x h)
date_star_least (At (pos (suc n))) Early x h = refl
date_star_least (At (pos (suc n))) (At t) Early h = cc
date_star_least (At (pos (suc n))) (At t) (At u) h = absurd (let e : int_max (int_max (pos (suc n) +ℤ u) t) u ≡ u = at_inj _ _ h in omega (arith, ints, clamps))
date_star_least (At (pos (suc n))) (At t) Never h = refl
date_star_least (At (pos (suc n))) Never Early h = cc
date_star_least (At (pos (suc n))) Never (At u) h = cc
date_star_least (At (pos (suc n))) Never Never h = refl
date_star_least Never Early x h = refl
date_star_least Never (At t) Early h = cc
date_star_least Never (At t) (At u) h = cc
date_star_least Never (At t) Never h = refl
date_star_least Never Never Early h = cc
date_star_least Never Never (At u) h = cc
date_star_least Never Never Never h = refl

pub date_star_laws : StarLaws any_date later_of date_product date_star
date_star_laws = record {
  star_is = λ a _. tt;
  solves = λ a b _ _. date_star_solves a b;
  least = λ a b x _ _ _ h. date_star_least a b x h;
}

-- ---- residuals

at_most_added : (s x t : ℤ) → int_max (s +ℤ x) t ≡ t → int_max x (t -ℤ s) ≡ t -ℤ s
at_most_added s x t h = omega (arith, ints, clamps)

at_most_taken : (s x t : ℤ) → int_max x (t -ℤ s) ≡ t -ℤ s → int_max (s +ℤ x) t ≡ t
at_most_taken s x t h = omega (arith, ints, clamps)

below_never : (a : Date) → later_of a Never ≡ Never
below_never Early = refl
below_never (At s) = refl
below_never Never = refl

pub date_galois : (a x b : Date) → IsAtMost later_of (date_product a x) b ↔ IsAtMost later_of x (date_left a b)
date_galois Early x b = (λ h. below_never x, λ h. refl)
date_galois (At s) Early b = (λ h. refl, λ h. refl)
date_galois (At s) (At x) Early = (λ h. cc, λ h. cc)
date_galois (At s) (At x) (At t) = (λ h. ap At (at_most_added s x t (at_inj _ _ h)), λ h. ap At (at_most_taken s x t (at_inj _ _ h)))
date_galois (At s) (At x) Never = (λ h. refl, λ h. refl)
date_galois (At s) Never Early = (λ h. cc, λ h. cc)
date_galois (At s) Never (At t) = (λ h. cc, λ h. cc)
date_galois (At s) Never Never = (λ h. refl, λ h. refl)
date_galois Never Early b = (λ h. refl, λ h. refl)
date_galois Never (At x) Early = (λ h. cc, λ h. cc)
date_galois Never (At x) (At t) = (λ h. cc, λ h. cc)
date_galois Never (At x) Never = (λ h. refl, λ h. refl)
date_galois Never Never Early = (λ h. cc, λ h. cc)
date_galois Never Never (At t) = (λ h. cc, λ h. cc)
date_galois Never Never Never = (λ h. refl, λ h. refl)

date_meet : (x a b : Date) → IsAtMost later_of x (earlier_of a b) ↔ (IsAtMost later_of x a × IsAtMost later_of x b)
date_meet Early a b = (λ h. (refl, refl), λ h. refl)
date_meet (At x) Early b = (λ h. cc, λ h. cc)
date_meet (At x) (At s) Early = (λ h. cc, λ h. cc)
date_meet (At x) (At s) (At t) = (
  λ h. let e : int_max x (int_min s t) ≡ int_min s t =
      at_inj _ _ h in (ap At (omega (arith, ints, clamps)), ap At (omega (arith, ints, clamps))),
  λ h. let e : int_max x s ≡ s = at_inj _ _ h.0 in let f : int_max x t ≡ t = at_inj _ _ h.1 in ap At (omega (arith, ints, clamps)),
)
date_meet (At x) (At s) Never = (λ h. (h, refl), λ h. h.0)
date_meet (At x) Never b = (λ h. (refl, h), λ h. h.1)
date_meet Never Early b = (λ h. cc, λ h. cc)
date_meet Never (At s) Early = (λ h. cc, λ h. cc)
date_meet Never (At s) (At t) = (λ h. cc, λ h. cc)
date_meet Never (At s) Never = (λ h. cc, λ h. cc)
date_meet Never Never b = (λ h. (refl, h), λ h. h.1)

pub date_residual_laws : ResidualLaws any_date later_of date_product date_left earlier_of
date_residual_laws = record {
  left_is = λ a b _ _. tt;
  meet_is = λ a b _ _. tt;
  galois = λ a x b _ _ _. date_galois a x b;
  meet_greatest = λ x a b _ _ _. date_meet x a b;
}
