-- Closure: the operations lead from forms to canonical forms of their functions, of at most the need.
use Rattle.std.specs.Prelude.{◌≡◌, ◌≤◌, ◌<◌, ◌≤ℤ◌, ◌<ℤ◌, ℕ, ℤ, true, false}
use Rattle.dioid.specs.declared.dates.Date.{Date}
use Rattle.dioid.specs.declared.dates.Date.TheVariants.{At}
use Rattle.series_laws.specs.Periodic.{Rising, times}
use Rattle.series_laws.specs.SeriesForms.{Form, size_of, value_at, IsForm, IsCanonical, monomial_at}
use Rattle.series_laws.specs.FormFacts.{IsFormOfFunction}
use Rattle.series_laws.specs.Pointwise.{sum_at, least_at}
use Rattle.series_laws.specs.Product.{product_at, shifted}
use Rattle.series_laws.specs.Residual.{IsLeftAt}
use Rattle.series_laws.specs.StarOf.{IsStarOf}
use Rattle.series_laws.specs.declared.plans.Anchor.{Anchor}
use Rattle.series_laws.specs.Needs.{need_of, tail_of, sum_plan, least_plan, form_sum, form_least}
use Rattle.series_laws.specs.ProductNeeds.{anchor_of, product_plan, left_plan, star_need, form_product, form_left, form_star}

-- the value v at c has the greatest ratio v / c among the values of the list from shift 1 on, at least that of the step
-- and the period, and c is the least shift with it
pub record IsAnchor (f : Form) (c : ℕ) (v : ℤ) : Type 0 where
  pub positive : 0 < c
  pub listed : c < size_of f
  pub value : value_at f c ≡ At v
  pub step : times c f.step ≤ℤ times f.period v
  pub greatest : (d : ℕ) (u : ℤ) → 0 < d → d < size_of f → value_at f d ≡ At u → times c u ≤ℤ times d v
  pub least : (d : ℕ) (u : ℤ) → 0 < d → d < c → value_at f d ≡ At u → times c u <ℤ times d v

-- the anchor is found, or each value of the list from shift 1 on has a lesser ratio than the step and the period
pub record IsAnchorOf (f : Form) (a : Anchor) : Type 0 where
  pub found : a.found ≡ true → IsAnchor f a.shift a.value
  pub none : a.found ≡ false → (d : ℕ) (u : ℤ) → 0 < d → d < size_of f → value_at f d ≡ At u → times f.period u <ℤ times d f.step

-- each operation of two forms, of any length and any numbers, has a canonical form of its need with the values of the
-- definition, a function has one canonical form, the product with a monomial is a shift and a delay, and the anchor in the
-- need of a star is the part of the greatest ratio
pub record OperationsHaveForms : Type 0 where
  pub sum : (f g : Form) → IsForm f → IsForm g → IsFormOfFunction (sum_at (value_at f) (value_at g)) (need_of (sum_plan f g)) (form_sum f g)
  pub least : (f g : Form) → IsForm f → IsForm g → IsFormOfFunction (least_at (value_at f) (value_at g)) (need_of (least_plan f g)) (form_least f g)
  pub product : (f g : Form) → IsForm f → IsForm g → IsFormOfFunction (product_at (value_at f) (value_at g)) (need_of (product_plan f g)) (form_product f g)
  pub by_monomial : (s : ℕ → Date) (n : ℕ) (t : ℤ) → Rising s → (k : ℕ) → (product_at (monomial_at n t) s k ≡ shifted n t s k) × (product_at s (monomial_at n t) k ≡ shifted n t s k)
  pub star : (f : Form) → IsForm f → IsCanonical (form_star f) × ((k : ℕ) → IsStarOf (value_at f) k (value_at (form_star f) k)) × (size_of (form_star f) ≤ star_need f)
  pub unique : (f g : Form) → IsCanonical f → IsCanonical g → ((k : ℕ) → value_at f k ≡ value_at g k) → f ≡ g
  pub left : (f g : Form) → IsForm f → IsForm g → (k : ℕ) → IsLeftAt (value_at f) (value_at g) k (value_at (form_left f g) k)
  pub left_canonical : (f g : Form) → IsForm f → IsForm g → IsCanonical (form_left f g)
  pub left_short : (f g : Form) → IsForm f → IsForm g → size_of (form_left f g) ≤ need_of (left_plan f g)
  pub anchor : (f : Form) (t : ℤ) → IsForm f → tail_of f ≡ At t → IsAnchorOf f (anchor_of f)
