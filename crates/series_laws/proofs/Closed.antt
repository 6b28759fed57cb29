-- Closure.
use Rattle.std.proofs.Common.{ℕ, ◌∙◌, sym, subst}
use Rattle.dioid.specs.declared.dates.Date.{Date}
use Rattle.series_laws.specs.SeriesForms.{value_at, monomial_at}
use Rattle.series_laws.specs.Periodic.{Rising}
use Rattle.series_laws.specs.Residual.{IsLeftAt}
use Rattle.series_laws.specs.StarOf.{star_at, IsStarOf}
use Rattle.series_laws.proofs.StarParts.{star_words}
use Rattle.series_laws.proofs.Canonical.{canonical_short, one_canonical}
use Rattle.series_laws.specs.Closure.{OperationsHaveForms}
use Rattle.series_laws.specs.FormFacts.{IsFormOfFunction}
use Rattle.series_laws.proofs.Shifts.{monomial_product}
use Rattle.series_laws.specs.declared.plans.NeedPlan.{NeedPlan}
use Rattle.series_laws.specs.Needs.{need_of, form_by}
use Rattle.series_laws.specs.ProductNeeds.{residual_at, left_plan, star_need, form_star}
use Rattle.series_laws.proofs.Sums.{Serves, served_is, served_values, sum_rises, least_rises, sum_serves, least_serves}
use Rattle.series_laws.proofs.Products.{product_commutes, product_rises, product_serves}
use Rattle.series_laws.proofs.Lefts.{left_is, left_rises, left_serves, form_left_values}
use Rattle.series_laws.proofs.AnchorLaws.{anchor_law}
use Rattle.series_laws.proofs.StarForms.{star_at_rises, star_serves}

served : (s : ℕ → Date) (r : NeedPlan) → Rising s → Serves s r → IsFormOfFunction s (need_of r) (form_by s r)
served s r up h = record { canonical = served_is s r up h; values = served_values s r up h; short = canonical_short s r.from r.turn h.step up h.turns h.repeats }

pub closed : OperationsHaveForms
closed = record {
  sum = λ f g a b. served _ _ (sum_rises (value_at f) (value_at g) a.rising b.rising) (sum_serves f g a b);
  least = λ f g a b. served _ _ (least_rises (value_at f) (value_at g) a.rising b.rising) (least_serves f g a b);
  product = λ f g a b. served _ _ (product_rises (value_at f) (value_at g) a.rising b.rising) (product_serves f g a b);
  star = λ f a. let h : IsFormOfFunction (star_at (value_at f)) (star_need f) (form_star f) = served _ _ (star_at_rises (value_at f) a.rising) (star_serves f a) in
      (h.canonical, λ k. subst (λ (z : Date). IsStarOf (value_at f) k z) (sym (h.values k)) (star_words (value_at f) k), h.short);
  by_monomial = λ s n t up k. (monomial_product n t s up k, product_commutes s (monomial_at n t) k ∙ monomial_product n t s up k);
  unique = one_canonical;
  left = λ f g a b k. subst (λ (z : Date). IsLeftAt (value_at f) (value_at g) k z) (sym (form_left_values f g a b k)) (left_is f g a b k);
  left_canonical = λ f g a b. (served (residual_at f g) (left_plan f g) (left_rises f g a b) (left_serves f g a b)).canonical;
  left_short = λ f g a b. (served (residual_at f g) (left_plan f g) (left_rises f g a b) (left_serves f g a b)).short;
  anchor = anchor_law;
}
