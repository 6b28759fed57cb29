-- The laws of a dioid, of its stars and of its residuals, of canonical forms.
use Rattle.std.proofs.Common.{◌≡◌, refl, ap, arith, ℕ, pos, ◌+◌, sym, ◌∙◌}
use Rattle.std.proofs.lemmas.Int.{ints}
use Rattle.dioid.specs.DioidAxioms.{IsAtMost, IsClosed, DioidLaws, StarLaws, ResidualLaws}
use Rattle.dioid.specs.Dates.{later_of, earlier_of, date_left}
use Rattle.dioid.specs.Proved.DateLaws.{later_assoc, later_commutes, later_idempotent}
use Rattle.dioid.specs.declared.dates.Date.{Date}
use Rattle.dioid.specs.declared.dates.Date.TheVariants.{Early, At}
use Rattle.dioid.specs.DateOrder.{Le}
use Rattle.dioid.proofs.AtMost.{le_is, le_trans, le_later_left, le_earlier, earlier_le_left, earlier_le_right}
use Rattle.series_laws.specs.Pointwise.{sum_at}
use Rattle.series_laws.proofs.SumsRepeat.{later_is_left}
use Rattle.series_laws.specs.Product.{product_at}
use Rattle.series_laws.proofs.ProductsRepeat.{le_product, product_at_le}
use Rattle.series_laws.proofs.StarParts.{to_left, from_left}
use Rattle.series_laws.specs.StarOf.{star_at}
use Rattle.series_laws.specs.SeriesForms.{Form, value_at, IsForm, HasValues, IsCanonical, early_form, zero_form}
use Rattle.series_laws.proofs.Canonical.{constant_is, one_canonical}
use Rattle.series_laws.specs.Needs.{form_sum, form_least}
use Rattle.series_laws.specs.ProductNeeds.{form_product, form_left, form_star}
use Rattle.series_laws.proofs.Sums.{form_sum_is, form_sum_values, form_least_is, form_least_values}
use Rattle.series_laws.proofs.Products.{form_product_is, form_product_values, product_commutes, early_product}
use Rattle.series_laws.proofs.Lefts.{left_is, form_left_is, form_left_values}
use Rattle.series_laws.proofs.StarForms.{form_star_is, form_star_values}
use Rattle.series_laws.proofs.FunctionLaws.{star_least, product_assoc, product_sum, one_product, star_solves}

-- ---- forms

early_is : IsCanonical early_form
early_is = (constant_is Early refl).0

zero_is : IsCanonical zero_form
zero_is = (constant_is (At (pos 0)) (ap At (omega (arith, ints)))).0

pub early_values : HasValues early_form (λ _. Early)
early_values = (constant_is Early refl).1

pub zero_values : HasValues zero_form (λ _. At (pos 0))
zero_values = (constant_is (At (pos 0)) (ap At (omega (arith, ints)))).1

-- the functions of the results
sum_path : (a b : Form) → IsForm a → IsForm b → value_at (form_sum a b) ≡ sum_at (value_at a) (value_at b)
sum_path a b ia ib = λ i k. form_sum_values a b ia ib k i

product_path : (a b : Form) → IsForm a → IsForm b → value_at (form_product a b) ≡ product_at (value_at a) (value_at b)
product_path a b ia ib = λ i k. form_product_values a b ia ib k i

star_path : (a : Form) → IsForm a → value_at (form_star a) ≡ star_at (value_at a)
star_path a ia = λ i k. form_star_values a ia k i

-- forms of one function
by_path : (a b : Form) (s t : ℕ → Date) → IsCanonical a → IsCanonical b → value_at a ≡ s → value_at b ≡ t → ((k : ℕ) → s k ≡ t k) → a ≡ b
by_path a b s t ca cb e g h = one_canonical a b ca cb (λ k. ap (λ (z : ℕ → Date). z k) e ∙ h k ∙ sym (ap (λ (z : ℕ → Date). z k) g))

-- one is at most another exactly where each value is
at_most_is : (a b : Form) → IsCanonical a → IsCanonical b → ((k : ℕ) → Le (value_at a k) (value_at b k)) → IsAtMost form_sum a b
at_most_is a b ca cb h = one_canonical (form_sum a b) b (form_sum_is a b ca.form cb.form) cb (λ k.
    form_sum_values a b ca.form cb.form k ∙ later_commutes (value_at a k) (value_at b k) ∙ later_is_left (h k))

is_at_most : (a b : Form) → IsCanonical a → IsCanonical b → IsAtMost form_sum a b → (k : ℕ) → Le (value_at a k) (value_at b k)
is_at_most a b ca cb h k = le_trans (le_later_left (value_at a k) (value_at b k)) (le_is (sym (form_sum_values a b ca.form cb.form k) ∙ ap (λ (z : Form). value_at z k) h))

pub forms_closed : IsClosed IsCanonical early_form zero_form form_sum form_product
forms_closed = record {
  zero_is = early_is;
  one_is = zero_is;
  sum_is = λ a b ca cb. form_sum_is a b ca.form cb.form;
  product_is = λ a b ca cb. form_product_is a b ca.form cb.form;
}

forms_sum_assoc : (a b c : Form) → IsCanonical a → IsCanonical b → IsCanonical c → form_sum (form_sum a b) c ≡ form_sum a (form_sum b c)
forms_sum_assoc a b c ca cb cc' =
    let ab : IsCanonical (form_sum a b) = form_sum_is a b ca.form cb.form in
    let bc : IsCanonical (form_sum b c) = form_sum_is b c cb.form cc'.form in
    by_path (form_sum (form_sum a b) c) (form_sum a (form_sum b c)) (sum_at (sum_at (value_at a) (value_at b)) (value_at c)) (sum_at (value_at a) (sum_at (value_at b) (value_at c)))
    (form_sum_is (form_sum a b) c ab.form cc'.form) (form_sum_is a (form_sum b c) ca.form bc.form)
    (sum_path (form_sum a b) c ab.form cc'.form ∙ ap (λ (z : ℕ → Date). sum_at z (value_at c)) (sum_path a b ca.form cb.form))
    (sum_path a (form_sum b c) ca.form bc.form ∙ ap (sum_at (value_at a)) (sum_path b c cb.form cc'.form))
    (λ k. later_assoc (value_at a k) (value_at b k) (value_at c k))

forms_product_assoc : (a b c : Form) → IsCanonical a → IsCanonical b → IsCanonical c → form_product (form_product a b) c ≡ form_product a (form_product b c)
forms_product_assoc a b c ca cb cc' =
    let ab : IsCanonical (form_product a b) = form_product_is a b ca.form cb.form in
    let bc : IsCanonical (form_product b c) = form_product_is b c cb.form cc'.form in
    by_path (form_product (form_product a b) c) (form_product a (form_product b c))
    (product_at (product_at (value_at a) (value_at b)) (value_at c)) (product_at (value_at a) (product_at (value_at b) (value_at c)))
    (form_product_is (form_product a b) c ab.form cc'.form) (form_product_is a (form_product b c) ca.form bc.form)
    (product_path (form_product a b) c ab.form cc'.form ∙ ap (λ (z : ℕ → Date). product_at z (value_at c)) (product_path a b ca.form cb.form))
    (product_path a (form_product b c) ca.form bc.form ∙ ap (product_at (value_at a)) (product_path b c cb.form cc'.form))
    (product_assoc (value_at a) (value_at b) (value_at c))

forms_commute : (a b : Form) → IsCanonical a → IsCanonical b → form_product a b ≡ form_product b a
forms_commute a b ca cb = by_path (form_product a b) (form_product b a) (product_at (value_at a) (value_at b)) (product_at (value_at b) (value_at a))
    (form_product_is a b ca.form cb.form) (form_product_is b a cb.form ca.form) (product_path a b ca.form cb.form) (product_path b a cb.form ca.form) (product_commutes (value_at a) (value_at b))

forms_distribute : (a b c : Form) → IsCanonical a → IsCanonical b → IsCanonical c → form_product a (form_sum b c) ≡ form_sum (form_product a b) (form_product a c)
forms_distribute a b c ca cb cc' =
    let bc : IsCanonical (form_sum b c) = form_sum_is b c cb.form cc'.form in
    let ab : IsCanonical (form_product a b) = form_product_is a b ca.form cb.form in
    let ac : IsCanonical (form_product a c) = form_product_is a c ca.form cc'.form in
    by_path (form_product a (form_sum b c)) (form_sum (form_product a b) (form_product a c))
    (product_at (value_at a) (sum_at (value_at b) (value_at c))) (sum_at (product_at (value_at a) (value_at b)) (product_at (value_at a) (value_at c)))
    (form_product_is a (form_sum b c) ca.form bc.form) (form_sum_is (form_product a b) (form_product a c) ab.form ac.form)
    (product_path a (form_sum b c) ca.form bc.form ∙ ap (product_at (value_at a)) (sum_path b c cb.form cc'.form))
    (sum_path (form_product a b) (form_product a c) ab.form ac.form
    ∙ ap (λ (z : ℕ → Date). sum_at z (value_at (form_product a c))) (product_path a b ca.form cb.form)
    ∙ ap (sum_at (product_at (value_at a) (value_at b))) (product_path a c ca.form cc'.form))
    (product_sum (value_at a) (value_at b) (value_at c))

forms_distribute_right : (a b c : Form) → IsCanonical a → IsCanonical b → IsCanonical c → form_product (form_sum a b) c ≡ form_sum (form_product a c) (form_product b c)
forms_distribute_right a b c ca cb cc' =
    forms_commute (form_sum a b) c (form_sum_is a b ca.form cb.form) cc' ∙ forms_distribute c a b cc' ca cb
    ∙ ap (λ (z : Form). form_sum z (form_product c b)) (forms_commute c a cc' ca) ∙ ap (form_sum (form_product a c)) (forms_commute c b cc' cb)

one_neutral : (a : Form) → IsCanonical a → form_product zero_form a ≡ a
one_neutral a ca = one_canonical (form_product zero_form a) a (form_product_is zero_form a zero_is.form ca.form) ca (λ k.
    form_product_values zero_form a zero_is.form ca.form k ∙ one_product (value_at zero_form) (value_at a) zero_values ca.form.rising k)

absorbs : (a : Form) → IsCanonical a → form_product early_form a ≡ early_form
absorbs a ca = one_canonical (form_product early_form a) early_form (form_product_is early_form a early_is.form ca.form) early_is (λ k.
    form_product_values early_form a early_is.form ca.form k ∙ early_product (value_at early_form) (value_at a) early_values k ∙ sym (early_values k))

pub form_laws : DioidLaws IsCanonical early_form zero_form form_sum form_product
form_laws = record {
  sum_assoc = forms_sum_assoc;
  sum_commutes = λ a b ca cb. one_canonical (form_sum a b) (form_sum b a) (form_sum_is a b ca.form cb.form) (form_sum_is b a cb.form ca.form)
      (λ k. form_sum_values a b ca.form cb.form k ∙ later_commutes (value_at a k) (value_at b k) ∙ sym (form_sum_values b a cb.form ca.form k));
  sum_idempotent = λ a ca. one_canonical (form_sum a a) a (form_sum_is a a ca.form ca.form) ca (λ k. form_sum_values a a ca.form ca.form k ∙ later_idempotent (value_at a k));
  product_assoc = forms_product_assoc;
  left_distributes = forms_distribute;
  right_distributes = forms_distribute_right;
  zero_neutral = λ a ca. one_canonical (form_sum early_form a) a (form_sum_is early_form a early_is.form ca.form) ca
      (λ k. form_sum_values early_form a early_is.form ca.form k ∙ ap (λ z. later_of z (value_at a k)) (early_values k));
  zero_absorbs_left = absorbs;
  zero_absorbs_right = λ a ca. forms_commute a early_form ca early_is ∙ absorbs a ca;
  one_neutral_left = one_neutral;
  one_neutral_right = λ a ca. forms_commute a zero_form ca zero_is ∙ one_neutral a ca;
}

pub form_star_laws : StarLaws IsCanonical form_sum form_product form_star
form_star_laws = record { star_is = λ a ca. form_star_is a ca.form; solves = solves; least = least } where
  solves : (a b : Form) → IsCanonical a → IsCanonical b → IsAtMost form_sum (form_sum (form_product a (form_product (form_star a) b)) b) (form_product (form_star a) b)
  solves a b ca cb =
      let cs : IsCanonical (form_star a) = form_star_is a ca.form in
      let sb : IsCanonical (form_product (form_star a) b) = form_product_is (form_star a) b cs.form cb.form in
      let asb : IsCanonical (form_product a (form_product (form_star a) b)) = form_product_is a (form_product (form_star a) b) ca.form sb.form in
      let p : value_at (form_product (form_star a) b) ≡ product_at (star_at (value_at a)) (value_at b) =
      product_path (form_star a) b cs.form cb.form ∙ ap (λ (z : ℕ → Date). product_at z (value_at b)) (star_path a ca.form) in
      let q : value_at (form_product a (form_product (form_star a) b)) ≡ product_at (value_at a)
      (product_at (star_at (value_at a)) (value_at b)) = product_path a (form_product (form_star a) b) ca.form sb.form ∙ ap (product_at (value_at a)) p in
      at_most_is (form_sum (form_product a (form_product (form_star a) b)) b) (form_product (form_star a) b) (form_sum_is (form_product a (form_product (form_star a) b)) b asb.form cb.form) sb
      (λ k. le_trans (le_is (form_sum_values (form_product a (form_product (form_star a) b)) b asb.form cb.form k ∙ ap (λ (z : ℕ → Date). later_of (z k) (value_at b k)) q))
      (le_trans (star_solves (value_at a) (value_at b) ca.form.rising k) (le_is (sym (ap (λ (z : ℕ → Date). z k) p)))))

  least : (a b x : Form) → IsCanonical a → IsCanonical b → IsCanonical x → IsAtMost form_sum (form_sum (form_product a x) b) x → IsAtMost form_sum (form_product (form_star a) b) x
  least a b x ca cb cx h =
      let cs : IsCanonical (form_star a) = form_star_is a ca.form in
      let sb : IsCanonical (form_product (form_star a) b) = form_product_is (form_star a) b cs.form cb.form in
      let ax : IsCanonical (form_product a x) = form_product_is a x ca.form cx.form in
      let axb : IsCanonical (form_sum (form_product a x) b) = form_sum_is (form_product a x) b ax.form cb.form in
      let p : value_at (form_product (form_star a) b) ≡ product_at (star_at (value_at a)) (value_at b) =
      product_path (form_star a) b cs.form cb.form ∙ ap (λ (z : ℕ → Date). product_at z (value_at b)) (star_path a ca.form) in
      let holds : (k : ℕ) → Le (later_of (product_at (value_at a) (value_at x) k) (value_at b k)) (value_at x k) = λ k.
      le_trans (le_is (sym (form_sum_values (form_product a x) b ax.form cb.form k
      ∙ ap (λ z. later_of z (value_at b k)) (form_product_values a x ca.form cx.form k)))) (is_at_most (form_sum (form_product a x) b) x axb cx h k) in
      at_most_is (form_product (form_star a) b) x sb cx (λ k. le_trans (le_is (ap (λ (z : ℕ → Date). z k) p)) (star_least (value_at a) (value_at b) (value_at x) cx.form.rising holds k))

pub form_residual_laws : ResidualLaws IsCanonical form_sum form_product form_left form_least
form_residual_laws = record {
  left_is = λ a b ca cb. form_left_is a b ca.form cb.form;
  meet_is = λ a b ca cb. form_least_is a b ca.form cb.form;
  galois = λ a x b ca cx cb. (to a x b ca cx cb, from a x b ca cx cb);
  meet_greatest = λ x a b cx ca cb. (meet_to x a b cx ca cb, meet_from x a b cx ca cb);
} where
  to : (a x b : Form) → IsCanonical a → IsCanonical x → IsCanonical b → IsAtMost form_sum (form_product a x) b → IsAtMost form_sum x (form_left a b)
  to a x b ca cx cb h =
      let ax : IsCanonical (form_product a x) = form_product_is a x ca.form cx.form in
      let ab : IsCanonical (form_left a b) = form_left_is a b ca.form cb.form in
      at_most_is x (form_left a b) cx ab (λ k. le_trans
      ((left_is a b ca.form cb.form k).greatest (value_at x k) (λ i. to_left (value_at a i)
      (le_trans (le_product (value_at a) (value_at x) i k (k + i) (omega arith))
      (le_trans (le_is (sym (form_product_values a x ca.form cx.form (k + i)))) (is_at_most (form_product a x) b ax cb h (k + i))))))
      (le_is (sym (form_left_values a b ca.form cb.form k))))

  from : (a x b : Form) → IsCanonical a → IsCanonical x → IsCanonical b → IsAtMost form_sum x (form_left a b) → IsAtMost form_sum (form_product a x) b
  from a x b ca cx cb h =
      let ax : IsCanonical (form_product a x) = form_product_is a x ca.form cx.form in
      let ab : IsCanonical (form_left a b) = form_left_is a b ca.form cb.form in
      at_most_is (form_product a x) b ax cb (λ k. le_trans (le_is (form_product_values a x ca.form cx.form k))
      (product_at_le (value_at a) (value_at x) k (value_at b k) (λ i j e. from_left (value_at a i)
      (le_trans (le_trans (is_at_most x (form_left a b) cx ab h j) (le_is (form_left_values a b ca.form cb.form j)))
      (le_trans ((left_is a b ca.form cb.form j).below i) (le_is (let g : j + i ≡ k = omega arith in ap (λ (z : ℕ). date_left (value_at a i) (value_at b z)) g)))))))

  meet_to : (x a b : Form) → IsCanonical x → IsCanonical a → IsCanonical b → IsAtMost form_sum x (form_least a b) → IsAtMost form_sum x a × IsAtMost form_sum x b
  meet_to x a b cx ca cb h =
      let ab : IsCanonical (form_least a b) = form_least_is a b ca.form cb.form in
      let low : (k : ℕ) → Le (value_at x k) (earlier_of (value_at a k) (value_at b k)) = λ k. le_trans (is_at_most x (form_least a b) cx ab h k) (le_is (form_least_values a b ca.form cb.form k)) in
      (at_most_is x a cx ca (λ k. le_trans (low k) (earlier_le_left (value_at a k) (value_at b k))), at_most_is x b cx cb (λ k. le_trans (low k) (earlier_le_right (value_at a k) (value_at b k))))

  meet_from : (x a b : Form) → IsCanonical x → IsCanonical a → IsCanonical b → IsAtMost form_sum x a × IsAtMost form_sum x b → IsAtMost form_sum x (form_least a b)
  meet_from x a b cx ca cb h = at_most_is x (form_least a b) cx (form_least_is a b ca.form cb.form)
      (λ k. le_trans (le_earlier (is_at_most x a cx ca h.0 k) (is_at_most x b cx cb h.1 k)) (le_is (sym (form_least_values a b ca.form cb.form k))))
