-- What a tree means, and what `evaluate` answers.
use Rattle.std.specs.Prelude.{◌≡◌, ℕ, ℤ, pos, neg_ℤ, ◌+◌, ◌⊎◌, Bool, true, false, Result, Ok, Err}
use Rattle.dioid.specs.declared.dates.Date.{Date}
use Rattle.dioid.specs.declared.dates.Date.TheVariants.{Early, At, Never}
use Rattle.series_form.specs.declared.forms.SeriesRefused.{SeriesRefused}
use Rattle.series_form.specs.declared.forms.SeriesRefused.TheVariants.{OutOfMemory}
use Rattle.series_ops.specs.series_laws.SeriesForms.{Form, value_at, HasValues, monomial_at}
use Rattle.series_ops.specs.series_laws.Pointwise.{sum_at, least_at}
use Rattle.series_ops.specs.series_laws.Needs.{need_of, sum_plan, least_plan}
use Rattle.series_form.specs.SeriesAnswers.{AnswersOf, IsConstant}
use Rattle.series_ops.specs.series_laws.Product.{product_at}
use Rattle.series_ops.specs.series_laws.StarOf.{IsStarOf}
use Rattle.series_ops.specs.series_laws.Residual.{IsLeftAt}
use Rattle.series_ops.specs.series_laws.ProductNeeds.{product_plan, left_plan, star_need, star_carried}
use Rattle.teg_calc.specs.ExpressionTrees.{Tree, mono, epsilon, unit, never, plus, times, star, least, left}

-- a date with its sign
abbrev pub signed_date : Bool → ℕ → ℤ
signed_date true date = neg_ℤ (pos date)
signed_date false date = pos date

-- ---- the meaning

-- s is the operation's at every shift, of a function that the first operand means and one that the second means
pub record IsOfTwo (IsFirst IsSecond : (ℕ → Date) → Type 0) (operation : (ℕ → Date) → (ℕ → Date) → ℕ → Date → Type 0) (s : ℕ → Date) : Type 0 where
  pub first : ℕ → Date
  pub second : ℕ → Date
  pub is_first : IsFirst first
  pub is_second : IsSecond second
  pub values : (k : ℕ) → operation first second k (s k)

-- s is the star at every shift of a function that the operand means
pub record IsStarOfOne (IsOperand : (ℕ → Date) → Type 0) (s : ℕ → Date) : Type 0 where
  pub operand : ℕ → Date
  pub is_operand : IsOperand operand
  pub values : (k : ℕ) → IsStarOf operand k (s k)

-- the function s is what the tree means, at every shift
abbrev pub Means : Tree → (ℕ → Date) → Type 0
Means (mono shift minus date) s = (k : ℕ) → s k ≡ monomial_at shift (signed_date minus date) k
Means epsilon s = (k : ℕ) → s k ≡ Early
Means unit s = (k : ℕ) → s k ≡ At (pos 0)
Means never s = (k : ℕ) → s k ≡ Never
Means (plus a b) s = IsOfTwo (Means a) (Means b) (λ f g k x. x ≡ sum_at f g k) s
Means (times a b) s = IsOfTwo (Means a) (Means b) (λ f g k x. x ≡ product_at f g k) s
Means (star a) s = IsStarOfOne (Means a) s
Means (least a b) s = IsOfTwo (Means a) (Means b) (λ f g k x. x ≡ least_at f g k) s
Means (left a b) s = IsOfTwo (Means a) (Means b) IsLeftAt s

-- ---- the answers

-- the answers that a call for the sum of two series may give
abbrev pub sum_answers : Form → Form → Result Form SeriesRefused → Type 0
sum_answers f g = AnswersOf (λ r. HasValues r (sum_at (value_at f) (value_at g))) (need_of (sum_plan f g)) (need_of (sum_plan f g))

-- the answers that a call for the minimum of two series may give
abbrev pub least_answers : Form → Form → Result Form SeriesRefused → Type 0
least_answers f g = AnswersOf (λ r. HasValues r (least_at (value_at f) (value_at g))) (need_of (least_plan f g)) (need_of (least_plan f g))

-- the answers that a call for the product of two series may give
abbrev pub product_answers : Form → Form → Result Form SeriesRefused → Type 0
product_answers f g = AnswersOf (λ r. HasValues r (product_at (value_at f) (value_at g))) (need_of (product_plan f g)) (need_of (product_plan f g))

-- the answers that a call for the residual of the second series by the first may give
abbrev pub left_answers : Form → Form → Result Form SeriesRefused → Type 0
left_answers f g = AnswersOf (λ r. (k : ℕ) → IsLeftAt (value_at f) (value_at g) k (value_at r k)) (need_of (left_plan f g)) (need_of (left_plan f g))

-- the answers that the star of a series may give
abbrev pub star_answers : Form → Result Form SeriesRefused → Type 0
star_answers f = AnswersOf (λ r. (k : ℕ) → IsStarOf (value_at f) k (value_at r k)) (star_need f) (star_carried f)

-- both operands have a series, and so the operator answers
pub record AnswersBoth (first second : Result Form SeriesRefused → Type 0) (operator : Form → Form → Result Form SeriesRefused → Type 0) (result : Result Form SeriesRefused) : Type 0 where
  pub left : Form
  pub right : Form
  pub is_left : first (Ok left)
  pub is_right : second (Ok right)
  pub answer : operator left right result

-- the first operand has a series, and the second is refused
pub record RefusesSecond (first second : Result Form SeriesRefused → Type 0) (why : SeriesRefused) : Type 0 where
  pub left : Form
  pub is_left : first (Ok left)
  pub refused : second (Err why)

-- the operator's answer where both operands have a series; otherwise the refusal of the first, and then of the second
abbrev pub AnswersInOrder : (Result Form SeriesRefused → Type 0) → (Result Form SeriesRefused → Type 0) → (Form → Form → Result Form SeriesRefused → Type 0) → Result Form SeriesRefused → Type 0
AnswersInOrder first second operator (Ok r) = AnswersBoth first second operator (Ok r)
AnswersInOrder first second operator (Err why) = first (Err why) ⊎ (RefusesSecond first second why ⊎ AnswersBoth first second operator (Err why))

-- the operand has a series, and so the operator answers
pub record AnswersOne (operand : Result Form SeriesRefused → Type 0) (operator : Form → Result Form SeriesRefused → Type 0) (result : Result Form SeriesRefused) : Type 0 where
  pub form : Form
  pub is_form : operand (Ok form)
  pub answer : operator form result

-- the operator's answer where the operand has a series; otherwise the refusal of the operand
abbrev pub AnswersAfter : (Result Form SeriesRefused → Type 0) → (Form → Result Form SeriesRefused → Type 0) → Result Form SeriesRefused → Type 0
AnswersAfter operand operator (Ok r) = AnswersOne operand operator (Ok r)
AnswersAfter operand operator (Err why) = operand (Err why) ⊎ AnswersOne operand operator (Err why)

-- the series of the tree, or the first refusal: operands from left to right, then the operator
abbrev pub Evaluates : Tree → Result Form SeriesRefused → Type 0
Evaluates (mono shift minus date) r = AnswersOf (λ f. HasValues f (monomial_at shift (signed_date minus date))) (shift + 1) (shift + 1) r
Evaluates epsilon r = IsConstant Early r
Evaluates unit r = IsConstant (At (pos 0)) r
Evaluates never r = IsConstant Never r
Evaluates (plus a b) r = AnswersInOrder (Evaluates a) (Evaluates b) sum_answers r
Evaluates (times a b) r = AnswersInOrder (Evaluates a) (Evaluates b) product_answers r
Evaluates (star a) r = AnswersAfter (Evaluates a) star_answers r
Evaluates (least a b) r = AnswersInOrder (Evaluates a) (Evaluates b) least_answers r
Evaluates (left a b) r = AnswersInOrder (Evaluates a) (Evaluates b) left_answers r

-- two answers are the same, or one of them is want of memory
abbrev pub AreOneAnswer : Result Form SeriesRefused → Result Form SeriesRefused → Type 0
AreOneAnswer r s = (r ≡ s) ⊎ ((r ≡ Err OutOfMemory) ⊎ (s ≡ Err OutOfMemory))

-- each tree has one answer, but for want of memory
abbrev pub HaveOneAnswer : Type 0
HaveOneAnswer = (t : Tree) (r s : Result Form SeriesRefused) → Evaluates t r → Evaluates t s → AreOneAnswer r s
