-- A tree has one answer, but for want of memory.
use Rattle.std.proofs.Common.{◌≡◌, refl, ap, sym, ◌∙◌, subst, arith, ℕ, ℤ, pos, ◌+◌, ◌<◌, ◌≤◌, get_or, Result, Ok, Err, ◌⊎◌, inl, inr, ⊎_elim}
use Rattle.std.specs.Int.RustNames.{unsigned_abs}
use Rattle.std.proofs.lemmas.Bool.{cases_lt}
use Rattle.dioid.specs.Dates.{date_left}
use Rattle.dioid.specs.declared.dates.Date.{Date}
use Rattle.dioid.specs.declared.dates.Date.TheVariants.{Early, At, Never}
use Rattle.series_form.specs.declared.forms.SeriesRefused.{SeriesRefused}
use Rattle.series_form.specs.declared.forms.SeriesRefused.TheVariants.{TooLong, TooGreat, OutOfMemory}
use Rattle.series_ops.specs.series_laws.SeriesForms.{Form, value_at, HasValues, IsCanonical, monomial_at}
use Rattle.series_ops.specs.series_laws.Pointwise.{sum_at, least_at}
use Rattle.series_form.specs.NumberBounds.{IsSmallDate}
use Rattle.series_form.specs.SeriesLimits.{greatest_value}
use Rattle.series_form.proofs.Great.{no_great}
use Rattle.series_ops.proofs.series_laws_proofs.Canonical.{one_canonical}
use Rattle.series_form.specs.SeriesAnswers.{AnswersOf, IsConstant, IsFirstGreatValue, IsGreatStep}
use Rattle.series_ops.specs.series_laws.Product.{product_at}
use Rattle.series_ops.proofs.series_laws_proofs.StarParts.{star_only}
use Rattle.series_ops.proofs.series_laws_proofs.ResidualsRepeat.{one_greatest}
use Rattle.teg_calc.specs.ExpressionTrees.{Tree, mono, epsilon, unit, never, plus, times, star, least, left}
use Rattle.teg_calc.specs.Meaning.{AnswersBoth, AnswersInOrder, AnswersOne, AnswersAfter, Evaluates, AreOneAnswer, signed_date, sum_answers, product_answers, least_answers, left_answers, star_answers}

-- ---- one operation

-- a value that is great is not small
great_here : (f : Form) (place : ℕ) (v : ℤ) → get_or f.values place Early ≡ At v → greatest_value < unsigned_abs v → IsSmallDate (get_or f.values place Early) → ⊥
great_here f place v e high small = let low : unsigned_abs v ≤ greatest_value = rw e at small in omega arith

-- the first great number is one
one_great : (f : Form) (v u : ℤ) → (IsFirstGreatValue f v ⊎ IsGreatStep f v) → (IsFirstGreatValue f u ⊎ IsGreatStep f u) → v ≡ u
one_great f v u (inl g) (inl k) = ⊎_elim
    (λ (earlier : g.place < k.place). absurd (great_here f g.place v g.value g.great (k.before g.place earlier)))
    (λ (later : k.place ≤ g.place). ⊎_elim
    (λ (low : k.place < g.place). absurd (great_here f k.place u k.value k.great (g.before k.place low)))
    (λ (high : g.place ≤ k.place).
    let same : g.place ≡ k.place = omega arith in
    let e : At v ≡ At u = sym g.value ∙ (ap (λ (z : ℕ). get_or f.values z Early) same ∙ k.value) in
    cc)
    (cases_lt k.place g.place))
    (cases_lt g.place k.place)
one_great f v u (inl g) (inr k) = absurd (great_here f g.place v g.value g.great (k.values g.place))
one_great f v u (inr g) (inl k) = absurd (great_here f k.place u k.value k.great (g.values k.place))
one_great f v u (inr g) (inr k) = sym g.value ∙ k.value

-- answers of what holds of one canonical form alone
answers_one : (is : Form → Type 0) (need carried : ℕ) → ((f g : Form) → IsCanonical f → IsCanonical g → is f → is g → f ≡ g) → (r s : Result Form SeriesRefused)
    → AnswersOf is need carried r → AnswersOf is need carried s → AreOneAnswer r s
answers_one is need carried one (Err OutOfMemory) s h k = inr (inl refl)
answers_one is need carried one (Ok f) (Err OutOfMemory) h k = inr (inr refl)
answers_one is need carried one (Err (TooLong n)) (Err OutOfMemory) h k = inr (inr refl)
answers_one is need carried one (Err (TooGreat v)) (Err OutOfMemory) h k = inr (inr refl)
answers_one is need carried one (Ok f) (Ok g) h k = inl (ap (λ (z : Form). Ok z) (one f g h.0.canonical k.0.canonical h.1 k.1))
answers_one is need carried one (Ok f) (Err (TooLong n)) h k = absurd (omega (arith, h.2, k.0))
answers_one is need carried one (Ok f) (Err (TooGreat v)) h k =
    let e : f ≡ k.1.form = one f k.1.form h.0.canonical k.1.canonical h.1 k.1.values in
    absurd (no_great k.1.form v (rw e at h.0.small) k.1.number)
answers_one is need carried one (Err (TooLong n)) (Ok g) h k = absurd (omega (arith, h.0, k.2))
answers_one is need carried one (Err (TooLong n)) (Err (TooLong m)) h k = inl (ap (λ (z : ℕ). Err (TooLong z)) (h.1 ∙ sym k.1))
answers_one is need carried one (Err (TooLong n)) (Err (TooGreat v)) h k = absurd (omega (arith, h.0, k.0))
answers_one is need carried one (Err (TooGreat v)) (Ok g) h k =
    let e : g ≡ h.1.form = one g h.1.form k.0.canonical h.1.canonical k.1 h.1.values in
    absurd (no_great h.1.form v (rw e at k.0.small) h.1.number)
answers_one is need carried one (Err (TooGreat v)) (Err (TooLong n)) h k = absurd (omega (arith, h.0, k.0))
answers_one is need carried one (Err (TooGreat v)) (Err (TooGreat u)) h k =
    let e : h.1.form ≡ k.1.form = one h.1.form k.1.form h.1.canonical k.1.canonical h.1.values k.1.values in
    inl (ap (λ (z : ℤ). Err (TooGreat z)) (one_great k.1.form v u (rw e at h.1.number) k.1.number))

one_function : (s : ℕ → Date) (f g : Form) → IsCanonical f → IsCanonical g → HasValues f s → HasValues g s → f ≡ g
one_function s f g a b h k = one_canonical f g a b (λ n. h n ∙ sym (k n))

constant_one : (d : Date) (r s : Result Form SeriesRefused) → IsConstant d r → IsConstant d s → AreOneAnswer r s
constant_one d (Ok f) (Ok g) h k = inl (ap (λ (z : Form). Ok z) (h.0 ∙ sym k.0))
constant_one d (Ok f) (Err (TooLong n)) h k = absurd k
constant_one d (Ok f) (Err (TooGreat v)) h k = absurd k
constant_one d (Ok f) (Err OutOfMemory) h k = inr (inr refl)
constant_one d (Err (TooLong n)) s h k = absurd h
constant_one d (Err (TooGreat v)) s h k = absurd h
constant_one d (Err OutOfMemory) s h k = inr (inl refl)

-- ---- operands, then the operator

abbrev pub HasOne : (Result Form SeriesRefused → Type 0) → Type 0
HasOne A = (r s : Result Form SeriesRefused) → A r → A s → AreOneAnswer r s

one_form : (A : Result Form SeriesRefused → Type 0) → HasOne A → (f g : Form) → A (Ok f) → A (Ok g) → f ≡ g
one_form A one f g h k = ⊎_elim
    (λ (e : Ok f ≡ Ok g). let same : f ≡ g = cc in same)
    (λ (e : (Ok f ≡ Err OutOfMemory) ⊎ (Ok g ≡ Err OutOfMemory)). ⊎_elim (λ (x : Ok f ≡ Err OutOfMemory). cc) (λ (x : Ok g ≡ Err OutOfMemory). cc) e)
    (one (Ok f) (Ok g) h k)

-- a refusal as an answer
abbrev err : SeriesRefused → Result Form SeriesRefused
err why = Err why

-- a refusal beside a series is want of memory
clash : (A : Result Form SeriesRefused → Type 0) → HasOne A → (f : Form) (why : SeriesRefused) → A (Ok f) → A (Err why) → err why ≡ err OutOfMemory
clash A one f why h k = ⊎_elim
    (λ (e : Ok f ≡ Err why). cc)
    (λ (e : (Ok f ≡ Err OutOfMemory) ⊎ (err why ≡ err OutOfMemory)). ⊎_elim (λ (x : Ok f ≡ Err OutOfMemory). cc) (λ (x : err why ≡ err OutOfMemory). x) e)
    (one (Ok f) (Err why) h k)

both_one : (A B : Result Form SeriesRefused → Type 0) (op : Form → Form → Result Form SeriesRefused → Type 0) → HasOne A → HasOne B → ((f g : Form) → HasOne (op f g))
    → (r s : Result Form SeriesRefused) → AnswersBoth A B op r → AnswersBoth A B op s → AreOneAnswer r s
both_one A B op a b o r s h k =
    let e : h.left ≡ k.left = one_form A a h.left k.left h.is_left k.is_left in
    let g : h.right ≡ k.right = one_form B b h.right k.right h.is_right k.is_right in
    let first : op k.left h.right r = subst (λ z. op z h.right r) e h.answer in
    o k.left k.right r s (subst (λ z. op k.left z r) g first) k.answer

in_order_one : (A B : Result Form SeriesRefused → Type 0) (op : Form → Form → Result Form SeriesRefused → Type 0) → HasOne A → HasOne B
    → ((f g : Form) → HasOne (op f g)) → HasOne (AnswersInOrder A B op)
in_order_one A B op a b o (Ok r) (Ok s) h k = both_one A B op a b o (Ok r) (Ok s) h k
in_order_one A B op a b o (Ok r) (Err why) h (inl x) = inr (inr (clash A a h.left why h.is_left x))
in_order_one A B op a b o (Ok r) (Err why) h (inr (inl x)) = inr (inr (clash B b h.right why h.is_right x.refused))
in_order_one A B op a b o (Ok r) (Err why) h (inr (inr x)) = both_one A B op a b o (Ok r) (Err why) h x
in_order_one A B op a b o (Err why) (Ok s) (inl x) k = inr (inl (clash A a k.left why k.is_left x))
in_order_one A B op a b o (Err why) (Ok s) (inr (inl x)) k = inr (inl (clash B b k.right why k.is_right x.refused))
in_order_one A B op a b o (Err why) (Ok s) (inr (inr x)) k = both_one A B op a b o (Err why) (Ok s) x k
in_order_one A B op a b o (Err why) (Err that) (inl x) (inl y) = a (Err why) (Err that) x y
in_order_one A B op a b o (Err why) (Err that) (inl x) (inr (inl y)) = inr (inl (clash A a y.left why y.is_left x))
in_order_one A B op a b o (Err why) (Err that) (inl x) (inr (inr y)) = inr (inl (clash A a y.left why y.is_left x))
in_order_one A B op a b o (Err why) (Err that) (inr (inl x)) (inl y) = inr (inr (clash A a x.left that x.is_left y))
in_order_one A B op a b o (Err why) (Err that) (inr (inl x)) (inr (inl y)) = b (Err why) (Err that) x.refused y.refused
in_order_one A B op a b o (Err why) (Err that) (inr (inl x)) (inr (inr y)) = inr (inl (clash B b y.right why y.is_right x.refused))
in_order_one A B op a b o (Err why) (Err that) (inr (inr x)) (inl y) = inr (inr (clash A a x.left that x.is_left y))
in_order_one A B op a b o (Err why) (Err that) (inr (inr x)) (inr (inl y)) = inr (inr (clash B b x.right that x.is_right y.refused))
in_order_one A B op a b o (Err why) (Err that) (inr (inr x)) (inr (inr y)) = both_one A B op a b o (Err why) (Err that) x y

alone_one : (A : Result Form SeriesRefused → Type 0) (op : Form → Result Form SeriesRefused → Type 0) → HasOne A → ((f : Form) → HasOne (op f))
    → (r s : Result Form SeriesRefused) → AnswersOne A op r → AnswersOne A op s → AreOneAnswer r s
alone_one A op a o r s h k =
    let e : h.form ≡ k.form = one_form A a h.form k.form h.is_form k.is_form in
    o k.form r s (subst (λ z. op z r) e h.answer) k.answer

after_one : (A : Result Form SeriesRefused → Type 0) (op : Form → Result Form SeriesRefused → Type 0) → HasOne A → ((f : Form) → HasOne (op f)) → HasOne (AnswersAfter A op)
after_one A op a o (Ok r) (Ok s) h k = alone_one A op a o (Ok r) (Ok s) h k
after_one A op a o (Ok r) (Err why) h (inl x) = inr (inr (clash A a h.form why h.is_form x))
after_one A op a o (Ok r) (Err why) h (inr x) = alone_one A op a o (Ok r) (Err why) h x
after_one A op a o (Err why) (Ok s) (inl x) k = inr (inl (clash A a k.form why k.is_form x))
after_one A op a o (Err why) (Ok s) (inr x) k = alone_one A op a o (Err why) (Ok s) x k
after_one A op a o (Err why) (Err that) (inl x) (inl y) = a (Err why) (Err that) x y
after_one A op a o (Err why) (Err that) (inl x) (inr y) = inr (inl (clash A a y.form why y.is_form x))
after_one A op a o (Err why) (Err that) (inr x) (inl y) = inr (inr (clash A a x.form that x.is_form y))
after_one A op a o (Err why) (Err that) (inr x) (inr y) = alone_one A op a o (Err why) (Err that) x y

-- ---- trees

sum_one : (f g : Form) → HasOne (sum_answers f g)
sum_one f g r s h k = answers_one _ _ _ (one_function (sum_at (value_at f) (value_at g))) r s h k

least_one : (f g : Form) → HasOne (least_answers f g)
least_one f g r s h k = answers_one _ _ _ (one_function (least_at (value_at f) (value_at g))) r s h k

product_one : (f g : Form) → HasOne (product_answers f g)
product_one f g r s h k = answers_one _ _ _ (one_function (product_at (value_at f) (value_at g))) r s h k

left_one : (f g : Form) → HasOne (left_answers f g)
left_one f g r s h k = answers_one _ _ _
    (λ a b ca cb ha hb. one_canonical a b ca cb (λ n. one_greatest (λ i. date_left (value_at f i) (value_at g (n + i))) (value_at a n) (value_at b n) (ha n) (hb n))) r s h k

star_one : (f : Form) → HasOne (star_answers f)
star_one f r s h k = answers_one _ _ _
    (λ a b ca cb ha hb. one_canonical a b ca cb (λ n. star_only (value_at f) n (value_at a n) (ha n) ∙ sym (star_only (value_at f) n (value_at b n) (hb n)))) r s h k

pub one_answer : (t : Tree) → HasOne (Evaluates t)
one_answer (mono shift minus date) r s h k = answers_one _ _ _ (one_function (monomial_at shift (signed_date minus date))) r s h k
one_answer epsilon r s h k = constant_one Early r s h k
one_answer unit r s h k = constant_one (At (pos 0)) r s h k
one_answer never r s h k = constant_one Never r s h k
one_answer (plus a b) r s h k = in_order_one (Evaluates a) (Evaluates b) sum_answers (one_answer a) (one_answer b) sum_one r s h k
one_answer (times a b) r s h k = in_order_one (Evaluates a) (Evaluates b) product_answers (one_answer a) (one_answer b) product_one r s h k
one_answer (star a) r s h k = after_one (Evaluates a) star_answers (one_answer a) star_one r s h k
one_answer (least a b) r s h k = in_order_one (Evaluates a) (Evaluates b) least_answers (one_answer a) (one_answer b) least_one r s h k
one_answer (left a b) r s h k = in_order_one (Evaluates a) (Evaluates b) left_answers (one_answer a) (one_answer b) left_one r s h k
