-- The series that a tree's evaluation answers is what the tree means.
use Rattle.std.proofs.Common.{◌≡◌, refl, ap, ◌∙◌, ℕ, pos, Result, Ok, Err, IfOk}
use Rattle.dioid.specs.Dates.{move}
use Rattle.dioid.specs.declared.dates.Date.{Date}
use Rattle.dioid.specs.declared.dates.Date.TheVariants.{Early, At, Never}
use Rattle.series_form.specs.declared.forms.SeriesRefused.{SeriesRefused}
use Rattle.series_form.specs.SeriesAnswers.{IsConstant}
use Rattle.series_ops.specs.series_laws.SeriesForms.{Form, value_at}
use Rattle.series_ops.proofs.series_laws_proofs.Canonical.{constant_is}
use Rattle.teg_calc.specs.ExpressionTrees.{Tree, mono, epsilon, unit, never, plus, times, star, least, left}
use Rattle.teg_calc.specs.Meaning.{Means, Evaluates}

constant_means : (d : Date) → move (pos 0) d ≡ d → (s : Form) → IsConstant d (Ok s) → (k : ℕ) → value_at s k ≡ d
constant_means d e s h k = ap (λ (z : Form). value_at z k) h.0 ∙ (constant_is d e).1 k

means_of : (t : Tree) (s : Form) → Evaluates t (Ok s) → Means t (value_at s)
means_of (mono shift minus date) s h = h.1
means_of epsilon s h = constant_means Early refl s h
means_of unit s h = constant_means (At (pos 0)) refl s h
means_of never s h = constant_means Never refl s h
means_of (plus a b) s h = record { first = value_at h.left; second = value_at h.right; is_first = means_of a h.left h.is_left; is_second = means_of b h.right h.is_right; values = h.answer.1 }
means_of (times a b) s h = record { first = value_at h.left; second = value_at h.right; is_first = means_of a h.left h.is_left; is_second = means_of b h.right h.is_right; values = h.answer.1 }
means_of (star a) s h = record { operand = value_at h.form; is_operand = means_of a h.form h.is_form; values = h.answer.1 }
means_of (least a b) s h = record { first = value_at h.left; second = value_at h.right; is_first = means_of a h.left h.is_left; is_second = means_of b h.right h.is_right; values = h.answer.1 }
means_of (left a b) s h = record { first = value_at h.left; second = value_at h.right; is_first = means_of a h.left h.is_left; is_second = means_of b h.right h.is_right; values = h.answer.1 }

-- where the answer is a series
pub if_means : (t : Tree) (r : Result Form SeriesRefused) → Evaluates t r → IfOk r (λ s. Means t (value_at s))
if_means t (Ok s) h = means_of t s h
if_means t (Err e) h = tt
