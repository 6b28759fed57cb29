-- Series that are made of lists.
use Rattle.std.proofs.Common.{ℕ, ◌≡◌, ◌+◌, ◌<◌, ◌≤◌, List, [], ◌∷◌, ◌++◌, Option, Some, Result, Ok, Err, length, get_or, refl, sym, subst, ◌∙◌, arith}
use Rattle.std.specs.Prelude.{IfOk, slice_get}
use Rattle.dioid.specs.declared.dates.Date.{Date}
use Rattle.forever_laws.specs.series_laws.SeriesForms.{Form, value_at, HasValues, IsCanonical}
use Rattle.series_form.specs.declared.forms.SeriesRefused.{SeriesRefused}
use Rattle.series_form.specs.declared.forms.SeriesRefused.TheVariants.{TooLong, TooGreat, OutOfMemory}
use Rattle.series_form.specs.NumberBounds.{IsSeries}
use Rattle.series_form.proofs.Great.{no_great}
use Rattle.series_form.specs.SeriesAnswers.{AnswersOf}
use Rattle.series_ops.specs.declared.gains.Gain.{Gain}
use Rattle.teg_net.specs.Nets.{NetLists}
use Rattle.endless_due.specs.declared.row.EndlessRow.{EndlessRow}
use Rattle.forever_laws.specs.SeriesColumns.{IsDueSeries, IsWalkSeries, due_date_at}
use Rattle.teg_settle.specs.walk_times.Transfers.{IsGreatestWalkTime}
use Rattle.std.proofs.lemmas.Option.{slice_get_read}
use Rattle.teg_forever.specs.InputAnswers.{FitsIfMade}

-- the gain of a series that was made
made_gain : {E : Type 0} (s : ℕ → Date) (n : ℕ) (made : Result Form SeriesRefused) (result : Result Gain E) (P : Gain → Type 0) → AnswersOf (λ f. HasValues f s) n n made
    → IfOk result (λ g. made ≡ Ok g.series) → ((g : Gain) → IsSeries g.series → HasValues g.series s → P g) → IfOk result P
made_gain s n made (Err e) P h k f = k
made_gain s n made (Ok g) P h k f = let a = subst (λ z. AnswersOf (λ r. HasValues r s) n n z) k h in f g a.0 a.1

pub due_made : {E : Type 0} (r : EndlessRow) (f : Form) (n : ℕ) (made : Result Form SeriesRefused) (result : Result Gain E)
    → ((k : ℕ) → value_at f k ≡ due_date_at r k) → AnswersOf (λ g. HasValues g (value_at f)) n n made
    → IfOk result (λ g. made ≡ Ok g.series) → IfOk result (λ g. IsDueSeries r g.series)
due_made r f n made result each h k = made_gain (value_at f) n made result (λ g. IsDueSeries r g.series) h k (λ g s v. record { canonical = s.canonical; dates = λ i. v i ∙ each i })

pub walk_made : {E : Type 0} (net : NetLists) (u t : ℕ) (f : Form) (n : ℕ) (made : Result Form SeriesRefused) (result : Result Gain E)
    → ((k : ℕ) → IsGreatestWalkTime net u t (k + 1) (value_at f k)) → AnswersOf (λ g. HasValues g (value_at f)) n n made
    → IfOk result (λ g. made ≡ Ok g.series) → IfOk result (λ g. IsWalkSeries net u t g.series)
walk_made net u t f n made result each h k =
    made_gain (value_at f) n made result (λ g. IsWalkSeries net u t g.series) h k
    (λ g s v. record { canonical = s.canonical; times = λ i. subst (IsGreatestWalkTime net u t (i + 1)) (sym (v i)) (each i) })

-- ---- refusals

-- a list whose canonical form is a series is refused for want of memory alone
fits_if_made : (s : ℕ → Date) (n : ℕ) (made : Result Form SeriesRefused) → n ≤ 20000
    → ((f : Form) → IsCanonical f → HasValues f s → IsSeries f) → AnswersOf (λ f. HasValues f s) n n made → FitsIfMade made
fits_if_made s n (Ok f) few fits h = tt
fits_if_made s n (Err (TooLong need)) few fits h = let long : 20000 < n = h.0 in absurd (omega arith)
fits_if_made s n (Err (TooGreat v)) few fits h = no_great h.1.form v (fits h.1.form h.1.canonical h.1.values).small h.1.number
fits_if_made s n (Err OutOfMemory) few fits h = tt

pub due_fits : (r : EndlessRow) (f : Form) (n : ℕ) (made : Result Form SeriesRefused) → n ≤ 20000 → ((d : Form) → IsDueSeries r d → IsSeries d) → ((k : ℕ) → value_at f k ≡ due_date_at r k)
    → AnswersOf (λ g. HasValues g (value_at f)) n n made → FitsIfMade made
due_fits r f n made few fits each h = fits_if_made (value_at f) n made few (λ g is v. fits g (record { canonical = is; dates = λ k. v k ∙ each k })) h

pub walk_fits : (net : NetLists) (u t : ℕ) (f : Form) (n : ℕ) (made : Result Form SeriesRefused) → n ≤ 20000
    → ((h : Form) → IsWalkSeries net u t h → IsSeries h) → ((k : ℕ) → IsGreatestWalkTime net u t (k + 1) (value_at f k))
    → AnswersOf (λ g. HasValues g (value_at f)) n n made → FitsIfMade made
walk_fits net u t f n made few fits each h =
    fits_if_made (value_at f) n made few (λ g is v. fits g (record { canonical = is; times = λ k. subst (IsGreatestWalkTime net u t (k + 1)) (sym (v k)) (each k) })) h

-- ---- places in lists

-- one thing stands at a place
pub some_is : {A : Type 0} (o : Option A) (a b : A) → o ≡ Some a → o ≡ Some b → a ≡ b
some_is o a b p q = let c : Some a ≡ Some b = sym p ∙ q in cc

-- what stands in a list is got from it
pub got : {A : Type 0} (xs : List A) (i : ℕ) (x : A) → i < length xs → x ≡ get_or xs i x → slice_get xs i ≡ Some x
got xs i x = slice_get_read xs (length xs) i x refl

-- what is put behind a list stands there
pub behind : {A : Type 0} (xs : List A) (x : A) → slice_get (xs ++ x ∷ []) (length xs) ≡ Some x
behind [] x = refl
behind (y ∷ xs) x = behind xs x
