-- The rows of a due list, and the date at which a firing is due.
use Rattle.std.proofs.Common.{ℕ, zero, suc, ◌<◌, ◌≡◌, ◌≢◌, List, [], ◌∷◌, true, false, length, get_or, Option, Some, None, refl, sym, ap, subst, ◌∙◌, arith, ⊎_elim}
use Rattle.std.specs.Prelude.{AllPairs, ◌==◌, ◌&&◌, Bool, unwrap_or, ⊤}
use Rattle.std.proofs.lemmas.Bool.{cases_Bool}
use Rattle.std.proofs.lemmas.Bool.Decides.{nat_tests}
use Rattle.teg_due.specs.declared.rows.DueRow.{DueRow}
use Rattle.teg_due.specs.RowRules.{AreApart, due_in}

-- whether the row names the firing
abbrev names : ℕ → ℕ → DueRow → Bool
names t k r = (r.transition.index == t) && (r.number == k)

abbrev IsNoDate : Option ℕ → Type 0
IsNoDate None = ⊤
IsNoDate (Some d) = ⊥

first_is : (r : DueRow) (rows : List DueRow) (t k : ℕ) → names t k r ≡ true → due_in (r ∷ rows) t k ≡ Some r.date
first_is r rows t k e = rw e refl

first_not : (r : DueRow) (rows : List DueRow) (t k : ℕ) → names t k r ≡ false → due_in (r ∷ rows) t k ≡ due_in rows t k
first_not r rows t k e = rw e refl

pub none_is_not : (d : ℕ) → None ≡ Some d → ⊥
none_is_not d h = subst IsNoDate h tt

pub date_is : (a b : ℕ) → Some a ≡ Some b → a ≡ b
date_is a b h = ap (λ o. unwrap_or o 0) h

-- where a firing is due, a row names it
pub row_of_due : (rows : List DueRow) (t k d : ℕ) → due_in rows t k ≡ Some d
    → (i : ℕ) × (i < length rows) × ((e : DueRow) → ((get_or rows i e).transition.index ≡ t) × ((get_or rows i e).number ≡ k) × ((get_or rows i e).date ≡ d))
row_of_due [] t k d h = absurd (none_is_not d h)
row_of_due (r ∷ rows) t k d h =
    ⊎_elim
    (λ (e : names t k r ≡ true).
    let at : r.transition.index ≡ t = grind (arith, nat_tests) in
    let number : r.number ≡ k = grind (arith, nat_tests) in
    let date : r.date ≡ d = date_is r.date d (sym (first_is r rows t k e) ∙ h) in
    (0, omega arith, λ f. (at, number, date)))
    (λ (e : names t k r ≡ false).
    let rest = row_of_due rows t k d (sym (first_not r rows t k e) ∙ h) in
    (suc rest.0, omega (arith, rest.1), λ f. rest.2 f))
    (cases_Bool (names t k r))

rest_apart : (r : DueRow) (rows : List DueRow) → AllPairs AreApart (r ∷ rows) → AllPairs AreApart rows
rest_apart r rows h i j d l m = h (suc i) (suc j) d (omega arith) (omega arith)

-- the firing that a row names is due at its date
pub due_of_row : (rows : List DueRow) (i : ℕ) (r : DueRow) → AllPairs AreApart rows → i < length rows → get_or rows i r ≡ r → due_in rows r.transition.index r.number ≡ Some r.date
due_of_row [] i r apart l is = absurd (omega arith)
due_of_row (q ∷ rows) zero r apart l is =
    let named : names r.transition.index r.number r ≡ true = grind (arith, nat_tests) in
    rw is (first_is r rows r.transition.index r.number named)
due_of_row (q ∷ rows) (suc i) r apart l is =
    ⊎_elim
    (λ (e : names r.transition.index r.number q ≡ true).
    let at : q.transition.index ≡ r.transition.index = grind (arith, nat_tests) in
    let number : q.number ≡ r.number = grind (arith, nat_tests) in
    absurd (⊎_elim (λ (a : q.transition.index ≢ r.transition.index). a at) (λ (b : q.number ≢ r.number). b number) (rw is at (apart 0 (suc i) r (omega arith) l))))
    (λ (e : names r.transition.index r.number q ≡ false).
    first_not q rows r.transition.index r.number e ∙ due_of_row rows i r (rest_apart q rows apart) (omega (arith, l)) is)
    (cases_Bool (names r.transition.index r.number q))
