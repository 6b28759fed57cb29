-- Columns of dates that are read off rows, one date and one column after another.
use Rattle.std.proofs.Common.{ℕ, zero, suc, ◌+◌, ◌-◌, ◌<◌, ◌≤◌, ◌≡◌, List, [], ◌∷◌, ◌++◌, map, length, get_or, refl, sym, ap, subst, ◌∙◌, arith, ⊎_elim}
use Rattle.std.proofs.lemmas.Bool.{cases_lt}
use Rattle.std.proofs.lemmas.List.{get_or_append_left, get_or-append_right, length-append}
use Rattle.dioid.specs.declared.dates.Date.{Date}
use Rattle.dioid.specs.declared.dates.Date.TheVariants.{Early}
use Rattle.date_rows.specs.DateTables.{TableDates, date_at}
use Rattle.run_rows.specs.ReadRuns.{IsColumn}

-- a column with the date of the next number
pub column_more : (rows : TableDates) (t first n : ℕ) (dates all : List Date) (d : Date) → IsColumn rows t first n dates → d ≡ date_at rows t (first + n) → all ≡ dates ++ d ∷ []
    → IsColumn rows t first (n + 1) all
column_more rows t first n dates all d h e is =
    let long = h.long in
    subst (IsColumn rows t first (n + 1)) (sym is)
    (record {
      long = length-append dates (d ∷ []) ∙ ap (λ m. m + 1) long;
      same = λ i l.
          ⊎_elim
          (λ (m : i < n). get_or_append_left dates (d ∷ []) Early i (omega (arith, m, long)) ∙ h.same i m)
          (λ (m : n ≤ i).
          let here : i ≡ n = omega (arith, l, m) in
          let none : n - length dates ≡ 0 = omega (arith, long) in
          rw here (get_or-append_right dates (d ∷ []) (length dates) n Early refl (omega (arith, long)) ∙ (ap (λ z. get_or (d ∷ []) z Early) none ∙ e)))
          (cases_lt i n);
    })

-- a fact of what each element is mapped to, and of one more
pub mapped_more : {X Y : Type 0} (f : X → Y) (P : ℕ → Y → Type 0) (d : Y) (xs : List X) (y : X)
    → ((t : ℕ) → t < length xs → P t (get_or (map f xs) t d)) → P (length xs) (f y) → (t : ℕ) → t < length xs + 1 → P t (get_or (map f (xs ++ y ∷ [])) t d)
mapped_more f P d [] y h e t l = let is : t ≡ 0 = omega (arith, l) in rw is e
mapped_more f P d (x ∷ xs) y h e zero l = h 0 (omega arith)
mapped_more f P d (x ∷ xs) y h e (suc t) l = mapped_more f (λ i. P (suc i)) d xs y (λ i m. h (suc i) (omega (arith, m))) e t (omega (arith, l))
