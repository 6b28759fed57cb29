-- What all rows of a file keep, by what each accepted row keeps, and what its refusal keeps.
use Rattle.std.proofs.Common.{ℕ, ◌<◌, ◌+◌, ◌==◌, ◌&&◌, ◌⊎◌, ◌≢◌, ◌≡◌, ◌++◌, ◌∷◌, [], List, Bool, true, false, length, get_or, Result, Ok, Err, All, AllPairs, inl, inr, refl, subst, arith}
use Rattle.std.specs.List.{list_any}
use Rattle.std.proofs.lemmas.Bool.{cases_Bool}
use Rattle.std.proofs.lemmas.Bool.Decides.{nat_tests}
use Rattle.std.proofs.lemmas.List.Elements.{All-append, All-cons}
use Rattle.std.proofs.lemmas.List.Folds.{list_any_at}
use Rattle.std.proofs.lemmas.List.Quantifiers.{all_pairs_push}
use Rattle.csv_records.specs.RowsOfRecords.{and_then, with_record, rows_from, rows_of, with_read_row}

module _ {R E : Type 0} (is_header : List (List ℕ) → Bool) (row_of : List R → ℕ → List (List ℕ) → Result R E) where
  -- it holds of each accepted row and the rows before it
  abbrev pub OfAccepted : (List R → R → Type 0) → Type 0
  OfAccepted P = (rows : List R) (k : ℕ) (fields : List (List ℕ)) (r : R) → row_of rows k fields ≡ Ok r → P rows r

  -- it holds of each refusal of a row
  abbrev pub OfRefused : (E → Type 0) → Type 0
  OfRefused P = (rows : List R) (k : ℕ) (fields : List (List ℕ)) (why : E) → row_of rows k fields ≡ Err why → P why

  one_keeps : (Keeps : List R → Type 0) → OfAccepted (λ rows r. Keeps rows → Keeps (rows ++ r ∷ []))
      → (rows : List R) (k : ℕ) (fields : List (List ℕ)) (all : List R) → with_record is_header row_of rows k fields ≡ Ok all → Keeps rows → Keeps all
  one_keeps Keeps more rows k fields all e h = elim (cases_Bool ((k == 1) && is_header fields)) [
    | inl header ↦ let same : rows ≡ all = cc (rw header at e) in subst Keeps same h
    | inr other ↦ added (row_of rows k fields) (λ r is. more rows k fields r is h) (rw other at e)
  ]
    where
      added : (o : Result R E) → ((r : R) → o ≡ Ok r → Keeps (rows ++ r ∷ [])) → with_read_row rows o ≡ Ok all → Keeps all
      added (Ok r) new e = let same : rows ++ r ∷ [] ≡ all = cc e in subst Keeps same (new r refl)
      added (Err why) new e = cc e

  -- what holds of the rows before and with each accepted one holds of them after these records
  all_keep : (Keeps : List R → Type 0) → OfAccepted (λ rows r. Keeps rows → Keeps (rows ++ r ∷ []))
      → (records : List (List (List ℕ))) (rows : List R) (k : ℕ) (all : List R) → rows_from is_header row_of rows k records ≡ Ok all → Keeps rows → Keeps all
  all_keep Keeps more [] rows k all e h = let same : rows ≡ all = cc e in subst Keeps same h
  all_keep Keeps more (fields ∷ rest) rows k all e h =
      after (with_record is_header row_of rows k fields) (λ now. all_keep Keeps more rest now (k + 1) all) (λ now is. one_keeps Keeps more rows k fields now is h) e
    where
      after : (o : Result (List R) E) → ((now : List R) → rows_from is_header row_of now (k + 1) rest ≡ Ok all → Keeps now → Keeps all)
          → ((now : List R) → o ≡ Ok now → Keeps now) → and_then o (λ now. rows_from is_header row_of now (k + 1) rest) ≡ Ok all → Keeps all
      after (Ok now) on kept e = on now e (kept now refl)
      after (Err why) on kept e = cc e

  -- a rule that each accepted row keeps is kept by all rows of a file
  pub each_row : (Rule : R → Type 0) → OfAccepted (λ rows r. Rule r)
      → (records : List (List (List ℕ))) (all : List R) → rows_of is_header row_of records ≡ Ok all → All Rule all
  each_row Rule rule records all e = all_keep (All Rule) (λ rows k fields r is h. one_row_more rows r h (rule rows k fields r is)) records [] 1 all e none
    where
      none : All Rule []
      none k d lt = absurd (omega (arith, lt))

      one_row_more : (rows : List R) (r : R) → All Rule rows → Rule r → All Rule (rows ++ r ∷ [])
      one_row_more rows r h new = All-append Rule rows (r ∷ []) h (All-cons Rule r [] new none)

  -- the second row is not about what the first one is about
  abbrev Apart : (R → R → Bool) → R → R → Type 0
  Apart same d r = same r d ≡ false

  -- where no accepted row is about what an earlier one is about, no two rows of a file are about the same
  pub rows_once : (same : R → R → Bool) → OfAccepted (λ rows r. list_any (same r) rows ≡ false)
      → (records : List (List (List ℕ))) (all : List R) → rows_of is_header row_of records ≡ Ok all → AllPairs (λ d r. same r d ≡ false) all
  rows_once same fresh records all e = all_keep (AllPairs (Apart same)) (λ rows k fields r is h. all_pairs_push (Apart same) rows r h (apart rows r (fresh rows k fields r is))) records [] 1 all e none
    where
      none : AllPairs (Apart same) []
      none i j d lt within = absurd (omega (arith, within))

      apart : (rows : List R) (r : R) → list_any (same r) rows ≡ false → (i : ℕ) (d : R) → i < length rows → Apart same (get_or rows i d) r
      apart rows r new i d lt = elim (cases_Bool (same r (get_or rows i d))) [
        | inl one ↦ cc (new, list_any_at (same r) rows i d lt one)
        | inr other ↦ other
      ]

  one_refused : (Rule : E → Type 0) → OfRefused Rule
      → (rows : List R) (k : ℕ) (fields : List (List ℕ)) (why : E) → with_record is_header row_of rows k fields ≡ Err why → Rule why
  one_refused Rule rule rows k fields why e = elim (cases_Bool ((k == 1) && is_header fields)) [
    | inl header ↦ cc (rw header at e)
    | inr other ↦ refused (row_of rows k fields) (rule rows k fields) (rw other at e)
  ]
    where
      refused : (o : Result R E) → ((why : E) → o ≡ Err why → Rule why) → with_read_row rows o ≡ Err why → Rule why
      refused (Ok r) rule e = cc e
      refused (Err other) rule e = let same : other ≡ why = cc e in subst Rule same (rule other refl)

  some_refused : (Rule : E → Type 0) → OfRefused Rule
      → (records : List (List (List ℕ))) (rows : List R) (k : ℕ) (why : E) → rows_from is_header row_of rows k records ≡ Err why → Rule why
  some_refused Rule rule [] rows k why e = cc e
  some_refused Rule rule (fields ∷ rest) rows k why e =
      after (with_record is_header row_of rows k fields) (λ now. some_refused Rule rule rest now (k + 1) why) (one_refused Rule rule rows k fields why) e
    where
      after : (o : Result (List R) E) → ((now : List R) → rows_from is_header row_of now (k + 1) rest ≡ Err why → Rule why)
          → (o ≡ Err why → Rule why) → and_then o (λ now. rows_from is_header row_of now (k + 1) rest) ≡ Err why → Rule why
      after (Ok now) on one e = on now e
      after (Err other) on one e = one e

  -- what each refusal of a row keeps is kept by that of a file
  pub rows_refused : (Rule : E → Type 0) → OfRefused Rule
      → (records : List (List (List ℕ))) (why : E) → rows_of is_header row_of records ≡ Err why → Rule why
  rows_refused Rule rule records why e = some_refused Rule rule records [] 1 why e

-- numbers that are found to differ do
pub differ : (s t : ℕ) → (s == t) ≡ false → s ≢ t
differ s t e same = cc (rw (same, equal t) at e)
  where
    equal : (n : ℕ) → (n == n) ≡ true
    equal n = grind (arith, nat_tests)

-- two that are not found to have both the same column and the same number differ in one of them
pub differ_in_one : (s t m n : ℕ) → ((s == t) && (m == n)) ≡ false → (s ≢ t) ⊎ (m ≢ n)
differ_in_one s t m n e = elim (cases_Bool (s == t)) [
  | inl same ↦ inr (differ m n (rw same at e))
  | inr other ↦ inl (differ s t other)
]
