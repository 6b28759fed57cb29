-- Dates that are read one by one, and rows of them.
use Rattle.std.proofs.Common.{ℕ, ◌+◌, ◌-◌, ◌*◌, ◌<◌, ◌≤◌, ◌≡◌, List, [], ◌∷◌, ◌++◌, length, get_or, slice_index_or, refl, sym, ap, subst, ◌∙◌, arith, append-nil, append_assoc, ⊎_elim}
use Rattle.std.proofs.lemmas.Bool.{cases_lt}
use Rattle.std.proofs.lemmas.List.{get_or_append_left, get_or-append-add, length-append}
use Rattle.dioid.specs.declared.dates.Date.{Date}
use Rattle.dioid.specs.declared.dates.Date.TheVariants.{Early}
use Rattle.dating_certificates.specs.CheckedRows.{date_in_rows}
use Rattle.answer_check.specs.ListReading.{AreReadRows, AreRowDates, IsReadDate, IsRow, row_words, told_word}
use Rattle.answer_check.proofs.OtherRows.{row_fits}

-- the dates of so many words behind the first stand behind others
pub record AreReadUpTo (words : List (List ℕ)) (before after : List Date) (n : ℕ) : Type 0 where
  pub dates : List Date
  pub grown : after ≡ before ++ dates
  pub long : length dates ≡ n
  pub read : (t : ℕ) → t < n → IsReadDate (slice_index_or words (t + 1) []) (slice_index_or dates t Early)

pub none_read_yet : (words : List (List ℕ)) (before : List Date) → AreReadUpTo words before before 0
none_read_yet words before = record { dates = []; grown = sym (append-nil before); long = refl; read = λ t l. absurd (omega (arith, l)) }

-- one more date
at_end : (dates : List Date) (n : ℕ) (date : Date) → length dates ≡ n → get_or (dates ++ date ∷ []) n Early ≡ date
at_end dates n date long =
    let here : n ≡ length dates + 0 = omega (arith, long) in
    ap (λ (i : ℕ). get_or (dates ++ date ∷ []) i Early) here ∙ get_or-append-add dates (date ∷ []) 0 Early

pub one_more_read : (words : List (List ℕ)) (before after last : List Date) (n m : ℕ) (date : Date) → AreReadUpTo words before after n → IsReadDate (slice_index_or words (n + 1) []) date → last ≡ after ++ date ∷ [] → m ≡ n + 1
    → AreReadUpTo words before last m
one_more_read words before after last n m date h one pushed next = record {
  dates = h.dates ++ date ∷ [];
  grown = pushed ∙ (ap (λ (l : List Date). l ++ date ∷ []) h.grown ∙ append_assoc before h.dates (date ∷ []));
  long = (let long = h.long in omega (arith, length-append h.dates (date ∷ []), long, next));
  read = λ t l. ⊎_elim
      (λ (p : t < n). subst (IsReadDate (slice_index_or words (t + 1) [])) (sym (get_or_append_left h.dates (date ∷ []) Early t (let long = h.long in omega (arith, p, long)))) (h.read t p))
      (λ (p : n ≤ t).
      let e : t ≡ n = omega (arith, p, l, next) in
      subst (λ (i : ℕ). IsReadDate (slice_index_or words (i + 1) []) (slice_index_or (h.dates ++ date ∷ []) i Early)) (sym e)
      (subst (IsReadDate (slice_index_or words (n + 1) [])) (sym (at_end h.dates n date h.long)) one))
      (cases_lt t n);
}

-- the dates of a row
pub all_read : (words : List (List ℕ)) (before after : List Date) (n width : ℕ) → n ≡ width → AreReadUpTo words before after n → (dates : List Date) × (after ≡ before ++ dates) × AreRowDates width words dates
all_read words before after n width all h = (
  h.dates,
  h.grown,
  record { long = h.long ∙ all; read = λ t l. (let here : t < n = omega (arith, l, all) in h.read t here) },
)

-- one more row
pub row_read : (width n m : ℕ) (lines : List (List ℕ)) (before after more : List Date) → AreReadRows width n lines before → IsRow width m (row_words lines m) → AreRowDates width (row_words lines m) more
    → after ≡ before ++ more → m ≡ n + 1 → AreReadRows width m lines after
row_read width n m lines before after more h row each grown next =
    let whole = h.whole in
    let long = each.long in
    let wide : (n + 1) * width ≡ n * width + width = omega arith in
    record {
      whole = ap (λ (l : List Date). length l) grown ∙ (length-append before more ∙ (let sum : length before + length more ≡ n * width + width = omega (arith, whole, long) in sum ∙ (sym wide ∙ ap (λ (i : ℕ). i * width) (sym next))));
      rows = λ k o l. ⊎_elim
          (λ (p : k < m). h.rows k o (omega (arith, p, next)))
          (λ (p : m ≤ k). (let e : k ≡ m = omega (arith, p, l) in subst (λ (i : ℕ). IsRow width i (row_words lines i)) (sym e) row))
          (cases_lt k m);
      read = λ t k l o q. ⊎_elim
          (λ (p : k < m).
          let within : k ≤ n = omega (arith, p, next) in
          let fits : (k - 1) * width + width ≤ n * width = row_fits (k - 1) n width (omega (arith, o, within)) in
          let there : date_in_rows width after t k ≡ date_in_rows width before t k =
          ap (λ (ds : List Date). get_or ds ((k - 1) * width + t) Early) grown ∙ get_or_append_left before more Early ((k - 1) * width + t) (omega (arith, fits, whole, l)) in
          subst (IsReadDate (told_word lines t k)) (sym there) (h.read t k l o within))
          (λ (p : m ≤ k).
          let e : k ≡ m = omega (arith, p, q) in
          let back : m - 1 ≡ n = omega (arith, next) in
          let at : (m - 1) * width + t ≡ length before + t = ap (λ (i : ℕ). i * width + t) back ∙ ap (λ (i : ℕ). i + t) (sym whole) in
          let there : date_in_rows width after t m ≡ slice_index_or more t Early =
          ap (λ (ds : List Date). get_or ds ((m - 1) * width + t) Early) grown ∙ (ap (λ (i : ℕ). get_or (before ++ more) i Early) at ∙ get_or-append-add before more t Early) in
          subst (λ (i : ℕ). IsReadDate (told_word lines t i) (date_in_rows width after t i)) (sym e) (subst (IsReadDate (told_word lines t m)) (sym there) (each.read t l)))
          (cases_lt k m);
    }
