-- Rows of dates that are those of the least dating, and lines of words.
use Rattle.std.proofs.Common.{ℕ, ◌+◌, ◌*◌, ◌/◌, ◌<◌, ◌≤◌, ◌≡◌, List, [], ◌∷◌, length, map, refl, sym, ap, ◌∙◌, arith}
use Rattle.std.proofs.Math.Nat.{mul-div_cancel}
use Rattle.std.proofs.lemmas.List.{ext_get_or}
use Rattle.std.proofs.lemmas.List.FromFn.{get_or-map-range_with_len, length-map-range_with_len}
use Rattle.std.specs.Fmt.{decimal}
use Rattle.std.specs.List.{range_with_len}
use Rattle.dioid.specs.declared.dates.Date.{Date}
use Rattle.teg_net.specs.Nets.{NetLists, IsNet}
use Rattle.teg_model.specs.Datings.{IsLeastDating, listed_releases}
use Rattle.teg_net.specs.Limits.{greatest_firing_number}
use Rattle.teg_model.proofs.OfNet.{only_least}
use Rattle.dating_certificates.specs.CheckedRows.{AreFirstRows, date_in_rows}
use Rattle.answer_check.specs.ShownLists.{all_names_line, count_line, lines_of_words, words_line}

-- two lists over numbers whose items are the same, number by number
pub maps_same : {A : Type 0} (d : A) (f g : ℕ → A) (a n : ℕ) → ((k : ℕ) → a ≤ k → k < a + n → f k ≡ g k) → map f (range_with_len a n) ≡ map g (range_with_len a n)
maps_same d f g a n h =
    ext_get_or d (map f (range_with_len a n)) (map g (range_with_len a n)) (length-map-range_with_len f a n ∙ sym (length-map-range_with_len g a n))
    (λ i l.
    let l' : i < n = rw (length-map-range_with_len f a n) at l in
    get_or-map-range_with_len f a n i (a + i) d l' refl ∙ (h (a + i) (omega arith) (omega arith) ∙ sym (get_or-map-range_with_len g a n i (a + i) d l' refl)))

-- the lines tell the words up to the number alone
pub lines_same : (net : NetLists) (u v : ℕ → ℕ → List ℕ) (count : ℕ) → ((t k : ℕ) → t < length net.transitions → 1 ≤ k → k ≤ count → u t k ≡ v t k)
    → lines_of_words net u count ≡ lines_of_words net v count
lines_same net u v count h =
    let width : ℕ = length net.transitions in
    let words : (k : ℕ) → 1 ≤ k → k < 1 + count → words_line width u k ≡ words_line width v k = λ k o l.
    ap (λ (ws : List (List ℕ)). decimal k ∷ ws) (maps_same [] (λ t. u t k) (λ t. v t k) 0 width (λ t _ lt. h t k (omega (arith, lt)) o (omega (arith, l)))) in
    ap (λ (rows : List (List (List ℕ))). count_line count ∷ all_names_line net ∷ rows) (maps_same [] (words_line width u) (words_line width v) 1 count words)

-- so many whole rows are no other number of rows
same_rows : (width rows count length_ : ℕ) → 1 ≤ width → length_ ≡ rows * width → length_ ≡ count * width → rows ≡ count
same_rows width rows count length_ some e f = sym (mul-div_cancel rows some) ∙ (ap (λ n. n / width) (sym e ∙ f) ∙ mul-div_cancel count some)

-- whole rows that are the first of the least dating have its dates
pub least_date : (net : NetLists) (dates : List Date) (count : ℕ) → IsNet net → AreFirstRows net dates → length dates ≡ count * length net.transitions
    → (x : ℕ → ℕ → Date) → IsLeastDating net x → (t k : ℕ) → t < length net.transitions → 1 ≤ k → k ≤ count → date_in_rows (length net.transitions) dates t k ≡ x t k
least_date net dates count ok first whole x least t k l o le =
    let rows : first.rows ≡ count = same_rows (length net.transitions) first.rows count (length dates) ok.some_transition first.whole.whole whole in
    first.same x least t k l o (omega (arith, le, rows))

-- whole rows with the dates of the least dating are its first rows
pub first_of_least : (net : NetLists) (dates : List Date) (count : ℕ) → IsNet net → count ≤ greatest_firing_number → length dates ≡ count * length net.transitions
    → (x : ℕ → ℕ → Date) → IsLeastDating net x → ((t k : ℕ) → t < length net.transitions → 1 ≤ k → k ≤ count → date_in_rows (length net.transitions) dates t k ≡ x t k)
    → AreFirstRows net dates
first_of_least net dates count ok few whole x least equal = record {
  rows = count;
  whole = record { whole = whole; few = few };
  same = λ y other t k l o m. equal t k l o m ∙ only_least net (listed_releases net) x y least other t k l o;
}
