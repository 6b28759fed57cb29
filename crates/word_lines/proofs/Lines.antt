-- What all words or lines pass, and that one text has one list of lines.
use Rattle.std.proofs.Common.{ℕ, zero, suc, ◌+◌, ◌<◌, ◌≤◌, ◌≡◌, Bool, true, List, [], ◌∷◌, length, map, get_or, sym, ap, refl, ◌∙◌, arith}
use Rattle.std.specs.List.{list_all, range_with_len}
use Rattle.std.proofs.lemmas.Bool.{and_from, and_parts}
use Rattle.teg_text.specs.WordReading.{lines_in}
use Rattle.teg_text.proofs.Reading.{written_read}
use Rattle.word_lines.specs.WordLines.{IsTextOf}

-- what all pass, each passes
pub passes_at : {A : Type 0} (test : A → Bool) (xs : List A) (i : ℕ) (d : A) → list_all test xs ≡ true → i < length xs → test (get_or xs i d) ≡ true
passes_at test [] i d h l = absurd (omega (arith, l))
passes_at test (x ∷ xs) zero d h l = (and_parts (test x) (list_all test xs) h).0
passes_at test (x ∷ xs) (suc i) d h l = passes_at test xs i d (and_parts (test x) (list_all test xs) h).1 (omega (arith, l))

-- lines over numbers pass what each of them passes
pub range_passes : {A : Type 0} (test : A → Bool) (f : ℕ → A) (a n : ℕ) → ((k : ℕ) → a ≤ k → k < a + n → test (f k) ≡ true) → list_all test (map f (range_with_len a n)) ≡ true
range_passes test f a zero h = refl
range_passes test f a (suc n) h = and_from _ _ (h a (omega arith) (omega arith)) (range_passes test f (a + 1) n (λ k l m. h k (omega (arith, l)) (omega (arith, m))))

-- one text has one list of lines
pub same_lines : (text : List ℕ) (lines others : List (List (List ℕ))) → IsTextOf text lines → IsTextOf text others → lines ≡ others
same_lines text lines others one two = sym (written_read lines one.are) ∙ (ap lines_in (sym one.told ∙ two.told) ∙ written_read others two.are)
