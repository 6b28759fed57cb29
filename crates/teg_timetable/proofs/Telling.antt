-- The lines of delays, and what is told of them.
use Rattle.std.proofs.Common.{ℕ, zero, suc, ◌+◌, ◌<◌, ◌≡◌, ◌^◌, List, [], ◌∷◌, ◌++◌, All, map, refl, sym, ap, ◌∙◌, append_assoc, arith}
use Rattle.std.specs.List.{range_with_len}
use Rattle.std.proofs.lemmas.List.Elements.{All-map}
use Rattle.std.proofs.lemmas.List.FromFn.{get_or-range_with_len, length-range_with_len}
use Rattle.teg_net.specs.Nets.{NetLists}
use Rattle.teg_text.specs.Lines.{line_then, written}
use Rattle.teg_text.proofs.Joining.{line_append, written_append}
use Rattle.teg_timetable.specs.Spreads.{Spread, delay_by_spread}
use Rattle.teg_timetable.specs.TimetableTexts.{AreLeftDelaysShort, delays_line, delays_lines, delays_up_to}

-- the lines of transitions whose delays a function tells
pub lines_from : (net : NetLists) (delays : ℕ → List ℕ) (t n : ℕ) → delays_lines net t (map delays (range_with_len t n)) ≡ map (λ i. delays_line net i (delays i)) (range_with_len t n)
lines_from net delays t zero = refl
lines_from net delays t (suc n) = ap (λ (l : List (List (List ℕ))). delays_line net t (delays t) ∷ l) (lines_from net delays (t + 1) n)

-- a line, and two parts behind it
pub three_parts : (first : List (List ℕ)) (one two : List (List (List ℕ))) → (line_then first [] ++ written one) ++ written two ≡ written (first ∷ (one ++ two))
three_parts first one two =
    append_assoc (line_then first []) (written one) (written two)
    ∙ ap (λ (l : List ℕ). line_then first [] ++ l) (sym (written_append one two))
    ∙ sym (line_append first (written (one ++ two)))

-- delays of 64 bits, as lists
row_small : (s : Spread) (i count : ℕ) → AreLeftDelaysShort s i count → All (λ d. d < 2 ^ 64) (delays_up_to (delay_by_spread s i) count)
row_small s i count h =
    All-map (λ d. d < 2 ^ 64) (delay_by_spread s i) (range_with_len 1 count)
    (λ k d l.
    let low : k < count = omega (arith, l, length-range_with_len 1 count) in
    rw (get_or-range_with_len 1 count k d low) (h (1 + k) (omega arith) (omega arith)))

pub rows_small : (s : Spread) (n count : ℕ) → ((i : ℕ) → i < n → AreLeftDelaysShort s i count)
    → All (λ row. All (λ d. d < 2 ^ 64) row) (map (λ i. delays_up_to (delay_by_spread s i) count) (range_with_len 0 n))
rows_small s n count h =
    All-map (λ row. All (λ d. d < 2 ^ 64) row) (λ i. delays_up_to (delay_by_spread s i) count) (range_with_len 0 n)
    (λ i d l.
    let low : i < n = omega (arith, l, length-range_with_len 0 n) in
    rw (get_or-range_with_len 0 n i d low) (row_small s (0 + i) count (h (0 + i) (omega arith))))
