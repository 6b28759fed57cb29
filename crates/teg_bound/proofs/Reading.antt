-- An answer is read back from its text.
use Rattle.std.proofs.Common.{ℕ, ◌<◌, ◌^◌, List, codes, refl, arith}
use Rattle.std.specs.Prelude.{if◌then◌else◌}
use Rattle.teg_text.specs.WordReading.{line_at, word, stands_at, number_in}
use Rattle.teg_text.proofs.Back.{number_back, word64_back}
use Rattle.teg_text.proofs.Telling.{IsReadFrom, same_told}
use Rattle.teg_text.proofs.Words.{decimal_is_word}
use Rattle.teg_bound.specs.BoundTexts.{Cause, InputsCause, PlacesCause, WaysCause, DatesCause, ToldBound, BoundTold, CauseTold, bound_lines, AreNumbersIn, TextsOfBoundsDiffer}

-- ---- what is read

abbrev cause_in : List (List ℕ) → Cause
cause_in line =
    if stands_at 2 line (codes "has") then InputsCause
    else if stands_at 2 line (codes "no") then PlacesCause
    else if stands_at 2 line (codes "not") then WaysCause
    else DatesCause

abbrev told_in : List (List (List ℕ)) → ToldBound
told_in lines =
    if stands_at 0 (line_at 0 lines) (codes "bound") then BoundTold (number_in (word 1 (line_at 0 lines))) (number_in (word 2 (line_at 1 lines))) (number_in (word 4 (line_at 1 lines)))
    else CauseTold (cause_in (line_at 0 lines))

-- ---- answers

is_read : (p : ToldBound) → AreNumbersIn p → IsReadFrom told_in (bound_lines p) p
is_read (BoundTold number after period) h = record {
  words = rw (decimal_is_word number, decimal_is_word after, decimal_is_word period) refl;
  back =
      let below : number < 2 ^ 128 = h.0 in
      rw (number_back number (omega arith), word64_back after h.1, word64_back period h.2) refl;
}
is_read (CauseTold InputsCause) h = record { words = refl; back = refl }
is_read (CauseTold PlacesCause) h = record { words = refl; back = refl }
is_read (CauseTold WaysCause) h = record { words = refl; back = refl }
is_read (CauseTold DatesCause) h = record { words = refl; back = refl }

pub texts_of_bounds_differ : TextsOfBoundsDiffer
texts_of_bounds_differ p q h k = same_told told_in (bound_lines p) (bound_lines q) p q (is_read p h) (is_read q k)
