-- A text that is written piece by piece.
use Rattle.std.proofs.Common.{◌≡◌, ℕ, ◌+◌, ◌-◌, List, ◌++◌, length, take, drop, Option, subst, arith, length-drop}
use Rattle.std.proofs.Math.Seq.{take-add}
use Rattle.std.proofs.lemmas.List.{take_all}
use Rattle.teg_outside.specs.Sinks.{BytesGrow}
use Rattle.teg_outside.proofs.Growth.{bytes_grow_then}

-- after one more piece of a text, a longer first part of it is written
pub grows_by_piece : (a b c : Option (List ℕ)) (text piece : List ℕ) (i n : ℕ) → piece ≡ drop i text →
    BytesGrow a b (take i text) → BytesGrow b c (take n piece) → BytesGrow a c (take (i + n) text)
grows_by_piece a b c text piece i n e h k =
    rw take-add (subst (λ (p : List ℕ). BytesGrow a c (take i text ++ take n p)) e (bytes_grow_then a b c (take i text) (take n piece) h k))

-- the text from an index on
pub piece_from : (text : List ℕ) (i : ℕ) → take (length text - i) (drop i text) ≡ drop i text
piece_from text i = take_all (length text - i) (drop i text) (omega (arith, length-drop i text))
