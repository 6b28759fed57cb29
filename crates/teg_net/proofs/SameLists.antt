-- What a test of two lists of numbers, number by number, tells.
use Rattle.std.proofs.Common.{ℕ, ◌≡◌, ◌↔◌, List}
use Rattle.std.specs.Prelude.{Bool, IsTrue, nat_eq}
use Rattle.std.specs.Cmp.Lexicographic.{pointwise}
use Rattle.std.proofs.lemmas.Bool.Decides.{Decides-eqb}
use Rattle.std.proofs.lemmas.Slice.Eq.{slice_eq-Decides}

-- it is true just where the lists are equal
pub equal_lists_told : (xs ys : List ℕ) (r : Bool) → r ≡ pointwise nat_eq xs ys → IsTrue r ↔ (xs ≡ ys)
equal_lists_told xs ys r e = slice_eq-Decides Decides-eqb xs ys r e
