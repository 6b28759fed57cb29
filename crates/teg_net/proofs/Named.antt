-- An entry that a look-up by name finds.
use Rattle.std.proofs.Common.{ℕ, ◌<◌, ◌≡◌, List, length, get_or, Option, Some, refl, sym, subst, ◌∙◌}
use Rattle.std.specs.Prelude.{IsSomeAnd, slice_get}
use Rattle.std.proofs.lemmas.Option.{slice_get_read}

some_and : {X : Type 0} (P : X → Type 0) (o : Option X) (x : X) → o ≡ Some x → P x → IsSomeAnd o P
some_and P o x e p = subst (λ z. IsSomeAnd z P) (sym e) p

pub found_named :
    {X : Type 0} (name : X → List ℕ) (xs ys : List X) (i : ℕ) (x : X) (read asked : List ℕ) → ys ≡ xs → i < length ys → x ≡ get_or ys i x → read ≡ name x → read ≡ asked
    → IsSomeAnd (slice_get xs i) (λ z. name z ≡ asked)
found_named name xs ys i x read asked v l e r s =
    some_and (λ z. name z ≡ asked) (slice_get xs i) x (subst (λ z. slice_get z i ≡ Some x) v (slice_get_read ys (length ys) i x refl l e)) (sym r ∙ s)
