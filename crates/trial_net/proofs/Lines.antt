-- Lists that grow by an entry for each number.
use Rattle.std.proofs.Common.{◌≡◌, ℕ, ◌+◌, List, [], ◌∷◌, ◌++◌, map, sym, ap, ◌∙◌, append_assoc, arith}
use Rattle.std.specs.List.{range_with_len}
use Rattle.std.proofs.lemmas.List.FromFn.{map-range_with_len_more}

pub one_more : {X : Type 0} (f : ℕ → X) (i : ℕ) (before list after : List X) (x : X) → list ≡ before ++ map f (range_with_len 1 i) → after ≡ list ++ x ∷ [] → x ≡ f (i + 1) →
    after ≡ before ++ map f (range_with_len 1 (i + 1))
one_more f i before list after x h k e =
    let more : map f (range_with_len 1 (i + 1)) ≡ map f (range_with_len 1 i) ++ f (i + 1) ∷ [] = map-range_with_len_more f 1 i (i + 1) (omega arith) in
    k ∙ (ap (λ l. l ++ x ∷ []) h
    ∙ (append_assoc before (map f (range_with_len 1 i)) (x ∷ [])
    ∙ (ap (λ y. before ++ (map f (range_with_len 1 i) ++ y ∷ [])) e
    ∙ ap (λ l. before ++ l) (sym more))))
