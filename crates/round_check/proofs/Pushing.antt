-- Lists that are made in order of number.
use Rattle.std.proofs.Common.{ℕ, ◌+◌, ◌<◌, ◌≤◌, ◌≡◌, List, [], ◌∷◌, ◌++◌, Bool, false, length, get_or, subst, ◌∙◌, arith, ⊎_elim}
use Rattle.std.specs.Prelude.{◌↔◌}
use Rattle.std.proofs.lemmas.Bool.{cases_lt}
use Rattle.std.proofs.lemmas.List.{get_or_append_left, get_or_past, get_or_push}
use Rattle.teg_parts.specs.Components.{IsMarked}

-- what holds of each element so far, and of the next one, holds of each with that one
pub pushed : {X : Type 0} → (Q : ℕ → X → Type 0) (xs : List X) (x d : X) (i : ℕ) → length xs ≡ i → ((t : ℕ) → t < i → Q t (get_or xs t d)) → Q i x
    → (t : ℕ) → t < i + 1 → Q t (get_or (xs ++ x ∷ []) t d)
pushed Q xs x d i e h q t l =
    ⊎_elim
    (λ (k : t < i). rw (get_or_append_left xs (x ∷ []) d t (omega arith)) (h t k))
    (λ (k : i ≤ t). let is : i ≡ t = omega arith in rw (get_or_push xs x d t (e ∙ is)) (subst (λ n. Q n x) is q))
    (cases_lt t i)

-- past the end nothing is marked
pub marked_all : (P : ℕ → Type 0) (marks : List Bool) (n : ℕ) → length marks ≡ n → ((t : ℕ) → P t → t < n) → ((t : ℕ) → t < n → IsMarked marks t ↔ P t)
    → (t : ℕ) → IsMarked marks t ↔ P t
marked_all P marks n e within h t =
    ⊎_elim
    (λ (k : t < n). h t k)
    (λ (k : n ≤ t). (
      λ m. let past = get_or_past marks t false (omega arith) in let f : ⊥ = cc in absurd f,
      λ p. let l = within t p in absurd (omega arith),
    ))
    (cases_lt t n)
