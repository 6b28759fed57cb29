-- The members of a part, transition by transition.
use Rattle.std.proofs.Common.{◌≡◌, ℕ, suc, ◌+◌, ◌<◌, true, false, ◌==◌, ⊎_elim, List, [], ◌∷◌, ◌++◌, take, length, get_or, append-nil, refl, ap, ◌∙◌, arith}
use Rattle.std.proofs.lemmas.Bool.{cases_Bool}
use Rattle.std.proofs.lemmas.List.{length-take-le}
use Rattle.std.proofs.Math.Seq.{take-suc}
use native.Mathlib.Numerals.{unary_clauses}
use Rattle.teg_net.specs.declared.entries.TransitionId.{TransitionId}
use Rattle.teg_lines.specs.CycleLines.{members_from}

members_append : (k : ℕ) (ps qs : List ℕ) (part : ℕ) → members_from k (ps ++ qs) part ≡ members_from k ps part ++ members_from (k + length ps) qs part
members_append k [] qs part = let same : k ≡ k + 0 = omega arith in ap (λ (j : ℕ). members_from j qs part) same
members_append k (p ∷ ps) qs part =
    let here : k + 1 + length ps ≡ k + suc (length ps) = omega arith in
    let rest = members_append (k + 1) ps qs part ∙ ap (λ (j : ℕ). members_from (k + 1) ps part ++ members_from j qs part) here in
    ⊎_elim (λ (e : (p == part) ≡ true). rw e (ap (λ (l : List TransitionId). record { index = k } ∷ l) rest)) (λ (e : (p == part) ≡ false). rw e rest) (cases_Bool (p == part))

more : (ps : List ℕ) (i part : ℕ) → i < length ps → members_from 0 (take (i + 1) ps) part ≡ members_from 0 (take i ps) part ++ members_from i (get_or ps i 0 ∷ []) part
more ps i part lt =
    let taken : take (i + 1) ps ≡ take i ps ++ get_or ps i 0 ∷ [] = simp unary_clauses (take-suc ps i 0 lt) in
    let here : 0 + length (take i ps) ≡ i = omega (arith, length-take-le i ps (omega (arith, lt))) in
    ap (λ (qs : List ℕ). members_from 0 qs part) taken
    ∙ (members_append 0 (take i ps) (get_or ps i 0 ∷ []) part ∙ ap (λ (j : ℕ). members_from 0 (take i ps) part ++ members_from j (get_or ps i 0 ∷ []) part) here)

-- a transition of the part
pub one_more : (ps : List ℕ) (i part : ℕ) → i < length ps → (get_or ps i 0 == part) ≡ true → members_from 0 (take (i + 1) ps) part ≡ members_from 0 (take i ps) part ++ record { index = i } ∷ []
one_more ps i part lt e = more ps i part lt ∙ rw e refl

-- a transition of another part
pub no_more : (ps : List ℕ) (i part : ℕ) → i < length ps → (get_or ps i 0 == part) ≡ false → members_from 0 (take (i + 1) ps) part ≡ members_from 0 (take i ps) part
no_more ps i part lt e = more ps i part lt ∙ rw e (append-nil (members_from 0 (take i ps) part))
