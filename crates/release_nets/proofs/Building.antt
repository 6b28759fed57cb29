-- Lists that are built one by one.
use Rattle.std.proofs.Common.{ℕ, ◌+◌, ◌<◌, ◌≤◌, ◌≡◌, List, [], ◌∷◌, ◌++◌, length, sym, subst, ap, ◌∙◌, arith, ⊎_elim}
use Rattle.std.proofs.lemmas.Bool.{cases_lt}
use Rattle.std.proofs.lemmas.List.{get_or_append_left, get_or_push, length_push}
use Rattle.release_nets.specs.ReleaseNetsBuilt.{AreBuilt}

-- one more
pub built_more : {X : Type 0} (Is : ℕ → X → Type 0) (count : ℕ) (xs : List X) (x : X) → AreBuilt Is count xs → Is count x → AreBuilt Is (count + 1) (xs ++ x ∷ [])
built_more Is count xs x old here =
    let long = old.long in
    record {
      long = length_push xs x ∙ ap (λ (n : ℕ). n + 1) long;
      each = λ k d lt. ⊎_elim
          (λ (before : k < count).
          let within : k < length xs = omega arith in
          subst (Is k) (sym (get_or_append_left xs (x ∷ []) d k within)) (old.each k d before))
          (λ (last : count ≤ k).
          let at : k ≡ count = omega arith in
          let end : length xs ≡ k = omega arith in
          subst (Is k) (sym (get_or_push xs x d k end)) (subst (λ (n : ℕ). Is n x) (sym at) here))
          (cases_lt k count);
    }
