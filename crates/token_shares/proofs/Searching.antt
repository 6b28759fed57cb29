-- Numbers that begin alike, one after another.
use Rattle.std.proofs.Common.{ℕ, ◌+◌, ◌-◌, ◌<◌, ◌≤◌, ◌≡◌, List, [], ◌∷◌, ◌++◌, length, take, refl, sym, ap, subst, ◌∙◌, arith, ⊎_elim}
use Rattle.std.specs.Prelude.{sum}
use Rattle.std.proofs.Math.Seq.{take-append_seam}
use Rattle.std.proofs.lemmas.Bool.{cases_lt}
use Rattle.std.proofs.lemmas.List.{append_assoc, length-append}
use Rattle.std.proofs.lemmas.List.Sums.{sum_by-cons}
use Rattle.teg_net.specs.declared.entries.PlaceId.{PlaceId}
use Rattle.teg_net.specs.Nets.{NetLists}
use Rattle.teg_net.specs.Ratios.{Fraction}
use Rattle.token_shares.specs.KeptCuts.{AreShares, NoneGoesOn, NoneGoesOnBelow}

module _ (net : NetLists) (r : Fraction) (places : List PlaceId) where
  -- one number more for the next place
  pub further_number : (begun : List ℕ) (rest next : ℕ) → NoneGoesOnBelow net r places begun rest next → NoneGoesOn net r places (begun ++ next ∷ []) (rest - next)
      → NoneGoesOnBelow net r places begun rest (next + 1)
  further_number begun rest next below here d ds low total shares = ⊎_elim
      (λ (l : d < next). below d ds l total shares)
      (λ (l : next ≤ d).
      let same : d ≡ next = omega arith in
      let own : AreShares net r places (begun ++ next ∷ ds) = subst (λ (n : ℕ). AreShares net r places (begun ++ n ∷ ds)) same shares in
      here ds (omega arith) (subst (AreShares net r places) (sym (append_assoc begun (next ∷ []) ds)) own))
      (cases_lt d next)

  -- no number is left
  pub all_numbers : (begun : List ℕ) (rest next : ℕ) → length begun < length places → rest < next → NoneGoesOnBelow net r places begun rest next → NoneGoesOn net r places begun rest
  all_numbers begun rest next l past below [] total shares =
      let count = shares.0.count in
      let long = length-append begun [] in
      absurd (omega arith)
  all_numbers begun rest next l past below (d ∷ ds) total shares =
      let cons : sum (d ∷ ds) ≡ d + sum ds = sum_by-cons (λ (n : ℕ). n) d ds in
      below d ds (omega arith) (omega arith) shares

-- the number that was tried last is taken back
pub taken_back : (begun all after : List ℕ) (next n : ℕ) → all ≡ begun ++ next ∷ [] → n ≡ length all → after ≡ take (n - 1) all → after ≡ begun
taken_back begun all after next n is long h =
    let size : length all ≡ length begun + 1 = ap (λ (xs : List ℕ). length xs) is ∙ length-append begun (next ∷ []) in
    let count : n - 1 ≡ length begun = omega arith in
    let cut : take (n - 1) all ≡ take (length begun) (begun ++ next ∷ []) = rw (count, is) refl in
    h ∙ (cut ∙ take-append_seam begun (next ∷ []))
