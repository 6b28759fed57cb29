-- What the loops of the check decide.
use Rattle.std.proofs.Common.{ℕ, zero, suc, ◌+◌, ◌-◌, ◌<◌, ◌≤◌, ◌≡◌, ◌≢◌, List, [], ◌∷◌, true, false, eqb, length, get_or, refl, subst, arith, ⊎_elim}
use Rattle.std.specs.Prelude.{ℤ, pos}
use Rattle.std.proofs.lemmas.Bool.{cases_lt, eq-eqb, ne_eqb}
use Rattle.std.proofs.lemmas.List.{get_or_default}
use Rattle.std.proofs.lemmas.Int.{ints, to_z-of_z}
use mir.Val.{SFits, to_z, of_z}
use mir.Syntax.{w128}
use Rattle.teg_net.specs.declared.answers.Potential.{Potential}
use Rattle.teg_net.specs.Limits.{greatest_checked_potential}
use Rattle.teg_net.specs.ReducedTimes.{IsMagnitudeWithin}
use Rattle.teg_net.specs.Certificates.{potential_at}

-- what stands past the end of a list of potentials
abbrev pub none_told : Potential
none_told = record { transition = record { index = 0 }; value = pos 0 }

-- where each potential is of a later transition than the one before, those before i stand in order, and the next comes later
pub order_more : (vs : List Potential) (i : ℕ) → 1 ≤ i → i < length vs
    → ((j k : ℕ) (d : Potential) → j < k → k < i → (get_or vs j d).transition.index < (get_or vs k d).transition.index)
    → (get_or vs (i - 1) none_told).transition.index < (get_or vs i none_told).transition.index → (j k : ℕ) (d : Potential) → j < k
    → k < i + 1 → (get_or vs j d).transition.index < (get_or vs k d).transition.index
order_more vs i some within h step j k d m n =
    ⊎_elim
    (λ (q : k < i). h j k d m q)
    (λ (q : i ≤ k).
    let is : i ≡ k = omega arith in
    let here : i - 1 < length vs = omega arith in
    let before : (get_or vs (i - 1) d).transition.index < (get_or vs i none_told).transition.index =
    subst (λ v. v.transition.index < (get_or vs i none_told).transition.index) (get_or_default vs (i - 1) none_told d here) step in
    let last : (get_or vs (i - 1) d).transition.index < (get_or vs i d).transition.index =
    subst (λ v. (get_or vs (i - 1) d).transition.index < v.transition.index) (get_or_default vs i none_told d within) before in
    let all : (get_or vs j d).transition.index < (get_or vs i d).transition.index =
    ⊎_elim
    (λ (r : j < i - 1). let e = h j (i - 1) d r (omega arith) in omega arith)
    (λ (r : i - 1 ≤ j). let e : i - 1 ≡ j = omega arith in subst (λ z. (get_or vs z d).transition.index < (get_or vs i d).transition.index) e last)
    (cases_lt j (i - 1)) in
    subst (λ z. (get_or vs j d).transition.index < (get_or vs z d).transition.index) is all)
    (cases_lt k i)

pub potential_found : (vs : List Potential) (t i : ℕ) (d : Potential) → i < length vs
    → ((k : ℕ) → k < i → (get_or vs k d).transition.index ≢ t) → (get_or vs i d).transition.index ≡ t → potential_at vs t ≡ (get_or vs i d).value
potential_found [] t i d l h e = absurd (omega arith)
potential_found (v ∷ vs) t zero d l h e = let b : eqb v.transition.index t ≡ true = eq-eqb v.transition.index t e in rw b refl
potential_found (v ∷ vs) t (suc i) d l h e =
    let b : eqb v.transition.index t ≡ false = ne_eqb v.transition.index t (h 0 (omega arith)) in
    rw b (potential_found vs t i d (omega arith) (λ k m. h (suc k) (omega arith)) e)

pub potential_missing : (vs : List Potential) (t : ℕ) (d : Potential) → ((k : ℕ) → k < length vs → (get_or vs k d).transition.index ≢ t) → potential_at vs t ≡ pos 0
potential_missing [] t d h = refl
potential_missing (v ∷ vs) t d h =
    let b : eqb v.transition.index t ≡ false = ne_eqb v.transition.index t (h 0 (omega arith)) in
    rw b (potential_missing vs t d (λ k m. h (suc k) (omega arith)))

-- a potential within the limit is read as it is
pub read_within : (z : ℤ) → IsMagnitudeWithin greatest_checked_potential z → to_z w128 (of_z w128 z) ≡ z
read_within z h = let l = h.low in let k = h.high in let fits : SFits w128 z = omega (arith, ints) in to_z-of_z w128 z fits
