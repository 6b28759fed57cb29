-- The inputs of a net in order, and what stands beside them.
use Rattle.std.proofs.Common.{ℕ, zero, suc, ◌+◌, ◌<◌, ◌≤◌, ◌≡◌, ◌==◌, ◌⊎◌, inl, inr, Bool, true, false, List, [], ◌∷◌, ◌++◌, All, Option, Some, None, get_or, refl, sym, subst, ap, ◌∙◌, arith, ⊎_elim}
use Rattle.std.specs.Prelude.{slice_get, IsSomeAnd, if◌then◌else◌}
use Rattle.std.specs.Option.{option_map_or}
use Rattle.std.proofs.lemmas.Bool.{cases_Bool, cases_lt, eq-eqb}
use Rattle.std.proofs.lemmas.List.Elements.{All-append}
use Rattle.forever_laws.proofs.number_laws_proofs.Numbers.{same_number}
use Rattle.teg_net.specs.declared.entries.Transition.{Transition}
use Rattle.teg_net.specs.declared.entries.Role.TheVariants.{Input}
use Rattle.teg_net.specs.Nets.{NetLists, IsInput}
use Rattle.teg_due.specs.RowNames.{is_input, is_input_role}
use Rattle.teg_forever.specs.declared.releases.Release.{Release}
use Rattle.teg_forever.specs.LatestReleases.{AreBeside, inputs_below, release_in}

plus_one : (net : NetLists) (n : ℕ) → inputs_below net (n + 1) ≡ inputs_below net n ++ (if is_input net n then n ∷ [] else [])
plus_one net n = let e : n + 1 ≡ suc n = omega arith in ap (inputs_below net) e

pub inputs_more : (net : NetLists) (n : ℕ) → is_input net n ≡ true → inputs_below net (n + 1) ≡ inputs_below net n ++ n ∷ []
inputs_more net n h = plus_one net n ∙ ap (λ (b : Bool). inputs_below net n ++ (if b then n ∷ [] else [])) h

one_low : (n t : ℕ) → t < n → All (λ u. u < n) (t ∷ [])
one_low n t h = λ k d w. at k d w
  where
    at : (k d : ℕ) → k < 1 → get_or (t ∷ []) k d < n
    at zero d w = h
    at (suc k) d w = absurd (omega (arith, w))

pub all_low : (net : NetLists) (m n : ℕ) → n ≤ m → All (λ u. u < m) (inputs_below net n)
all_low net m zero h = λ k d w. absurd (omega (arith, w))
all_low net m (suc n) h = elim (cases_Bool (is_input net n)) [
  | inl is ↦ rw is (All-append (λ u. u < m) (inputs_below net n) (n ∷ []) (all_low net m n (omega arith)) (one_low m n (omega arith)))
  | inr other ↦ rw other (All-append (λ u. u < m) (inputs_below net n) [] (all_low net m n (omega arith)) (λ k d w. absurd (omega (arith, w))))
]

-- an input is told to be one
pub input_test : (net : NetLists) (u : ℕ) → IsInput net u → is_input net u ≡ true
input_test net u h = there (slice_get net.transitions u) h
  where
    there : (o : Option Transition) → IsSomeAnd o (λ x. x.role ≡ Input) → option_map_or (λ x. is_input_role x.role) o false ≡ true
    there None h = absurd h
    there (Some x) h = ap is_input_role h

-- u stands in the list
abbrev pub IsIn : ℕ → List ℕ → Type 0
IsIn u [] = ⊥
IsIn u (t ∷ ts) = (t ≡ u) ⊎ IsIn u ts

in_front : (u : ℕ) (ts us : List ℕ) → IsIn u ts → IsIn u (ts ++ us)
in_front u [] us h = absurd h
in_front u (t ∷ ts) us (inl e) = inl e
in_front u (t ∷ ts) us (inr h) = inr (in_front u ts us h)

at_end : (u : ℕ) (ts : List ℕ) → IsIn u (ts ++ u ∷ [])
at_end u [] = inl refl
at_end u (t ∷ ts) = inr (at_end u ts)

pub input_in : (net : NetLists) (u n : ℕ) → is_input net u ≡ true → u < n → IsIn u (inputs_below net n)
input_in net u zero h w = absurd (omega arith)
input_in net u (suc n) h w = ⊎_elim
    (λ low. in_front u (inputs_below net n) (if is_input net n then n ∷ [] else []) (input_in net u n h low))
    (λ high.
    let e : u ≡ n = omega arith in
    let there : is_input net n ≡ true = ap (is_input net) (sym e) ∙ h in
    subst (λ (l : List ℕ). IsIn u (inputs_below net n ++ l)) (ap (λ (m : ℕ). m ∷ []) e ∙ sym (ap (λ (b : Bool). if b then n ∷ [] else []) there)) (at_end u (inputs_below net n)))
    (cases_lt u n)

-- ---- what stands beside

pub beside_more : (Is : ℕ → Release → Type 0) (ts : List ℕ) (releases : List Release) (t : ℕ) (r : Release) → AreBeside Is ts releases → Is t r → AreBeside Is (ts ++ t ∷ []) (releases ++ r ∷ [])
beside_more Is [] [] t r h i = (i, tt)
beside_more Is [] (s ∷ releases) t r h i = absurd h
beside_more Is (u ∷ ts) [] t r h i = absurd h
beside_more Is (u ∷ ts) (s ∷ releases) t r h i = (h.0, beside_more Is ts releases t r h.1 i)

pub beside_in : (Is : ℕ → Release → Type 0) (ts : List ℕ) (releases : List Release) (u : ℕ) → AreBeside Is ts releases → IsIn u ts → Is u (release_in ts releases u)
beside_in Is [] releases u h i = absurd i
beside_in Is (t ∷ ts) [] u h i = absurd h
beside_in Is (t ∷ ts) (r ∷ releases) u h i = elim (cases_Bool (t == u)) [
  | inl same ↦ rw same (subst (λ (z : ℕ). Is z r) (same_number t u same) h.0)
  | inr other ↦ rw other (beside_in Is ts releases u h.1 (⊎_elim
      (λ (e : t ≡ u). let one : (t == u) ≡ true = eq-eqb t u e in let clash : true ≡ false = sym one ∙ other in absurd (cc))
      (λ (l : IsIn u ts). l) i))
]
