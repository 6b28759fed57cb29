-- The transition that a look-up finds is the one of that name: names of a net are distinct.
use Rattle.std.proofs.Common.{rules, ℕ, ◌≡◌, ◌≢◌, ◌∙◌, ◌<◌, List, true, false, [], length, get_or, Option, Some, None, All, AllPairs, inl, inr, refl, sym, ap, arith}
use Rattle.std.specs.Prelude.{IfSome, IsSomeAnd, option_map, nat_lt, slice_get}
use Rattle.std.specs.List.{position_or_len}
use Rattle.std.specs.Str.{bytes_eq}
use Rattle.std.proofs.lemmas.Bool.{cases_Bool}
use Rattle.std.proofs.lemmas.Bool.Decides.{nat_tests}
use Rattle.std.proofs.lemmas.List.Sums.{position_or_len_is}
use Rattle.std.proofs.lemmas.Option.{slice_get_cases}
use Rattle.std.proofs.lemmas.Slice.Eq.{bytes_eq-Decides}
use Rattle.teg_net.specs.declared.entries.Transition.{Transition}
use Rattle.teg_net.specs.declared.entries.TransitionId.{TransitionId}
use Rattle.teg_net.specs.declared.entries.Role.TheVariants.{Internal}
use Rattle.std.proofs.lemmas.List.{get_or_default}
use Rattle.teg_due.specs.RowNames.{number_named}
use Rattle.teg_net.specs.Nets.{NetLists}

abbrev no_transition : Transition
no_transition = record { name = []; role = Internal }

-- what is found is in the list, with that name
pub record IsThere (ts : List Transition) (name : List ℕ) (i : ℕ) : Type 0 where
  pub within : i < length ts
  pub named : (d : Transition) → (get_or ts i d).name ≡ name

pub found_there : (ts : List Transition) (name : List ℕ) (i : ℕ) → IsSomeAnd (slice_get ts i) (λ t. t.name ≡ name) → IsThere ts name i
found_there ts name i h = elim (slice_get_cases ts i).1 [
  | inl (t, lt, here, is) ↦ record { within = lt; named = λ d. ap (λ (x : Transition). x.name) (same_at ts i d t lt ∙ is) ∙ rw here at h }
  | inr (past, here) ↦ absurd (rw here at h)
]
  where
    same_at : (xs : List Transition) (i : ℕ) (d e : Transition) → i < length xs → get_or xs i d ≡ get_or xs i e
    same_at xs i d e lt = search (rules, get_or_default)

equal_names : (xs ys : List ℕ) → xs ≡ ys → bytes_eq xs ys ≡ true
equal_names xs ys h = search (rules, bytes_eq-Decides)

other_names : (xs ys : List ℕ) → xs ≢ ys → bytes_eq xs ys ≡ false
other_names xs ys h = elim (cases_Bool (bytes_eq xs ys)) [
  | inl same ↦ absurd (h (equal xs ys same))
  | inr other ↦ other
]
  where
    equal : (xs ys : List ℕ) → bytes_eq xs ys ≡ true → xs ≡ ys
    equal xs ys h = search (rules, bytes_eq-Decides)

-- a place that is found by name is the first of that name, since names are distinct
pub named_number : (net : NetLists) (name : List ℕ) (o : Option TransitionId) → AllPairs (λ s t. s.name ≢ t.name) net.transitions
    → IfSome o (λ id. IsThere net.transitions name id.index) → (o ≡ None → All (λ t. t.name ≢ name) net.transitions) → option_map (λ id. id.index) o ≡ number_named net name
named_number net name None distinct there none =
    let at : position_or_len (λ t. bytes_eq t.name name) net.transitions ≡ length net.transitions =
    position_or_len_is (λ t. bytes_eq t.name name) net.transitions (length net.transitions) no_transition (omega arith)
    (λ k below. other_names _ name (none refl k no_transition below)) (λ lt. absurd (omega (arith, lt))) in
    rw (at, not_below (length net.transitions)) refl
  where
    not_below : (n : ℕ) → nat_lt n n ≡ false
    not_below n = grind (arith, nat_tests)
named_number net name (Some id) distinct there none =
    let at : position_or_len (λ t. bytes_eq t.name name) net.transitions ≡ id.index =
    position_or_len_is (λ t. bytes_eq t.name name) net.transitions id.index no_transition (omega (arith, there.within))
    (λ k below. other_names _ name (λ same. distinct k id.index no_transition below there.within (same ∙ sym (there.named no_transition)))) (λ lt. equal_names _ name (there.named no_transition)) in
    rw (at, is_below id.index (length net.transitions) there.within) refl
  where
    is_below : (m n : ℕ) → m < n → nat_lt m n ≡ true
    is_below m n h = grind (arith, nat_tests)
