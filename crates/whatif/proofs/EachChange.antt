-- The pace with each change of a list, one change after the other.
use Rattle.std.proofs.Common.{ℕ, ◌+◌, ◌<◌, ◌≤◌, ◌≡◌, List, [], ◌∷◌, ◌++◌, Option, length, take, get_or, arith, ⊎_elim}
use Rattle.std.proofs.lemmas.Bool.{cases_lt}
use Rattle.std.proofs.lemmas.List.{length_push, get_or_append_left, get_or_push, take_more}
use Rattle.teg_net.specs.Nets.{NetLists}
use Rattle.teg_net.specs.Ratios.{Fraction}
use Rattle.pace_calls.specs.Paces.{IsPace}
use Rattle.whatif.specs.declared.changes.Change.{Change}
use Rattle.whatif.specs.Changes.{ArePaces, with_change}

-- one change more, with its pace
one_more : (net : NetLists) (changes : List Change) (paces : List (Option Fraction)) (c : Change) (r : Option Fraction) → ArePaces net changes paces → IsPace (with_change net c) r
    → ArePaces net (changes ++ c ∷ []) (paces ++ r ∷ [])
one_more net changes paces c r h is =
    let long = length_push changes c in
    let longer = length_push paces r in
    record {
      count = omega (arith, long, longer, h.count);
      each = λ k d s l.
          ⊎_elim
          (λ (q : k < length changes).
          let p : k < length paces = omega (arith, q, h.count) in
          rw (get_or_append_left changes (c ∷ []) d k q, get_or_append_left paces (r ∷ []) s k p) (h.each k d s q))
          (λ (q : length changes ≤ k).
          let here : length changes ≡ k = omega (arith, q, l, long) in
          let there : length paces ≡ k = omega (arith, here, h.count) in
          rw (get_or_push changes c d k here, get_or_push paces r s k there) is)
          (cases_lt k (length changes));
    }

-- the paces with the first changes, and that with the change at index i
pub next_pace : (net : NetLists) (changes : List Change) (i : ℕ) (d : Change) (paces : List (Option Fraction)) (r : Option Fraction) → i < length changes
    → ArePaces net (take i changes) paces → IsPace (with_change net (get_or changes i d)) r → ArePaces net (take (i + 1) changes) (paces ++ r ∷ [])
next_pace net changes i d paces r l h is = rw (take_more changes i d l) (one_more net (take i changes) paces (get_or changes i d) r h is)
