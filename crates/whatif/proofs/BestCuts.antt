-- The best of some cuts, one cut after the other.
use Rattle.std.proofs.Common.{ℕ, ◌+◌, ◌*◌, ◌<◌, ◌≤◌, ◌≡◌, List, [], ◌∷◌, ◌++◌, length, take, sym, get_or, arith, ⊎_elim, Option, Some, None, ◌⊎◌, subst}
use Rattle.std.specs.Prelude.{Contains}
use Rattle.std.proofs.lemmas.Bool.{cases_lt}
use Rattle.std.proofs.Math.Nat.{mul-le-mul_right, le_of_mul-le-mul_left}
use Rattle.std.proofs.lemmas.List.{take_more}
use Rattle.std.proofs.lemmas.List.Elements.{Contains-append_left, Contains-push, Contains-push_cases}
use Rattle.teg_net.specs.Nets.{NetLists}
use Rattle.teg_net.specs.Ratios.{Fraction}
use Rattle.pace_calls.specs.Paces.{IsPace}
use Rattle.whatif.specs.declared.cuts.Cut.{Cut}
use Rattle.whatif.specs.declared.cuts.BestCut.{BestCut}
use Rattle.whatif.specs.Cuts.{IsAtMostPace, IsNoBetter, with_cut, IsBestOf, IsBestCut, IsBetterOf}

-- of three fractions, the first is at most the last where it is at most the one between
cross : (a b c d e f : ℕ) → 1 ≤ d → a * d ≤ c * b → c * f ≤ e * d → a * f ≤ e * b
cross a b c d e f some h k =
    let one : a * d * f ≤ c * b * f = mul-le-mul_right f h in
    let two : c * f * b ≤ e * d * b = mul-le-mul_right b k in
    let both : d * (a * f) ≤ d * (e * b) = omega (arith, one, two) in
    le_of_mul-le-mul_left both some

-- paces are in an order
at_most_through : (net : NetLists) (a b c : Option Fraction) → IsPace net b → IsAtMostPace a b → IsAtMostPace b c → IsAtMostPace a c
at_most_through net None b c h k l = tt
at_most_through net (Some r) None c h k l = absurd k
at_most_through net (Some r) (Some s) None h k l = absurd l
at_most_through net (Some r) (Some s) (Some t) h k l = cross r.time r.tokens s.time s.tokens t.time t.tokens h.some k l

at_most_or : (a b : Option Fraction) → (IsAtMostPace a b → ⊥) → IsAtMostPace b a
at_most_or None b h = absurd (h tt)
at_most_or (Some r) None h = tt
at_most_or (Some r) (Some s) h =
    ⊎_elim (λ (l : r.time * s.tokens < s.time * r.tokens). absurd (h (omega (arith, l)))) (λ (l : s.time * r.tokens ≤ r.time * s.tokens). l) (cases_lt (r.time * s.tokens) (s.time * r.tokens))

at_most_self : (a : Option Fraction) → IsAtMostPace a a
at_most_self None = tt
at_most_self (Some r) = omega arith

-- the only cut is the best one
first_best : (net : NetLists) (b : BestCut) → IsPace (with_cut net b.cut) b.pace → IsBestOf net (b.cut ∷ []) b
first_best net b h = record {
  listed = Contains-push [] b.cut;
  pace = h;
  none_better = λ c has.
      ⊎_elim
      (λ (q : Contains [] c). absurd (omega (arith, q.1)))
      (λ (q : b.cut ≡ c). subst (IsNoBetter net b.pace) q (b.pace, h, at_most_self b.pace))
      (Contains-push_cases [] b.cut c has);
}

-- no further cut is better, or the further one is the best
kept_best : (net : NetLists) (cuts : List Cut) (b new : BestCut) → IsBestOf net cuts b → IsPace (with_cut net new.cut) new.pace → IsAtMostPace b.pace new.pace
    → IsBestOf net (cuts ++ new.cut ∷ []) b
kept_best net cuts b new h k l = record {
  listed = Contains-append_left cuts (new.cut ∷ []) b.cut h.listed;
  pace = h.pace;
  none_better = λ c has.
      ⊎_elim
      (λ (q : Contains cuts c). h.none_better c q)
      (λ (q : new.cut ≡ c). subst (IsNoBetter net b.pace) q (new.pace, k, l))
      (Contains-push_cases cuts new.cut c has);
}

taken_best : (net : NetLists) (cuts : List Cut) (b new : BestCut) → IsBestOf net cuts b → IsPace (with_cut net new.cut) new.pace → IsAtMostPace new.pace b.pace
    → IsBestOf net (cuts ++ new.cut ∷ []) new
taken_best net cuts b new h k l = record {
  listed = Contains-push cuts new.cut;
  pace = k;
  none_better = λ c has.
      ⊎_elim
      (λ (q : Contains cuts c). let w = h.none_better c q in (w.0, w.1, at_most_through (with_cut net b.cut) new.pace b.pace w.0 h.pace l w.2))
      (λ (q : new.cut ≡ c). subst (IsNoBetter net new.pace) q (new.pace, k, at_most_self new.pace))
      (Contains-push_cases cuts new.cut c has);
}

-- the best of the cuts with a further one
next_best : (net : NetLists) (cuts : List Cut) (best : Option BestCut) (new r : BestCut) → IsBestCut net cuts best → IsPace (with_cut net new.cut) new.pace
    → IsBetterOf best new r → IsBestCut net (cuts ++ new.cut ∷ []) (Some r)
next_best net cuts None new r h k is =
    let P : List Cut → Type 0 = λ old. IsBestOf net (old ++ new.cut ∷ []) new in
    subst (IsBestOf net (cuts ++ new.cut ∷ [])) (sym is) (subst P (sym h) (first_best net new k))
next_best net cuts (Some b) new r h k is =
    let P : BestCut → Type 0 = IsBestOf net (cuts ++ new.cut ∷ []) in
    ⊎_elim
    (λ (w : (r ≡ b) × IsAtMostPace b.pace new.pace). subst P (sym w.0) (kept_best net cuts b new h k w.1))
    (λ (w : (r ≡ new) × (IsAtMostPace b.pace new.pace → ⊥)). subst P (sym w.0) (taken_best net cuts b new h k (at_most_or b.pace new.pace w.1)))
    is

-- the best of the first cuts, with that at index i
pub best_more : (net : NetLists) (cuts : List Cut) (i : ℕ) (d : Cut) (best : Option BestCut) (pace : Option Fraction) (r : BestCut) → i < length cuts → IsBestCut net (take i cuts) best
    → IsPace (with_cut net (get_or cuts i d)) pace → IsBetterOf best (record { cut = get_or cuts i d; pace = pace }) r → IsBestCut net (take (i + 1) cuts) (Some r)
best_more net cuts i d best pace r l h k is =
    rw (take_more cuts i d l) (next_best net (take i cuts) best (record { cut = get_or cuts i d; pace = pace }) r h k is)
