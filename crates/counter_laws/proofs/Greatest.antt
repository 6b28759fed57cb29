-- Counts within the tokens and the releases tell a feasible dating, so those of the least dating are the greatest.
use Rattle.std.proofs.Common.{ℕ, zero, suc, ◌-◌, ◌<◌, ◌≤◌, ◌≡◌, Bool, true, false, cond, Option, Some, None, length, get_or, refl, sym, subst, arith, ⊎_elim}
use Rattle.std.specs.Prelude.{pos, nat_le}
use Rattle.std.proofs.lemmas.Bool.{cases_lt, cases_Bool}
use Rattle.std.proofs.lemmas.Bool.Decides.{nat_tests}
use Rattle.std.proofs.lemmas.Int.{ints}
use Rattle.std.proofs.lemmas.List.{get_or_default}
use Rattle.teg_model.specs.dioid.declared.dates.Date.{Date}
use Rattle.teg_model.specs.dioid.declared.dates.Date.TheVariants.{At, Never}
use Rattle.teg_model.specs.dioid.Dates.{IsAtMostDate, earlier_of}
use Rattle.teg_model.proofs.dioid_proofs.DateOrder.{at_most_refl, at_most_trans, earlier_left, earlier_right, earlier_greatest, never_last}
use Rattle.teg_model.specs.teg_net.declared.entries.Place.{Place}
use Rattle.teg_model.specs.teg_net.Nets.{NetLists}
use Rattle.teg_model.specs.teg_net.Circuits.{no_place}
use Rattle.teg_model.specs.teg_net.ReadyDates.{ready_date}
use Rattle.teg_model.specs.Datings.{available_at, implicit_place, initial_date, IsFeasibleUnder}
use Rattle.teg_model.proofs.DateFunctions.{Dating}
use Rattle.teg_model.proofs.LeastOver.{available_rises}
use Rattle.teg_model.proofs.OfNet.{all_extended_in}
use Rattle.teg_model.proofs.Tokens.{available_after, available_first, implicit_keeps, place_keeps}
use Rattle.counter_laws.specs.Counters.{IsUpTo, AreWithinLeast}
use Rattle.counter_laws.specs.CounterEquations.{AreCounted, CountersAreGreatest}
use Rattle.counter_laws.proofs.Solving.{Counts, held_on, own_token, tokens_from, up_to_lower}
use Rattle.counter_laws.proofs.Lowered.{input_in}

-- ---- the earlier of a date and the dates below n at which a number is counted

is_up : ℕ → Option ℕ → Bool
is_up k None = true
is_up k (Some n) = nat_le k n

up_is : (k : ℕ) (o : Option ℕ) → IsUpTo k o → is_up k o ≡ true
unfolding is_up
up_is k None h = refl
up_is k (Some n) h = let l : k ≤ n = h in grind (arith, nat_tests, l)

is_up_to : (k : ℕ) (o : Option ℕ) → is_up k o ≡ true → IsUpTo k o
unfolding is_up
is_up_to k None e = tt
is_up_to k (Some n) e = let l : k ≤ n = grind (arith, nat_tests, e) in l

-- the date n where it is counted by then
counted_at : ℕ → ℕ → Option ℕ → Date
counted_at k n o = cond (is_up k o) (At (pos n)) Never

earliest : ℕ → (ℕ → Option ℕ) → Date → ℕ → Date
earliest k c a zero = a
earliest k c a (suc n) = earlier_of (earliest k c a n) (counted_at k n (c n))

below_own : (k : ℕ) (c : ℕ → Option ℕ) (a : Date) (n : ℕ) → IsAtMostDate (earliest k c a n) a
unfolding earliest
below_own k c a zero = at_most_refl a
below_own k c a (suc n) = at_most_trans (earliest k c a (suc n)) (earliest k c a n) a (earlier_left (earliest k c a n) (counted_at k n (c n))) (below_own k c a n)

below_counted : (k : ℕ) (c : ℕ → Option ℕ) (a : Date) (n m : ℕ) → m < n → IsUpTo k (c m) → IsAtMostDate (earliest k c a n) (At (pos m))
unfolding earliest counted_at
below_counted k c a zero m l up = absurd (omega (arith, l))
below_counted k c a (suc n) m l up = ⊎_elim
    (λ (q : m < n). at_most_trans (earliest k c a (suc n)) (earliest k c a n) (At (pos m)) (earlier_left (earliest k c a n) (counted_at k n (c n))) (below_counted k c a n m q up))
    (λ (q : n ≤ m).
    let e : m ≡ n = omega (arith, l, q) in
    let test : is_up k (c n) ≡ true = up_is k (c n) (subst (λ z. IsUpTo k (c z)) e up) in
    let own : IsAtMostDate (counted_at k n (c n)) (At (pos n)) = rw test (at_most_refl (At (pos n))) in
    let low : IsAtMostDate (earliest k c a (suc n)) (At (pos n)) =
    at_most_trans (earliest k c a (suc n)) (counted_at k n (c n)) (At (pos n)) (earlier_right (earliest k c a n) (counted_at k n (c n))) own in
    subst (λ z. IsAtMostDate (earliest k c a (suc n)) (At (pos z))) (sym e) low)
    (cases_lt m n)

above_all : (k : ℕ) (c : ℕ → Option ℕ) (a : Date) (n : ℕ) (z : Date) → IsAtMostDate z a → ((m : ℕ) → m < n → IsUpTo k (c m) → IsAtMostDate z (At (pos m))) → IsAtMostDate z (earliest k c a n)
unfolding earliest counted_at
above_all k c a zero z h each = h
above_all k c a (suc n) z h each =
    earlier_greatest (earliest k c a n) (counted_at k n (c n)) z (above_all k c a n z h (λ m l. each m (omega (arith, l))))
    (⊎_elim
    (λ (e : is_up k (c n) ≡ true). rw e (each n (omega arith) (is_up_to k (c n) e)))
    (λ (e : is_up k (c n) ≡ false). rw e (never_last z))
    (cases_Bool (is_up k (c n))))

-- ---- these dates are a feasible dating

module _ (net : NetLists) (u x : Dating) (r c : Counts) (h : AreCounted net u x r c) (other : Counts) (keeps : AreWithinLeast net r other) (d : ℕ) where
  abbrev y : Dating
  y t k = earliest k (other t) (x t k) (suc d)

  not_after : (t k : ℕ) → IsAtMostDate (y t k) (x t k)
  not_after t k = below_own k (other t) (x t k) (suc d)

  by_count : (t k m : ℕ) → m < suc d → IsUpTo k (other t m) → IsAtMostDate (y t k) (At (pos m))
  by_count t k m = below_counted k (other t) (x t k) (suc d) m

  -- a token of a place is there by the date at which its firing is counted
  place_by : (k i : ℕ) (e : Place) → 1 ≤ k → i < length net.places → (m : ℕ) → m < suc d → IsUpTo k (other (get_or net.places i e).to.index m)
      → IsAtMostDate (available_at y (get_or net.places i e) k) (At (pos m))
  place_by k i e o l m in' up =
      let p : Place = get_or net.places i e in
      let least = keeps p.to.index m k (h.ends i e l).1 o up in
      ⊎_elim
      (λ (q : p.tokens < k).
      let at = tokens_from other p m k (least.tokens i e l refl) q in
      let before = by_count p.from.index (k - p.tokens) (m - p.hold) (omega (arith, in')) at.1 in
      rw (available_after initial_date y p k (y p.from.index (k - p.tokens)) q refl) (held_on p.hold m (y p.from.index (k - p.tokens)) at.0 before))
      (λ (q : k ≤ p.tokens).
      let first : ready_date p k ≤ m = least.ready i e l refl k o (omega arith) q in
      rw (available_first initial_date y p k q) (omega (arith, ints, first)))
      (cases_lt p.tokens k)

  own_by : (t k : ℕ) → 1 ≤ k → (m : ℕ) → m < suc d → IsUpTo k (other t m) → IsAtMostDate (available_at y (implicit_place t) k) (At (pos m))
  own_by t k o m in' up = own_token y t k m o (λ j e one. by_count t j m in' (up_to_lower j k (other t m) (omega (arith, e)) up))

  feasible : IsFeasibleUnder net u y
  feasible = record {
    places = λ k o. all_extended_in net (λ p. IsAtMostDate (available_at y p k) (y p.to.index k))
        (λ i e l.
        let p : Place = get_or net.places i e in
        above_all k (other p.to.index) (x p.to.index k) (suc d) (available_at y p k)
        (at_most_trans (available_at y p k) (available_at x p k) (x p.to.index k) (available_rises initial_date y x p k (λ n one. not_after p.from.index n)) (keeps_x k i e o l))
        (λ m in' up. place_by k i e o l m in' up))
        (λ t l. above_all k (other t) (x t k) (suc d) (available_at y (implicit_place t) k)
        (at_most_trans (available_at y (implicit_place t) k) (available_at x (implicit_place t) k) (x t k)
        (available_rises initial_date y x (implicit_place t) k (λ n one. not_after t n)) (implicit_keeps net u x h.least.feasible t k l o))
        (λ m in' up. own_by t k o m in' up));
    inputs = λ t k o i. above_all k (other t) (x t k) (suc d) (u t k) (h.least.feasible.inputs t k o i)
        (λ m in' up. (h.releases t i m k o).1 ((keeps t m k (input_in net t i) o up).released i));
  } where
    keeps_x : (k i : ℕ) (e : Place) → 1 ≤ k → i < length net.places → IsAtMostDate (available_at x (get_or net.places i e) k) (x (get_or net.places i e).to.index k)
    keeps_x k i e o l = rw (get_or_default net.places i e no_place l) (place_keeps net u x h.least.feasible k o i l)

  come_by : (t k : ℕ) → t < length net.transitions → 1 ≤ k → IsUpTo k (other t d) → IsAtMostDate (x t k) (At (pos d))
  come_by t k l o up = at_most_trans (x t k) (y t k) (At (pos d)) (h.least.least y feasible t k l o) (by_count t k d (omega arith) up)

pub counters_greatest : CountersAreGreatest
counters_greatest net u x r c other h keeps t d k l o up = (h.firings t l d k o).0 (come_by net u x r c h other keeps d t k l o up)
