-- Dates that never fall are counted up to each date that one of them comes after.
use Rattle.std.proofs.Common.{ℕ, zero, suc, ◌+◌, ◌-◌, ◌<◌, ◌≤◌, ◌≡◌, ◌≢◌, Option, Some, None, length, refl, ap, arith, inl, inr, ⊎_elim}
use Rattle.std.specs.Prelude.{pos, ◌⊎◌, ◌↔◌}
use Rattle.std.proofs.lemmas.Bool.{cases_eq, cases_lt}
use Rattle.std.proofs.lemmas.Int.{ints, by_lt_z}
use Rattle.teg_model.specs.dioid.declared.dates.Date.{Date}
use Rattle.teg_model.specs.dioid.declared.dates.Date.TheVariants.{Early, At, Never}
use Rattle.teg_model.specs.dioid.Dates.{IsAtMostDate}
use Rattle.teg_model.proofs.dioid_proofs.DateOrder.{at_most_trans}
use Rattle.teg_model.specs.teg_net.Nets.{NetLists}
use Rattle.teg_model.specs.Datings.{IsFeasibleUnder}
use Rattle.teg_model.proofs.DateFunctions.{Dating}
use Rattle.dating_laws.proofs.SlowerNets.{climb}
use Rattle.counter_laws.specs.Counters.{IsUpTo, AreCounters}
use Rattle.counter_laws.specs.CounterEquations.{CountersExist, CountersAreOne}

pub by_then : (a : Date) (d : ℕ) → IsAtMostDate a (At (pos d)) ⊎ (IsAtMostDate a (At (pos d)) → ⊥)
by_then Early d = inl tt
by_then (At z) d = by_lt_z (pos d) z (λ l. inr (λ m. absurd (omega (arith, ints, l, m)))) (λ l. let low : IsAtMostDate (At z) (At (pos d)) = omega (arith, ints, l) in inl low)
by_then Never d = inr (λ l. l)

-- the dates rise over any numbers
abbrev Rise : (ℕ → Date) → Type 0
Rise dates = (j k : ℕ) → 1 ≤ j → j ≤ k → IsAtMostDate (dates j) (dates k)

-- a count up to a date: just the first so many dates come by then
abbrev IsCount : (ℕ → Date) → ℕ → ℕ → Type 0
IsCount dates d m = (k : ℕ) → 1 ≤ k → IsAtMostDate (dates k) (At (pos d)) ↔ (k ≤ m)

pub count_below : (dates : ℕ → Date) (d : ℕ) → Rise dates → (n : ℕ) → 1 ≤ n → (IsAtMostDate (dates n) (At (pos d)) → ⊥) → (m : ℕ) × IsCount dates d m
count_below dates d rise zero o past = absurd (omega (arith, o))
count_below dates d rise (suc n) o past =
    let late : (k : ℕ) → suc n ≤ k → IsAtMostDate (dates k) (At (pos d)) → ⊥ = λ k l h. past (at_most_trans (dates (suc n)) (dates k) (At (pos d)) (rise (suc n) k o l) h) in
    ⊎_elim
    (λ (e : n ≡ 0). (0, λ k one. (λ h. absurd (late k (omega (arith, e, one)) h), λ l. absurd (omega (arith, one, l)))))
    (λ (e : n ≢ 0).
    ⊎_elim
    (λ (h : IsAtMostDate (dates n) (At (pos d))). (
      n,
      λ k one. (
        λ g. ⊎_elim (λ (q : n < k). absurd (late k (omega (arith, q)) g)) (λ (q : k ≤ n). q) (cases_lt n k),
        λ l. at_most_trans (dates k) (dates n) (At (pos d)) (rise k n one l) h,
      ),
    ))
    (λ (h : IsAtMostDate (dates n) (At (pos d)) → ⊥). count_below dates d rise n (omega (arith, e)) h)
    (by_then (dates n) d))
    (cases_eq n 0)

module _ (net : NetLists) (u x : Dating) (f : IsFeasibleUnder net u x) (on : (t d : ℕ) → t < length net.transitions → (k : ℕ) × (1 ≤ k) × (IsAtMostDate (x t k) (At (pos d)) → ⊥)) where
  rises : (t : ℕ) → t < length net.transitions → Rise (x t)
  rises t l j k o m = let e : j + (k - j) ≡ k = omega (arith, m) in rw e at (climb net u x f t j l o (k - j))

  counted : (t d : ℕ) → t < length net.transitions → (m : ℕ) × IsCount (x t) d m
  counted t d l = let at = on t d l in count_below (x t) d (rises t l) at.0 at.1 at.2

  -- the count of a transition of the net
  count_if : (t d : ℕ) → (t < length net.transitions) ⊎ (length net.transitions ≤ t) → Option ℕ
  count_if t d (inl l) = Some (counted t d l).0
  count_if t d (inr l) = None

  is_count : (t d : ℕ) (s : (t < length net.transitions) ⊎ (length net.transitions ≤ t)) → t < length net.transitions
      → (k : ℕ) → 1 ≤ k → IsAtMostDate (x t k) (At (pos d)) ↔ IsUpTo k (count_if t d s)
  unfolding count_if
  is_count t d (inl l) in' k o = (counted t d l).1 k o
  is_count t d (inr l) in' k o = absurd (omega (arith, l, in'))

  pub counts : ℕ → ℕ → Option ℕ
  counts t d = count_if t d (cases_lt t (length net.transitions))

  pub are_counters : AreCounters net x counts
  unfolding counts
  are_counters t l d k o = is_count t d (cases_lt t (length net.transitions)) l k o

pub counters_exist : CountersExist
counters_exist net u x f on = (counts net u x f on, are_counters net u x f on)

pub same_count : (o p : Option ℕ) → ((k : ℕ) → 1 ≤ k → IsUpTo k o → IsUpTo k p) → ((k : ℕ) → 1 ≤ k → IsUpTo k p → IsUpTo k o) → o ≡ p
same_count None None h g = refl
same_count None (Some n) h g = let few : n + 1 ≤ n = h (n + 1) (omega arith) tt in absurd (omega (arith, few))
same_count (Some m) None h g = let few : m + 1 ≤ m = g (m + 1) (omega arith) tt in absurd (omega (arith, few))
same_count (Some m) (Some n) h g =
    let up : m ≤ n = ⊎_elim (λ (q : m ≡ 0). omega (arith, q)) (λ (q : m ≢ 0). let l : m ≤ n = h m (omega (arith, q)) (omega arith) in l) (cases_eq m 0) in
    let down : n ≤ m = ⊎_elim (λ (q : n ≡ 0). omega (arith, q)) (λ (q : n ≢ 0). let l : n ≤ m = g n (omega (arith, q)) (omega arith) in l) (cases_eq n 0) in
    let same : m ≡ n = omega (arith, up, down) in
    ap Some same

pub counters_one : CountersAreOne
counters_one net x c other a b t d l =
    same_count (c t d) (other t d)
    (λ k o h. (b t l d k o).0 ((a t l d k o).1 h))
    (λ k o h. (a t l d k o).0 ((b t l d k o).1 h))
