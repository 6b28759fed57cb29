-- Releases, one after another, and the delays that are given for them.
use Rattle.std.proofs.Common.{ℕ, zero, suc, ◌+◌, ◌-◌, ◌*◌, ◌/◌, ◌%◌, ◌<◌, ◌≤◌, ◌≡◌, ◌==◌, ◌&&◌, Bool, true, false, cond, List, [], ◌∷◌, ◌++◌, length}
use Rattle.std.proofs.Common.{get_or, take, max, Option, Some, None, refl, sym, ap, subst, ◌∙◌, arith, ⊎_elim}
use Rattle.std.specs.Prelude.{All, find, option_map, unwrap_or}
use Rattle.std.specs.Option.{option_map_or}
use Rattle.std.specs.List.Sorted.{IsNonDecreasing}
use Rattle.std.proofs.lemmas.Bool.{cases_lt}
use Rattle.std.proofs.lemmas.List.{take_more, get_or_default, get_or_append_left, get_or_push, length_push}
use Rattle.std.proofs.lemmas.List.Elements.{All-append, All-cons, All-head, All-tail}
use Rattle.std.proofs.Math.Nat.{mul-le-mul_left, mul-le-mul_right}
use Rattle.delay_laws.specs.declared.table.Delay.{Delay}
use Rattle.delay_laws.specs.declared.table.Timetable.{Timetable}
use Rattle.delay_laws.specs.PlannedTimetables.{IsDelayOf, delay_given, delay_in, planned, greatest_delay}
use Rattle.delay_laws.specs.Delays.{IsReleaseAt}
use Rattle.delay_laws.proofs.Releases.{release_rises}
use Rattle.teg_net.specs.Limits.{greatest_input_date}
use Rattle.teg_net.specs.Nets.{NetLists}
use Rattle.timetable_files.specs.Departures.{or_second}
use Rattle.release_nets.specs.DelaysByNumber.{given_in}
use Rattle.release_nets.specs.ReleaseNetsBuilt.{ArePlannedReleases}

-- so many periods are enough, and they are not more than the delay
pub periods_enough : (by period : ℕ) → 1 ≤ period → by ≤ period * ((by + period - 1) / period)
periods_enough by period some = enough ((by + period - 1) / period) ((by + period - 1) % period) (omega arith) (omega arith)
  where
    enough : (q r : ℕ) → r < period → period * q + r ≡ by + period - 1 → by ≤ period * q
    enough q r l e = omega arith

pub periods_few : (by period : ℕ) → 1 ≤ period → (by + period - 1) / period ≤ by
periods_few by period some = few ((by + period - 1) / period) ((by + period - 1) % period) (omega arith) (omega arith)
  where
    few : (q r : ℕ) → r < period → period * q + r ≡ by + period - 1 → q ≤ by
    few q r l e = ⊎_elim
        (λ (more : by < q).
        let up : period * (by + 1) ≤ period * q = mul-le-mul_left {m = by + 1} {n = q} period (omega arith) in
        let parts : period * (by + 1) ≡ period * by + period = grind arith in
        let own : 1 * by ≤ period * by = mul-le-mul_right by some in
        absurd (omega arith))
        (λ (h : q ≤ by). h)
        (cases_lt by q)

pub passes_own : (period number by extra last : ℕ) → by ≤ period * extra → number + extra ≤ last → period * number + by ≤ period * last
passes_own period number by extra last h l =
    let up : period * (number + extra) ≤ period * last = mul-le-mul_left {m = number + extra} {n = last} period l in
    let parts : period * (number + extra) ≡ period * number + period * extra = grind arith in
    omega arith

-- the delay that more rows give
pub given_in-append : (xs ys : List Delay) (i s : ℕ) → given_in (xs ++ ys) i s ≡ or_second (given_in xs i s) (given_in ys i s)
given_in-append [] ys i s = refl
given_in-append (x ∷ xs) ys i s = by ((x.transition.index == i) && (x.number == s)) (given_in-append xs ys i s)
  where
    is : Delay → Bool
    is d = (d.transition.index == i) && (d.number == s)

    by : (b : Bool) → given_in (xs ++ ys) i s ≡ or_second (given_in xs i s) (given_in ys i s)
        → option_map (λ (d : Delay). d.by) (cond b (Some x) (find (λ d. (d.transition.index == i) && (d.number == s)) (xs ++ ys)))
        ≡ or_second (option_map (λ (d : Delay). d.by) (cond b (Some x) (find (λ d. (d.transition.index == i) && (d.number == s)) xs))) (given_in ys i s)
    by true h = refl
    by false h = h

pub given_more : (ds : List Delay) (k i s : ℕ) (d : Delay) (o : Option ℕ) → k < length ds → o ≡ given_in (take k ds) i s
    → or_second o (given_in (get_or ds k d ∷ []) i s) ≡ given_in (take (k + 1) ds) i s
given_more ds k i s d o lt e =
    ap (λ (x : Option ℕ). or_second x (given_in (get_or ds k d ∷ []) i s)) e
    ∙ sym (given_in-append (take k ds) (get_or ds k d ∷ []) i s)
    ∙ sym (ap (λ (xs : List Delay). given_in xs i s) (take_more ds k d lt))

-- as a number: 0 where none is given
pub given_number : (ds : List Delay) (i s : ℕ) → unwrap_or (given_in ds i s) 0 ≡ delay_in ds i s
given_number ds i s = same (find (λ d. (d.transition.index == i) && (d.number == s)) ds)
  where
    same : (o : Option Delay) → unwrap_or (option_map (λ (d : Delay). d.by) o) 0 ≡ option_map_or (λ (d : Delay). d.by) o 0
    same None = refl
    same (Some d) = refl

-- no delay that is given exceeds its limit
pub given_small : (net : NetLists) (ds : List Delay) (i s : ℕ) → All (IsDelayOf net) ds → delay_in ds i s ≤ greatest_delay
given_small net [] i s h = omega arith
given_small net (d ∷ ds) i s h = by ((d.transition.index == i) && (d.number == s)) (given_small net ds i s (All-tail (IsDelayOf net) d ds h))
  where
    by : (b : Bool) → delay_in ds i s ≤ greatest_delay → option_map_or (λ (x : Delay). x.by) (cond b (Some d) (find (λ x. (x.transition.index == i) && (x.number == s)) ds)) 0 ≤ greatest_delay
    by true rest = let small = (All-head (IsDelayOf net) d ds h).by_in in omega arith
    by false rest = rest

-- the next release, where the departure asks for a later date, and where it does not
next_own : (period : ℕ) (t : Timetable) (i k last own : ℕ) → own ≡ planned period t i (k + 1) + delay_given t i (k + 1) → last ≤ own
    → (1 ≤ k → IsReleaseAt period t i k last) → IsReleaseAt period t i (k + 1) own
next_own period t i k last own is later old = record {
  attained = (k + 1, omega arith, omega arith, is);
  greatest = λ s a b. ⊎_elim
      (λ (c : s < k + 1). let some : 1 ≤ k = omega arith in let low = (old some).greatest s a (omega arith) in omega arith)
      (λ (c : k + 1 ≤ s). let e : s ≡ k + 1 = omega arith in rw (e, is) (omega arith))
      (cases_lt s (k + 1));
}

next_kept : (period : ℕ) (t : Timetable) (i k last : ℕ) → planned period t i (k + 1) + delay_given t i (k + 1) ≤ last → 1 ≤ k
    → IsReleaseAt period t i k last → IsReleaseAt period t i (k + 1) last
next_kept period t i k last stays some old = record {
  attained = (old.attained.0, old.attained.1, omega (arith, old.attained.2), old.attained.3);
  greatest = λ s a b. ⊎_elim
      (λ (c : s < k + 1). old.greatest s a (omega arith))
      (λ (c : k + 1 ≤ s). let e : s ≡ k + 1 = omega arith in rw e stays)
      (cases_lt s (k + 1));
}

-- the next release: the later of the last one and what the next departure asks for
pub next_is : (period : ℕ) (t : Timetable) (i k last own : ℕ) → own ≡ planned period t i (k + 1) + delay_given t i (k + 1) → (k ≡ 0 → last ≡ 0)
    → (1 ≤ k → IsReleaseAt period t i k last) → IsReleaseAt period t i (k + 1) (max own last)
next_is period t i k last own is none old = ⊎_elim
    (λ (later : last < own).
    let e : max own last ≡ own = omega arith in
    subst (IsReleaseAt period t i (k + 1)) (sym e) (next_own period t i k last own is (omega arith) old))
    (λ (stays : own ≤ last).
    let e : max own last ≡ last = omega arith in
    subst (IsReleaseAt period t i (k + 1)) (sym e) (⊎_elim
    (λ (begins : k < 1). let z : k ≡ 0 = omega arith in let nought = none z in next_own period t i k last last (omega arith) (omega arith) old)
    (λ (some : 1 ≤ k). next_kept period t i k last (omega arith) some (old some))
    (cases_lt k 1)))
    (cases_lt last own)

-- one release more
pub releases_more : (period : ℕ) (t : Timetable) (i count date : ℕ) (dates : List ℕ) → ArePlannedReleases period t i count dates → IsReleaseAt period t i (count + 1) date → date ≤ greatest_input_date
    → ArePlannedReleases period t i (count + 1) (dates ++ date ∷ [])
releases_more period t i count date dates old is small =
    let long = old.long in
    record {
      long = length_push dates date ∙ ap (λ (n : ℕ). n + 1) long;
      each = λ k lt. ⊎_elim
          (λ (before : k < count).
          let within : k < length dates = omega arith in
          subst (IsReleaseAt period t i (k + 1)) (sym (get_or_append_left dates (date ∷ []) 0 k within)) (old.each k before))
          (λ (last : count ≤ k).
          let at : k ≡ count = omega arith in
          let end : length dates ≡ k = omega arith in
          subst (IsReleaseAt period t i (k + 1)) (sym (get_or_push dates date 0 k end)) (subst (λ (n : ℕ). IsReleaseAt period t i (n + 1) date) (sym at) is))
          (cases_lt k count);
      small = All-append (λ d. d ≤ greatest_input_date) dates (date ∷ []) old.small (All-cons (λ d. d ≤ greatest_input_date) date [] small (λ k d l. absurd (omega (arith, l))));
    }

-- releases never fall
rises_on : (period : ℕ) (t : Timetable) (i count : ℕ) (dates : List ℕ) → ArePlannedReleases period t i count dates → (a b : ℕ) → a + b < count → get_or dates a 0 ≤ get_or dates (a + b) 0
rises_on period t i count dates h a zero l = let e : a + 0 ≡ a = omega arith in rw e (omega arith)
rises_on period t i count dates h a (suc b) l =
    let before = rises_on period t i count dates h a b (omega (arith, l)) in
    let one = h.each (a + b) (omega (arith, l)) in
    let two = h.each (a + suc b) l in
    let n : a + suc b ≡ a + b + 1 = omega arith in
    let step : get_or dates (a + b) 0 ≤ get_or dates (a + suc b) 0 =
    release_rises period t i (a + b + 1) (get_or dates (a + b) 0) (get_or dates (a + suc b) 0) one (subst (λ (z : ℕ). IsReleaseAt period t i (z + 1) (get_or dates (a + suc b) 0)) n two) in
    omega arith

pub releases_rise : (period : ℕ) (t : Timetable) (i count : ℕ) (dates : List ℕ) → ArePlannedReleases period t i count dates → IsNonDecreasing dates
releases_rise period t i count dates h a b d le lt =
    let long = h.long in
    let n : a + (b - a) ≡ b = omega arith in
    let up : get_or dates a 0 ≤ get_or dates b 0 = rw (← n) (rises_on period t i count dates h a (b - a) (omega (arith, lt))) in
    rw (get_or_default dates a d 0 (omega (arith, lt)), get_or_default dates b d 0 lt) up
