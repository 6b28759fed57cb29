-- The firings of a transition in an earliest run have the numbers 1, 2, 3 and on, and so the run is whole.
use Rattle.std.proofs.Common.{ℕ, zero, suc, pos, ◌+◌, ◌-◌, ◌<◌, ◌≤◌, ◌≡◌, ◌≢◌, List, [], ◌∷◌, Some, true, false, cond, eqb, length, get_or, map, refl, sym, ap, subst, ◌∙◌, arith, ⊎_elim}
use Rattle.std.specs.Prelude.{All, AllPairs, Contains}
use Rattle.std.proofs.lemmas.Bool.{cases_eq, cases_lt}
use Rattle.std.proofs.lemmas.Bool.Decides.{nat_tests}
use Rattle.std.proofs.lemmas.List.{get_or-map, length-map, get_or_default, ext_get_or}
use Rattle.std.proofs.lemmas.List.Elements.{All-contains, All-tail}
use Rattle.std.proofs.lemmas.List.Kept.{AllPairs-cons}
use Rattle.teg_model.specs.dioid.declared.dates.Date.TheVariants.{At, Never}
use Rattle.teg_model.specs.dioid.Dates.{IsAtMostDate}
use Rattle.teg_net.specs.Nets.{NetLists}
use Rattle.teg_model.specs.Datings.{listed_releases, IsFeasibleUnder}
use Rattle.teg_model.proofs.DateFunctions.{Dating}
use Rattle.teg_model.proofs.Tokens.{dates_climb}
use Rattle.run_laws.specs.declared.fired.Fired.{Fired}
use Rattle.run_laws.specs.Runs.{dates_of_transition, firing_date}
use Rattle.run_laws.specs.EarliestRuns.{Numbered, date_of_firing, IsBeforeDate, ComesBeforeByNumber, ComesBefore, IsFiringUpTo, IsRunInOrder}
use Rattle.run_laws.proofs.Dates.{get_there, get_last}
use Rattle.run_laws.proofs.Prefixes.{no_firing}
use Rattle.dating_laws.proofs.SlowerNets.{climb}
use Rattle.game_laws.specs.EarliestRunsExist.{EarliestRunsAreWhole}
use Rattle.game_laws.proofs.Gathering.{all_dated, no_number, number_of, is_numbered, fired_at, same_fired, same_fields, at_is_one}
use Rattle.game_laws.proofs.Sorting.{all_contained, contains_more, contains_split, first_before, rest_in_order}

-- ---- the numbers of the firings of a transition, in their order

-- this firing of the transition
abbrev firing : ℕ → ℕ → Numbered
firing t k = record { transition = t; number = k }

abbrev numbers_of : List Numbered → ℕ → List ℕ
numbers_of [] t = []
numbers_of (f ∷ fs) t = cond (eqb f.transition t) (f.number ∷ numbers_of fs t) (numbers_of fs t)

numbers_own : (f : Numbered) (fs : List Numbered) (t : ℕ) → f.transition ≡ t → numbers_of (f ∷ fs) t ≡ f.number ∷ numbers_of fs t
numbers_own f fs t e = let test : eqb f.transition t ≡ true = grind (arith, nat_tests) in rw test refl

numbers_other : (f : Numbered) (fs : List Numbered) (t : ℕ) → f.transition ≢ t → numbers_of (f ∷ fs) t ≡ numbers_of fs t
numbers_other f fs t e = let test : eqb f.transition t ≡ false = grind (arith, nat_tests) in rw test refl

number_in : (fs : List Numbered) (t k : ℕ) → Contains fs (firing t k) → Contains (numbers_of fs t) k
number_in [] t k c = absurd (omega (arith, c.1))
number_in (f ∷ fs) t k c =
    ⊎_elim
    (λ (e : f.transition ≡ t).
    rw (numbers_own f fs t e)
    (⊎_elim
    (λ (q : firing t k ≡ f). let same : f.number ≡ k = sym (ap (λ g. g.number) q) in (0, omega arith, same))
    (λ (q : Contains fs (firing t k)). contains_more f.number (numbers_of fs t) k (number_in fs t k q))
    (contains_split f fs (firing t k) c)))
    (λ (e : f.transition ≢ t).
    rw (numbers_other f fs t e)
    (⊎_elim
    (λ (q : firing t k ≡ f). absurd (e (sym (ap (λ g. g.transition) q))))
    (λ (q : Contains fs (firing t k)). number_in fs t k q)
    (contains_split f fs (firing t k) c)))
    (cases_eq f.transition t)

number_of_in : (fs : List Numbered) (t k : ℕ) → Contains (numbers_of fs t) k → Contains fs (firing t k)
number_of_in [] t k c = absurd (omega (arith, c.1))
number_of_in (f ∷ fs) t k c =
    ⊎_elim
    (λ (e : f.transition ≡ t).
    ⊎_elim
    (λ (q : k ≡ f.number). let own : f ≡ firing t k = same_fields f (firing t k) e (sym q) in (0, omega arith, own))
    (λ (q : Contains (numbers_of fs t) k). contains_more f fs (firing t k) (number_of_in fs t k q))
    (contains_split f.number (numbers_of fs t) k (rw (numbers_own f fs t e) at c)))
    (λ (e : f.transition ≢ t). contains_more f fs (firing t k) (number_of_in fs t k (rw (numbers_other f fs t e) at c)))
    (cases_eq f.transition t)

-- the dates of the transition in the run of the firings are those of its numbers
dates_are : (x : Dating) (fs : List Numbered) (t : ℕ) → dates_of_transition (map (fired_at x) fs) t ≡ map (λ k. number_of (x t k)) (numbers_of fs t)
dates_are x [] t = refl
dates_are x (f ∷ fs) t =
    let rest = dates_are x fs t in
    ⊎_elim
    (λ (e : f.transition ≡ t).
    let test : eqb f.transition t ≡ true = grind (arith, nat_tests) in
    let one : number_of (x f.transition f.number) ≡ number_of (x t f.number) = ap (λ s. number_of (x s f.number)) e in
    rw (test, rest, one) refl)
    (λ (e : f.transition ≢ t).
    let test : eqb f.transition t ≡ false = grind (arith, nat_tests) in
    rw (test, rest) refl)
    (cases_eq f.transition t)

-- ---- rising numbers from 1 on, each but 1 with the number before it, are 1, 2, 3 and on

counted : (ns : List ℕ) → AllPairs (λ a b. a < b) ns → ((k : ℕ) → Contains ns k → 1 ≤ k) → ((k : ℕ) → 1 ≤ k → Contains ns (k + 1) → Contains ns k)
    → (n : ℕ) → n ≤ length ns → (i : ℕ) → i < n → get_or ns i 0 ≡ i + 1
counted ns rise first closed zero l i m = absurd (omega (arith, m))
counted ns rise first closed (suc n) l i m =
    let below = counted ns rise first closed n (omega (arith, l)) in
    let a : ℕ = get_or ns n 0 in
    let in' : n < length ns = omega (arith, l) in
    let here : Contains ns a = (n, in', get_or_default ns n a 0 in') in
    let low : n + 1 ≤ a =
    ⊎_elim
    (λ (q : n ≡ 0). omega (arith, q, first a here))
    (λ (q : n ≢ 0).
    let before = below (n - 1) (omega (arith, q)) in
    let up = rise (n - 1) n 0 (omega (arith, q)) in' in
    omega (arith, before, up, q))
    (cases_eq n 0) in
    let own : a ≡ n + 1 =
    ⊎_elim
    (λ (q : a ≡ n + 1). q)
    (λ (q : a ≢ n + 1).
    let one : a - 1 + 1 ≡ a = omega (arith, low) in
    let at = closed (a - 1) (omega (arith, low, q)) (rw one here) in
    let is : get_or ns at.0 0 ≡ a - 1 = get_or_default ns at.0 0 (a - 1) at.1 ∙ at.2 in
    ⊎_elim
    (λ (s : at.0 < n). let small = below at.0 s in absurd (omega (arith, small, is, s, low, q)))
    (λ (s : n ≤ at.0).
    ⊎_elim
    (λ (e : at.0 ≡ n). let same : get_or ns at.0 0 ≡ a = ap (λ j. get_or ns j 0) e in absurd (omega (arith, same, is, low)))
    (λ (e : at.0 ≢ n). let up = rise n at.0 0 (omega (arith, s, e)) at.1 in absurd (omega (arith, up, is)))
    (cases_eq at.0 n))
    (cases_lt at.0 n))
    (cases_eq a (n + 1)) in
    ⊎_elim
    (λ (q : i < n). below i q)
    (λ (q : n ≤ i). let e : i ≡ n = omega (arith, q, m) in rw e own)
    (cases_lt i n)

-- ---- the numbers in an earliest run

module _ (net : NetLists) (x : Dating) (f : IsFeasibleUnder net (listed_releases net) x) (rank : ℕ → ℕ) (most : ℕ) (fs : List Numbered)
    (run : List Fired) (o : IsRunInOrder net x rank most fs run) where
  up_to : (t k : ℕ) → Contains fs (firing t k) → IsFiringUpTo net most (firing t k)
  up_to t k c = All-contains (IsFiringUpTo net most) fs (firing t k) o.known c

  dated : (t k : ℕ) → Contains fs (firing t k) → (z : ℕ) × (x t k ≡ At (pos z))
  dated t k c = ((get_or run c.0 no_firing).date, rw c.2 at (o.dates c.0 (firing t k) no_firing c.1))

  -- of two firings of a transition the one that comes before has the lower number
  lower : (t a b : ℕ) → t < length net.transitions → 1 ≤ b → ComesBefore x rank (firing t a) (firing t b) → a < b
  lower t a b l one h =
      ⊎_elim
      (λ (q : a < b). q)
      (λ (q : b ≤ a).
      let e : b + (a - b) ≡ a = omega (arith, q) in
      let rises : IsAtMostDate (x t b) (x t a) = rw e at (climb net (listed_releases net) x f t b l one (a - b)) in
      ⊎_elim
      (λ (s : IsBeforeDate (x t a) (x t b)). absurd (s rises))
      (λ (s : (x t a ≡ x t b) × ComesBeforeByNumber rank (firing t a) (firing t b)). let n = s.1 in grind (arith, n))
      h)
      (cases_lt a b)

  rise : (gs : List Numbered) (t : ℕ) → t < length net.transitions → All (IsFiringUpTo net most) gs → AllPairs (ComesBefore x rank) gs → AllPairs (λ a b. a < b) (numbers_of gs t)
  rise [] t l known order = λ i j d m n. absurd (omega (arith, n))
  rise (g ∷ gs) t l known order =
      let rest = rise gs t l (All-tail (IsFiringUpTo net most) g gs known) (rest_in_order (ComesBefore x rank) g gs order) in
      ⊎_elim
      (λ (e : g.transition ≡ t).
      let own : g ≡ firing t g.number = same_fields g (firing t g.number) e refl in
      rw (numbers_own g gs t e)
      (AllPairs-cons (λ a b. a < b) g.number (numbers_of gs t)
      (all_contained (λ b. g.number < b) (numbers_of gs t) (λ b c.
      let at = number_of_in gs t b c in
      let before : ComesBefore x rank g (firing t b) = rw at.2 at (first_before (ComesBefore x rank) g gs order at.0 (firing t b) at.1) in
      let one = (All-contains (IsFiringUpTo net most) gs (firing t b) (All-tail (IsFiringUpTo net most) g gs known) at).first in
      lower t g.number b l one (subst (λ h. ComesBefore x rank h (firing t b)) own before)))
      rest))
      (λ (e : g.transition ≢ t). rw (numbers_other g gs t e) rest)
      (cases_eq g.transition t)

  closed : (t : ℕ) → t < length net.transitions → (k : ℕ) → 1 ≤ k → Contains (numbers_of fs t) (k + 1) → Contains (numbers_of fs t) k
  closed t l k one c =
      let there = number_of_in fs t (k + 1) c in
      let up = up_to t (k + 1) there in
      let date = dated t (k + 1) there in
      let low : IsAtMostDate (x t k) (At (pos date.0)) = rw date.1 at (dates_climb net (listed_releases net) x f t k l one) in
      let last = up.last in
      number_in fs t k (o.all (firing t k) (record { transition_in = l; first = one; last = omega (arith, last) }) (λ n. rw n at low))

  -- the number at its place
  number_at : (t : ℕ) → t < length net.transitions → (i : ℕ) → i < length (numbers_of fs t) → get_or (numbers_of fs t) i 0 ≡ i + 1
  number_at t l i m =
      counted (numbers_of fs t) (rise fs t l o.known o.order) (λ k c. (up_to t k (number_of_in fs t k c)).first) (closed t l) (length (numbers_of fs t)) (omega arith) i m

  is_map : run ≡ map (fired_at x) fs
  is_map =
      ext_get_or no_firing run (map (fired_at x) fs) (omega (arith, o.count, length-map fs (fired_at x)))
      (λ i l.
      let in' : i < length fs = omega (arith, l, o.count) in
      let date = o.dates i no_number no_firing in' in
      let number = is_numbered (date_of_firing x (get_or fs i no_number)) ((get_or run i no_firing).date, date) in
      rw (get_or-map (fired_at x) fs i no_number no_firing in')
      (same_fired (get_or run i no_firing) (fired_at x (get_or fs i no_number)) (o.transitions i no_number no_firing in')
      (at_is_one (get_or run i no_firing).date (number_of (date_of_firing x (get_or fs i no_number))) (sym date ∙ number))))

  dates_of : (t : ℕ) → dates_of_transition run t ≡ map (λ k. number_of (x t k)) (numbers_of fs t)
  dates_of t = ap (λ r. dates_of_transition r t) is_map ∙ dates_are x fs t

  many : (t : ℕ) → length (dates_of_transition run t) ≡ length (numbers_of fs t)
  many t = ap length (dates_of t) ∙ length-map (numbers_of fs t) (λ k. number_of (x t k))

  -- the date of a firing stands at the place of its number
  date_at : (t : ℕ) → t < length net.transitions → (i : ℕ) → i < length (numbers_of fs t) → get_or (dates_of_transition run t) i 0 ≡ number_of (x t (i + 1))
  date_at t l i m =
      ap (λ ds. get_or ds i 0) (dates_of t) ∙ (get_or-map (λ k. number_of (x t k)) (numbers_of fs t) i 0 0 m ∙ ap (λ k. number_of (x t k)) (number_at t l i m))

  -- the firing with the number at this place
  there_at : (t : ℕ) → t < length net.transitions → (i : ℕ) → i < length (numbers_of fs t) → Contains fs (firing t (i + 1))
  there_at t l i m = number_of_in fs t (i + 1) (i, m, get_or_default (numbers_of fs t) i (i + 1) 0 m ∙ number_at t l i m)

  each_dated : (t k date : ℕ) → t < length net.transitions → 1 ≤ k → firing_date run t k ≡ Some date → x t k ≡ At (pos date)
  each_dated t k date l one q =
      let at = get_there (dates_of_transition run t) (k - 1) date q in
      let in' : k - 1 < length (numbers_of fs t) = omega (arith, at.0, many t) in
      let e : k - 1 + 1 ≡ k = omega (arith, one) in
      let c : Contains fs (firing t k) = rw e at (there_at t l (k - 1) in') in
      let same : number_of (x t k) ≡ date = rw e at (sym (date_at t l (k - 1) in') ∙ at.1) in
      is_numbered (x t k) (dated t k c) ∙ ap (λ d. At (pos d)) same

  all_there : (t k date : ℕ) → t < length net.transitions → 1 ≤ k → k ≤ most → x t k ≡ At (pos date) → firing_date run t k ≡ Some date
  all_there t k date l one last q =
      let c = number_in fs t k (o.all (firing t k) (record { transition_in = l; first = one; last = last }) (λ n. let no : At (pos date) ≡ Never = sym q ∙ n in cc)) in
      let number = number_at t l c.0 c.1 in
      let is : get_or (numbers_of fs t) c.0 0 ≡ k = get_or_default (numbers_of fs t) c.0 0 k c.1 ∙ c.2 in
      let place : k - 1 ≡ c.0 = omega (arith, number, is) in
      let in' : k - 1 < length (dates_of_transition run t) = omega (arith, place, c.1, many t) in
      let e : k - 1 + 1 ≡ k = omega (arith, one) in
      let date_is : get_or (dates_of_transition run t) (k - 1) 0 ≡ number_of (x t k) = rw e at (date_at t l (k - 1) (omega (arith, place, c.1))) in
      let same : number_of (x t k) ≡ date = ap number_of q in
      get_last (dates_of_transition run t) (k - 1) in' ∙ ap Some (date_is ∙ same)

  few : (t : ℕ) → t < length net.transitions → length (dates_of_transition run t) ≤ most
  few t l =
      ⊎_elim
      (λ (q : most < length (numbers_of fs t)). let last = (up_to t (most + 1) (there_at t l most q)).last in absurd (omega (arith, last)))
      (λ (q : length (numbers_of fs t) ≤ most). omega (arith, q, many t))
      (cases_lt most (length (numbers_of fs t)))

pub earliest_whole : EarliestRunsAreWhole
earliest_whole net x most run least e =
    let f = least.feasible in
    let o = e.in_order in
    record {
      known = λ i d l.
          let in' : i < length e.firings = omega (arith, l, o.count) in
          rw (o.transitions i no_number d in') (o.known i no_number in').transition_in;
      dated = λ t k date l one q. each_dated net x f e.rank most e.firings run o t k date l one q;
      all = λ t k date l one last q. all_there net x f e.rank most e.firings run o t k date l one last q;
      no_more = λ t l. few net x f e.rank most e.firings run o t l;
      count = λ t l dated.
          let low = few net x f e.rank most e.firings run o t l in
          ⊎_elim
          (λ (q : 0 < most).
          ⊎_elim
          (λ (n : x t most ≡ Never). absurd (dated n))
          (λ (n : (date : ℕ) × (x t most ≡ At (pos date))).
          let there = all_there net x f e.rank most e.firings run o t most n.0 l (omega (arith, q)) (omega arith) n.1 in
          let in' = (get_there (dates_of_transition run t) (most - 1) n.0 there).0 in
          omega (arith, in', low, q))
          (all_dated net x f t most l (omega (arith, q))))
          (λ (q : most ≤ 0). omega (arith, low, q))
          (cases_lt 0 most);
    }
