-- The earliest runs of the least dating are legal.
use Rattle.std.proofs.Common.{ℕ, zero, suc, pos, ◌+◌, ◌-◌, ◌<◌, ◌≤◌, ◌≡◌, ◌≢◌, List, [], ◌∷◌, ◌++◌, Option, Some, None, true, false, ltb, length}
use Rattle.std.proofs.Common.{take, get_or, refl, ap, subst, ◌∙◌, arith, inl, inr, ⊎_elim}
use Rattle.std.specs.Prelude.{◌⊎◌}
use Rattle.std.proofs.lemmas.Bool.{cases_eq, cases_lt, cases_Bool}
use Rattle.std.proofs.lemmas.Bool.Decides.{nat_tests}
use Rattle.std.proofs.lemmas.Int.{ints, by_lt_z}
use Rattle.std.proofs.lemmas.List.{take_more, get_or_default}
use Rattle.teg_model.specs.dioid.declared.dates.Date.{Date}
use Rattle.teg_model.specs.dioid.declared.dates.Date.TheVariants.{Early, At, Never}
use Rattle.teg_model.specs.dioid.Dates.{IsAtMostDate, delayed}
use Rattle.teg_model.proofs.dioid_proofs.DateOrder.{at_most_trans, at_most_is, at_most_total, delayed_later}
use Rattle.teg_net.specs.declared.entries.Place.{Place}
use Rattle.teg_net.specs.Nets.{NetLists, HasEndsInRange, IsInput}
use Rattle.teg_net.specs.Inputs.{input_date}
use Rattle.teg_net.specs.ReadyDates.{ready_date}
use Rattle.teg_net.specs.Circuits.{no_place}
use Rattle.teg_model.specs.Datings.{implicit_place, available_at, initial_date, as_date, listed_releases, IsFeasibleUnder}
use Rattle.teg_model.proofs.OfNet.{extended_has, implicit_is}
use Rattle.teg_model.proofs.Tokens.{implicit_after}
use Rattle.teg_model.proofs.DateFunctions.{Dating}
use Rattle.run_laws.specs.declared.fired.Fired.{Fired}
use Rattle.run_laws.specs.Runs.{dates_of_transition, next_number, firing_date, token_date, IsThereBy, last_date, IsNotBefore}
use Rattle.run_laws.specs.EarliestRuns.{Numbered, date_of_firing, IsBeforeDate, ComesBeforeByNumber, ComesBefore, IsFiringUpTo, IsRunInOrder}
use Rattle.run_laws.specs.EarliestRuns.{RisesAlong, EarliestRunsAreLegal, PartsOfEarliestRunsAreLegal}
use Rattle.run_laws.proofs.Dates.{dates_of_own, dates_of_other, get_there, get_last}
use Rattle.run_laws.proofs.Prefixes.{no_firing, legal_take}
use Rattle.run_laws.proofs.Least.{firing_push, last_push, get_pushed, get_push_left}

abbrev no_number : Numbered
no_number = record { transition = 0; number = 0 }

-- ---- the order of firings

same_or_before : (a b : Date) → IsAtMostDate a b → (a ≡ b) ⊎ IsBeforeDate a b
same_or_before Early Early h = inl refl
same_or_before Early (At t) h = inr (λ l. l)
same_or_before Early Never h = inr (λ l. l)
same_or_before (At s) Early h = absurd h
same_or_before (At s) (At t) h = by_lt_z s t (λ l. inr (λ m. absurd (omega (arith, ints, l, m)))) (λ l. let e : s ≡ t = omega (arith, ints, h, l) in inl (ap At e))
same_or_before (At s) Never h = inr (λ l. l)
same_or_before Never Early h = absurd h
same_or_before Never (At t) h = absurd h
same_or_before Never Never h = inl refl

by_number_once : (rank : ℕ → ℕ) (a b : Numbered) → ComesBeforeByNumber rank a b → ComesBeforeByNumber rank b a → ⊥
by_number_once rank a b h g = grind (arith, h, g)

comes_once : (x : Dating) (rank : ℕ → ℕ) (a b : Numbered) → ComesBefore x rank a b → ComesBefore x rank b a → ⊥
comes_once x rank a b h g =
    ⊎_elim
    (λ (p : IsBeforeDate (date_of_firing x a) (date_of_firing x b)).
    ⊎_elim
    (λ (q : IsBeforeDate (date_of_firing x b) (date_of_firing x a)). ⊎_elim (λ l. q l) (λ l. p l) (at_most_total (date_of_firing x a) (date_of_firing x b)))
    (λ (q : (date_of_firing x b ≡ date_of_firing x a) × ComesBeforeByNumber rank b a). p (at_most_is (date_of_firing x b) (date_of_firing x a) q.0))
    g)
    (λ (p : (date_of_firing x a ≡ date_of_firing x b) × ComesBeforeByNumber rank a b).
    ⊎_elim
    (λ (q : IsBeforeDate (date_of_firing x b) (date_of_firing x a)). q (at_most_is (date_of_firing x a) (date_of_firing x b) p.0))
    (λ (q : (date_of_firing x b ≡ date_of_firing x a) × ComesBeforeByNumber rank b a). by_number_once rank a b p.1 q.1)
    g)
    h

comes_at_most : (x : Dating) (rank : ℕ → ℕ) (a b : Numbered) → ComesBefore x rank a b → IsAtMostDate (date_of_firing x a) (date_of_firing x b)
comes_at_most x rank a b h =
    ⊎_elim
    (λ (p : IsBeforeDate (date_of_firing x a) (date_of_firing x b)). ⊎_elim (λ l. l) (λ l. absurd (p l)) (at_most_total (date_of_firing x a) (date_of_firing x b)))
    (λ (p : (date_of_firing x a ≡ date_of_firing x b) × ComesBeforeByNumber rank a b). at_most_is (date_of_firing x a) (date_of_firing x b) p.0)
    h

-- a firing of the run that comes before the one at i stands before it
stands_before : (net : NetLists) (x : Dating) (rank : ℕ → ℕ) (most : ℕ) (fs : List Numbered) (run : List Fired) → IsRunInOrder net x rank most fs run → (i : ℕ) (g : Numbered) → i < length fs
    → IsFiringUpTo net most g → date_of_firing x g ≢ Never → ComesBefore x rank g (get_or fs i no_number) → (j : ℕ) × (j < i) × (get_or fs j no_number ≡ g)
stands_before net x rank most fs run o i g l up dated before =
    let at = o.all g up dated in
    let is : get_or fs at.0 no_number ≡ g = get_or_default fs at.0 no_number g at.1 ∙ at.2 in
    ⊎_elim
    (λ (q : at.0 < i). (at.0, q, is))
    (λ (q : i ≤ at.0).
    ⊎_elim
    (λ (s : at.0 ≡ i). let own : get_or fs i no_number ≡ g = rw s at is in absurd (comes_once x rank g g (rw own at before) (rw own at before)))
    (λ (s : at.0 ≢ i). absurd (comes_once x rank g (get_or fs i no_number) before (rw is at (o.order i at.0 no_number (omega (arith, q, s)) at.1))))
    (cases_eq at.0 i))
    (cases_lt at.0 i)

-- ---- the firings of a first part of the run

firing_push_left : (run : List Fired) (f : Fired) (t k date : ℕ) → firing_date run t k ≡ Some date → firing_date (run ++ f ∷ []) t k ≡ Some date
firing_push_left run f t k date e =
    ⊎_elim
    (λ (q : f.transition.index ≡ t). rw (dates_of_own run f t q) (get_push_left (dates_of_transition run t) f.date date (k - 1) e))
    (λ (q : f.transition.index ≢ t). rw (dates_of_other run f t q) e)
    (cases_eq f.transition.index t)

firing_at : (run : List Fired) (f : Fired) (t k : ℕ) → f.transition.index ≡ t → next_number run f.transition.index ≡ k → firing_date (run ++ f ∷ []) t k ≡ Some f.date
firing_at run f t k e n =
    let same = ap (λ u. length (dates_of_transition run u)) e in
    let i : k - 1 ≡ length (dates_of_transition run t) = omega (arith, n, same) in
    rw (i, dates_of_own run f t e) (get_pushed (dates_of_transition run t) f.date)

-- the run has just the first n of the firings, at their dates
record Placed (x : Dating) (fs : List Numbered) (run : List Fired) (n : ℕ) : Type 0 where
  sound : (t k date : ℕ) → 1 ≤ k → firing_date run t k ≡ Some date → (j : ℕ) × (j < n) × (get_or fs j no_number ≡ record { transition = t; number = k })
  complete : (j : ℕ) → j < n → (date : ℕ) × (firing_date run (get_or fs j no_number).transition (get_or fs j no_number).number ≡ Some date) × (date_of_firing x (get_or fs j no_number) ≡ At (pos date))

placed_begins : (x : Dating) (fs : List Numbered) → Placed x fs [] 0
placed_begins x fs = record {
  sound = λ t k date o e. absurd (omega (arith, (get_there [] (k - 1) date e).0));
  complete = λ j l. absurd (omega arith);
}

placed_more : (x : Dating) (fs : List Numbered) (run : List Fired) (n : ℕ) (f : Fired) → Placed x fs run n → f.transition.index ≡ (get_or fs n no_number).transition
    → next_number run f.transition.index ≡ (get_or fs n no_number).number → date_of_firing x (get_or fs n no_number) ≡ At (pos f.date) → Placed x fs (run ++ f ∷ []) (n + 1)
placed_more x fs run n f h t k e = record {
  sound = λ u j date o q.
      ⊎_elim
      (λ (s : firing_date run u j ≡ Some date). let at = h.sound u j date o s in (at.0, omega (arith, at.1), at.2))
      (λ (s : (u ≡ f.transition.index) × (j ≡ next_number run f.transition.index) × (date ≡ f.date)).
      let a : u ≡ (get_or fs n no_number).transition = s.0 ∙ t in
      let b : j ≡ (get_or fs n no_number).number = s.1 ∙ k in
      (n, omega arith, rw (a, b) refl))
      (firing_push run f u j date o q);
  complete = λ j l.
      ⊎_elim
      (λ (q : j < n). let at = h.complete j q in (at.0, firing_push_left run f (get_or fs j no_number).transition (get_or fs j no_number).number at.0 at.1, at.2))
      (λ (q : n ≤ j).
      let one : j ≡ n = omega arith in
      rw one (f.date, firing_at run f (get_or fs n no_number).transition (get_or fs n no_number).number t k, e))
      (cases_lt j n);
}

-- ---- what the dating keeps

never_not_at : (a : Date) (d : ℕ) → IsAtMostDate a (At (pos d)) → a ≢ Never
never_not_at a d h e = rw e at h

own_climbs : (net : NetLists) (x : Dating) → IsFeasibleUnder net (listed_releases net) x → (t k : ℕ) → t < length net.transitions → 1 < k → IsAtMostDate (x t (k - 1)) (x t k)
own_climbs net x f t k l o =
    let own = implicit_is net t l in
    let two : suc (suc (k - 2)) ≡ k = omega arith in
    let one : suc (k - 2) ≡ k - 1 = omega arith in
    let there : IsAtMostDate (available_at x (implicit_place t) (suc (suc (k - 2)))) (x t (suc (suc (k - 2)))) = rw own.2 at (f.places (suc (suc (k - 2))) (omega arith) own.0 no_place own.1) in
    let after : IsAtMostDate (x t (suc (k - 2))) (x t (suc (suc (k - 2)))) = subst (λ a. IsAtMostDate a (x t (suc (suc (k - 2))))) (implicit_after initial_date x t (k - 2)) there in
    rw (two, one) at after

place_asks : (net : NetLists) (x : Dating) → IsFeasibleUnder net (listed_releases net) x → (i : ℕ) (d : Place) (k : ℕ) → i < length net.places → 1 ≤ k
    → IsAtMostDate (available_at x (get_or net.places i d) k) (x (get_or net.places i d).to.index k)
place_asks net x f i d k l o =
    let at = extended_has net (λ p. IsAtMostDate (available_at x p k) (x p.to.index k)) (λ j m. f.places k o j no_place m) i l in
    subst (λ p. IsAtMostDate (available_at x p k) (x p.to.index k)) (get_or_default net.places i no_place d l) at

-- ---- the firing at n is the next of its transition, and legal

number_is : (net : NetLists) (x : Dating) (rank : ℕ → ℕ) (most : ℕ) (fs : List Numbered) (run before : List Fired) (n : ℕ) (date : ℕ) → IsFeasibleUnder net (listed_releases net) x
    → IsRunInOrder net x rank most fs run → Placed x fs before n → n < length fs → date_of_firing x (get_or fs n no_number) ≡ At (pos date)
    → next_number before (get_or fs n no_number).transition ≡ (get_or fs n no_number).number
number_is net x rank most fs run before n date f o h l e =
    let own : Numbered = get_or fs n no_number in
    let t : ℕ = own.transition in
    let k : ℕ = own.number in
    let up : IsFiringUpTo net most own = o.known n no_number l in
    let many : ℕ = length (dates_of_transition before t) in
    let low : k ≤ many + 1 =
    ⊎_elim
    (λ (q : 1 < k).
    let g : Numbered = record { transition = t; number = k - 1 } in
    let climbs : IsAtMostDate (date_of_firing x g) (date_of_firing x own) = own_climbs net x f t k up.transition_in q in
    let dated = never_not_at (date_of_firing x g) date (rw e at climbs) in
    let up2 : IsFiringUpTo net most g = record { transition_in = up.transition_in; first = omega (arith, q); last = omega (arith, up.last) } in
    let less : g.number < own.number = omega (arith, q) in
    let comes : ComesBefore x rank g own = ⊎_elim (λ (s : date_of_firing x g ≡ date_of_firing x own). inr (s, inl less))
    (λ (s : IsBeforeDate (date_of_firing x g) (date_of_firing x own)). inl s) (same_or_before (date_of_firing x g) (date_of_firing x own) climbs) in
    let at = stands_before net x rank most fs run o n g l up2 dated comes in
    let there = rw at.2 at (h.complete at.0 at.1).1 in
    let in' = (get_there (dates_of_transition before t) (k - 1 - 1) (h.complete at.0 at.1).0 there).0 in
    omega (arith, in', q))
    (λ (q : k ≤ 1). omega (arith, q))
    (cases_lt 1 k) in
    let high : many + 1 ≤ k =
    ⊎_elim
    (λ (q : k - 1 < many).
    let at = h.sound t k (get_or (dates_of_transition before t) (k - 1) 0) up.first (get_last (dates_of_transition before t) (k - 1) q) in
    let same : get_or fs at.0 no_number ≡ own = at.2 in
    let before2 : ComesBefore x rank own own = rw same at (o.order at.0 n no_number at.1 l) in
    absurd (comes_once x rank own own before2 before2))
    (λ (q : many ≤ k - 1). omega (arith, q, up.first))
    (cases_lt (k - 1) many) in
    omega (arith, low, high)

after_hold : (h d date : ℕ) (a : Date) → a ≡ At (pos d) → IsAtMostDate (delayed h a) (At (pos date)) → d + h ≤ date
after_hold h d date a e l =
    let at : IsAtMostDate (delayed h (At (pos d))) (At (pos date)) = rw e at l in
    omega (arith, ints, at)

token_in_order : (net : NetLists) (x : Dating) (rank : ℕ → ℕ) (most : ℕ) (fs : List Numbered) (run before : List Fired) (n date : ℕ)
    → HasEndsInRange net → IsFeasibleUnder net (listed_releases net) x → RisesAlong net rank
    → IsRunInOrder net x rank most fs run → Placed x fs before n → n < length fs → date_of_firing x (get_or fs n no_number) ≡ At (pos date)
    → (i : ℕ) (d : Place) → i < length net.places → (get_or net.places i d).to.index ≡ (get_or fs n no_number).transition
    → IsThereBy date (token_date before (get_or net.places i d) (get_or fs n no_number).number)
token_in_order net x rank most fs run before n date ends f rises o h l e i d m to =
    let own : Numbered = get_or fs n no_number in
    let k : ℕ = own.number in
    let up : IsFiringUpTo net most own = o.known n no_number l in
    let p : Place = get_or net.places i d in
    let asked : IsAtMostDate (available_at x p k) (At (pos date)) = rw (to, e) at (place_asks net x f i d k m up.first) in
    ⊎_elim
    (λ (q : ltb p.tokens k ≡ true).
    let less : p.tokens < k = grind (arith, nat_tests) in
    let g : Numbered = record { transition = p.from.index; number = k - p.tokens } in
    let held : IsAtMostDate (delayed p.hold (date_of_firing x g)) (At (pos date)) = rw q at asked in
    let low : IsAtMostDate (date_of_firing x g) (At (pos date)) =
    at_most_trans (date_of_firing x g) (delayed p.hold (date_of_firing x g)) (At (pos date)) (delayed_later p.hold (date_of_firing x g)) held in
    let up2 : IsFiringUpTo net most g = record { transition_in = (ends i d m).0; first = omega (arith, less); last = omega (arith, up.last) } in
    let by_number : ComesBeforeByNumber rank g own =
    ⊎_elim
    (λ (s : 0 < p.tokens). let a : g.number < own.number = omega (arith, s, less) in inl a)
    (λ (s : p.tokens ≤ 0).
    let z : p.tokens ≡ 0 = omega (arith, s) in
    let a : g.number ≡ own.number = omega (arith, z) in
    let b : rank g.transition < rank own.transition = rw to at (rises i d m z) in
    inr (a, inl b))
    (cases_lt 0 p.tokens) in
    let comes : ComesBefore x rank g own =
    ⊎_elim (λ (s : date_of_firing x g ≡ date_of_firing x own). inr (s, by_number))
    (λ (s : IsBeforeDate (date_of_firing x g) (date_of_firing x own)). inl s) (same_or_before (date_of_firing x g) (date_of_firing x own) (rw e low)) in
    let at = stands_before net x rank most fs run o n g l up2 (never_not_at (date_of_firing x g) date low) comes in
    let done = h.complete at.0 at.1 in
    let there : firing_date before p.from.index (k - p.tokens) ≡ Some done.0 = rw at.2 at done.1 in
    let dated : date_of_firing x g ≡ At (pos done.0) = rw at.2 at done.2 in
    rw (q, there) (after_hold p.hold done.0 date (date_of_firing x g) dated held))
    (λ (q : ltb p.tokens k ≡ false).
    let low : IsAtMostDate (At (pos (ready_date p k))) (At (pos date)) = rw q at asked in
    rw q (omega (arith, ints, low)))
    (cases_Bool (ltb p.tokens k))

date_there : (date : ℕ) (u : Option ℕ) → IsAtMostDate (as_date u) (At (pos date)) → IsThereBy date u
date_there date None h = h
date_there date (Some d) h = omega (arith, ints, h)

last_in_order : (net : NetLists) (x : Dating) (rank : ℕ → ℕ) (most : ℕ) (fs : List Numbered) (run : List Fired) (n date : ℕ) → IsRunInOrder net x rank most fs run → n < length fs
    → date_of_firing x (get_or fs n no_number) ≡ At (pos date) → IsNotBefore (last_date (take n run)) date
last_in_order net x rank most fs run zero date o l e = tt
last_in_order net x rank most fs run (suc n) date o l e =
    let one : suc n ≡ n + 1 = omega arith in
    let in' : n < length run = omega (arith, l, o.count) in
    let below = comes_at_most x rank (get_or fs n no_number) (get_or fs (suc n) no_number) (o.order n (suc n) no_number (omega arith) l) in
    let was = o.dates n no_number no_firing (omega (arith, l)) in
    let low : IsAtMostDate (At (pos (get_or run n no_firing).date)) (At (pos date)) = rw (was, e) at below in
    rw (one, take_more run n no_firing in', last_push (take n run) (get_or run n no_firing)) (omega (arith, ints, low))

placed_to : (net : NetLists) (x : Dating) (rank : ℕ → ℕ) (most : ℕ) (fs : List Numbered) (run : List Fired) → IsFeasibleUnder net (listed_releases net) x
    → IsRunInOrder net x rank most fs run → (n : ℕ) → n ≤ length fs → Placed x fs (take n run) n
placed_to net x rank most fs run f o zero l = placed_begins x fs
placed_to net x rank most fs run f o (suc n) l =
    let in' : n < length fs = omega arith in
    let h = placed_to net x rank most fs run f o n (omega arith) in
    let one : suc n ≡ n + 1 = omega arith in
    let e = o.dates n no_number no_firing in' in
    let t = o.transitions n no_number no_firing in' in
    let number = number_is net x rank most fs run (take n run) n (get_or run n no_firing).date f o h in' e in
    rw (one, take_more run n no_firing (omega (arith, in', o.count)))
    (placed_more x fs (take n run) n (get_or run n no_firing) h t (rw t number) e)

pub earliest_legal : EarliestRunsAreLegal
earliest_legal net x most run ends least e i d l =
    let fs : List Numbered = e.firings in
    let o = e.in_order in
    let in' : i < length fs = omega (arith, l, o.count) in
    let own : Numbered = get_or fs i no_number in
    let f : Fired = get_or run i d in
    let at = o.dates i no_number d in' in
    let t = o.transitions i no_number d in' in
    let h = placed_to net x e.rank most fs run least.feasible o i (omega (arith, in')) in
    let number = number_is net x e.rank most fs run (take i run) i f.date least.feasible o h in' at in
    let up : IsFiringUpTo net most own = o.known i no_number in' in
    record {
      transition_in = rw t up.transition_in;
      tokens = λ q c m to. rw (t, number) (token_in_order net x e.rank most fs run (take i run) i f.date ends least.feasible e.rises o h in' at q c m (to ∙ t));
      in_order = last_in_order net x e.rank most fs run i f.date o in' at;
      released = λ input.
          let input2 : IsInput net own.transition = rw t at input in
          let low = least.feasible.inputs own.transition own.number up.first input2 in
          rw (t, number) (date_there f.date (input_date net own.transition own.number) (rw at at low));
    }

pub parts_legal : PartsOfEarliestRunsAreLegal
parts_legal net x most n run ends least e few = legal_take net run n few (earliest_legal net x most run ends least e)
