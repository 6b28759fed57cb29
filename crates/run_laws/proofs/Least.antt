-- Legal runs and the least dating.
use Rattle.std.proofs.Common.{ℕ, zero, suc, pos, negsuc, ◌+◌, ◌-◌, ◌<◌, ◌≤◌, ◌≡◌, ◌≢◌, List, [], ◌∷◌, ◌++◌, Option, Some, None, true, false, ltb, eqb}
use Rattle.std.proofs.Common.{length, get_or, refl, sym, ap, arith, inl, inr, ⊎_elim}
use Rattle.std.specs.Prelude.{All, slice_get, option_map, ◌⊎◌}
use Rattle.std.proofs.lemmas.Bool.{cases_eq, cases_Bool}
use Rattle.std.proofs.lemmas.Bool.Decides.{nat_tests}
use Rattle.std.proofs.lemmas.Int.{ints}
use Rattle.std.proofs.lemmas.List.{length_push}
use Rattle.std.proofs.lemmas.List.Elements.{All-push, All-weaker, All-tail, All-cons, All-nil}
use Rattle.teg_model.specs.dioid.declared.dates.Date.{Date}
use Rattle.teg_model.specs.dioid.declared.dates.Date.TheVariants.{Early, At, Never}
use Rattle.teg_model.specs.dioid.Dates.{IsAtMostDate, delayed}
use Rattle.teg_model.proofs.dioid_proofs.DateOrder.{at_most_is, same_by_at_most}
use Rattle.teg_net.specs.declared.entries.Place.{Place}
use Rattle.teg_net.specs.Nets.{NetLists, HasEndsInRange}
use Rattle.teg_net.specs.Inputs.{input_date}
use Rattle.teg_net.specs.ReadyDates.{ready_date}
use Rattle.teg_net.specs.Circuits.{no_place, IsLive}
use Rattle.teg_model.specs.Datings.{implicit_place, extended_places, available_at, as_date, listed_releases, IsFeasibleUnder, IsLeastDating}
use Rattle.teg_model.proofs.Delays.{delayed_not}
use Rattle.teg_model.proofs.OfNet.{all_extended, implicit_is, tight_of_least}
use Rattle.teg_model.proofs.LiveRanks.{live_is_ranked}
use Rattle.teg_model.proofs.DateFunctions.{Dating}
use Rattle.run_laws.specs.declared.fired.Fired.{Fired}
use Rattle.run_laws.specs.Runs.{dates_of_transition, next_number, firing_date, token_date, IsThereBy, last_date, IsNotBefore, IsLegalAfter, IsLegalRun}
use Rattle.run_laws.specs.Earliest.{IsOpenBy, last_listed_date}
use Rattle.run_laws.specs.LegalRuns.{IsNotEarly, IsDatedBy, LegalRunsAreNotEarly, EarliestIsLeast}
use Rattle.run_laws.proofs.Dates.{dates_of_own, dates_of_other, get_there, get_last}
use Rattle.run_laws.proofs.Earliest.{implicit_date}
use Rattle.run_laws.proofs.Prefixes.{along, legal_begins, legal_push}

-- ---- one more item at the end of a list

pub get_pushed : {X : Type 0} (xs : List X) (y : X) → slice_get (xs ++ y ∷ []) (length xs) ≡ Some y
get_pushed [] y = refl
get_pushed (x ∷ xs) y = get_pushed xs y

pub get_push_left : {X : Type 0} (xs : List X) (y x : X) (i : ℕ) → slice_get xs i ≡ Some x → slice_get (xs ++ y ∷ []) i ≡ Some x
get_push_left [] y x i e = cc
get_push_left (z ∷ xs) y x zero e = e
get_push_left (z ∷ xs) y x (suc i) e = get_push_left xs y x i e

pub get_push : {X : Type 0} (xs : List X) (y x : X) (i : ℕ) → slice_get (xs ++ y ∷ []) i ≡ Some x → (slice_get xs i ≡ Some x) ⊎ ((i ≡ length xs) × (x ≡ y))
get_push [] y x zero e = inr (refl, cc)
get_push [] y x (suc i) e = cc
get_push (z ∷ xs) y x zero e = inl e
get_push (z ∷ xs) y x (suc i) e =
    ⊎_elim
    (λ (q : slice_get xs i ≡ Some x). inl q)
    (λ (q : (i ≡ length xs) × (x ≡ y)). inr (ap suc q.0, q.1))
    (get_push xs y x i e)

-- a firing of the longer run is one of the run, or the last
pub firing_push : (run : List Fired) (f : Fired) (t k date : ℕ) → 1 ≤ k → firing_date (run ++ f ∷ []) t k ≡ Some date
    → (firing_date run t k ≡ Some date) ⊎ ((t ≡ f.transition.index) × (k ≡ next_number run f.transition.index) × (date ≡ f.date))
firing_push run f t k date o e =
    ⊎_elim
    (λ (q : f.transition.index ≡ t).
    ⊎_elim
    (λ (h : slice_get (dates_of_transition run t) (k - 1) ≡ Some date). inl h)
    (λ (h : (k - 1 ≡ length (dates_of_transition run t)) × (date ≡ f.date)).
    let same = ap (λ u. length (dates_of_transition run u)) q in
    inr (sym q, omega (arith, h.0, o, same), h.1))
    (get_push (dates_of_transition run t) f.date date (k - 1) (rw (dates_of_own run f t q) at e)))
    (λ (q : f.transition.index ≢ t). inl (rw (dates_of_other run f t q) at e))
    (cases_eq f.transition.index t)

pub last_push : (run : List Fired) (f : Fired) → last_date (run ++ f ∷ []) ≡ Some f.date
last_push run f =
    let e : length (run ++ f ∷ []) - 1 ≡ length run = omega (arith, length_push run f) in
    rw (e, get_pushed run f) refl

-- ---- the dates of a legal run never fall

pub all_before : (net : NetLists) (run : List Fired) → IsLegalRun net run → (z : ℕ) → IsNotBefore (last_date run) z → All (λ g. g.date ≤ z) run
all_before net run legal =
    along net (λ r. (z : ℕ) → IsNotBefore (last_date r) z → All (λ g. g.date ≤ z) r)
    (λ z h i d l. absurd (omega arith))
    (λ before f h g z l.
    let low : f.date ≤ z = rw (last_push before f) at l in
    All-push (λ e. e.date ≤ z) before f (All-weaker (λ e. e.date ≤ f.date) (λ e. e.date ≤ z) (λ e m. omega (arith, m, low)) before (h f.date g.in_order)) low)
    run legal

dates_before : (run : List Fired) (t z : ℕ) → All (λ g. g.date ≤ z) run → All (λ d. d ≤ z) (dates_of_transition run t)
dates_before [] t z h = All-nil (λ d. d ≤ z)
dates_before (f ∷ run) t z h =
    let more = dates_before run t z (All-tail (λ g. g.date ≤ z) f run h) in
    ⊎_elim
    (λ (q : eqb f.transition.index t ≡ true). rw q (All-cons (λ d. d ≤ z) f.date (dates_of_transition run t) (h 0 f (omega arith)) more))
    (λ (q : eqb f.transition.index t ≡ false). rw q more)
    (cases_Bool (eqb f.transition.index t))

last_before : (dates : List ℕ) (z : ℕ) → All (λ d. d ≤ z) dates → last_listed_date dates ≤ z
last_before [] z h = omega arith
last_before (x ∷ xs) z h = h (length (x ∷ xs) - 1) 0 (omega arith)

-- ---- what a firing waits for, in the run and in the dating

delayed_by : (h d date : ℕ) (a : Date) → IsAtMostDate a (At (pos d)) → d + h ≤ date → IsAtMostDate (delayed h a) (At (pos date))
delayed_by h d date Early l m = tt
delayed_by h d date (At s) l m = omega (arith, ints, l, m)
delayed_by h d date Never l m = l

there_least : (net : NetLists) (x : Dating) (run : List Fired) (t k h date : ℕ) (o : Option ℕ) → t < length net.transitions → 1 ≤ k → IsNotEarly net x run → firing_date run t k ≡ o
    → IsThereBy date (option_map (λ d. d + h) o) → IsAtMostDate (delayed h (x t k)) (At (pos date))
there_least net x run t k h date None l o early e there = absurd there
there_least net x run t k h date (Some d) l o early e there = delayed_by h d date (x t k) (early t k d l o e) there

token_least : (net : NetLists) (x : Dating) (run : List Fired) (p : Place) (k date : ℕ) → p.from.index < length net.transitions → IsNotEarly net x run
    → IsThereBy date (token_date run p k) → IsAtMostDate (available_at x p k) (At (pos date))
token_least net x run p k date l early there =
    ⊎_elim
    (λ (q : ltb p.tokens k ≡ true).
    let m : p.tokens < k = grind (arith, nat_tests) in
    rw q (there_least net x run p.from.index (k - p.tokens) p.hold date (firing_date run p.from.index (k - p.tokens)) l (omega arith) early refl (rw q at there)))
    (λ (q : ltb p.tokens k ≡ false).
    let low : ready_date p k ≤ date = rw q at there in
    rw q (omega (arith, ints, low)))
    (cases_Bool (ltb p.tokens k))

there_date : (date : ℕ) (o : Option ℕ) → IsThereBy date o → IsAtMostDate (as_date o) (At (pos date))
there_date date None h = absurd h
there_date date (Some d) h = omega (arith, ints, h)

from_in : (net : NetLists) (t : ℕ) → HasEndsInRange net → t < length net.transitions → All (λ p. p.to.index ≡ t → p.from.index < length net.transitions) (extended_places net)
from_in net t ends l = all_extended net (λ p. p.to.index ≡ t → p.from.index < length net.transitions) (λ j d m e. (ends j d m).0) (λ u e. rw e l)

-- a firing that may come at the date has its least date by then
pub open_least : (net : NetLists) (x : Dating) (run : List Fired) (t k date : ℕ) → HasEndsInRange net → IsLive net → IsLeastDating net x → IsNotEarly net x run
    → t < length net.transitions → 1 ≤ k → IsOpenBy net run t k date → IsAtMostDate (x t k) (At (pos date))
open_least net x run t k date ends live h early l o all =
    let ranks = live_is_ranked net ends live in
    (tight_of_least net (listed_releases net) x ranks.0 ranks.1 ranks.2 h).tight t k (At (pos date)) l o
    (λ i d m e. token_least net x run (get_or (extended_places net) i d) k date (from_in net t ends l i d m e) early (all.tokens i d m e))
    (λ i. there_date date (input_date net t k) (all.released i))

-- all that a legal firing waits for is there by its date, the firing before it too
pub legal_open : (net : NetLists) (run : List Fired) (f : Fired) → IsLegalRun net run → IsLegalAfter net run f
    → IsOpenBy net run f.transition.index (next_number run f.transition.index) f.date
legal_open net run f legal g =
    let t : ℕ = f.transition.index in
    let low : last_listed_date (dates_of_transition run t) ≤ f.date = last_before (dates_of_transition run t) f.date (dates_before run t f.date (all_before net run legal f.date g.in_order)) in
    record {
      tokens = all_extended net (λ p. p.to.index ≡ t → IsThereBy f.date (token_date run p (next_number run t))) g.tokens
          (λ u e. rw e (rw (implicit_date run t) low));
      released = g.released;
    }

pub not_early : LegalRunsAreNotEarly
not_early net x run ends live h legal =
    (along net (λ s. IsLegalRun net s × IsNotEarly net x s)
    (legal_begins net, λ t k date l o e. let none = (get_there [] (k - 1) date e).0 in absurd (omega (arith, none)))
    (λ before f p g. (
      legal_push net before f p.0 g,
      λ t k date l o e.
          ⊎_elim
          (λ (q : firing_date before t k ≡ Some date). p.1 t k date l o q)
          (λ (q : (t ≡ f.transition.index) × (k ≡ next_number before f.transition.index) × (date ≡ f.date)).
          rw (q.0, q.1, q.2)
          (open_least net x before f.transition.index (next_number before f.transition.index) f.date ends live h p.1 g.transition_in (omega arith) (legal_open net before f p.0 g)))
          (firing_push before f t k date o e),
    ))
    run legal).1

-- ---- the earliest date where the run is at its least dates

from_zero : (d : Date) (b : ℕ) → IsAtMostDate (At (pos b)) d → (d ≡ Never) ⊎ ((z : ℕ) × (d ≡ At (pos z)))
from_zero Early b h = absurd h
from_zero (At (pos z)) b h = inr (z, refl)
from_zero (At (negsuc z)) b h = absurd (omega (arith, ints, h))
from_zero Never b h = inl refl

dated_early : (net : NetLists) (x : Dating) (run : List Fired) → IsDatedBy net x run → IsNotEarly net x run
dated_early net x run h t k date l o e = at_most_is (x t k) (At (pos date)) (h t k date l o e)

below_there : (h date z : ℕ) (o : Option ℕ) (a : Date) → ((d : ℕ) → o ≡ Some d → a ≡ At (pos d)) → IsThereBy date (option_map (λ d. d + h) o) → IsAtMostDate (delayed h a) (At (pos z))
    → IsThereBy z (option_map (λ d. d + h) o)
below_there h date z None a is there low = absurd there
below_there h date z (Some d) a is there low =
    let at : IsAtMostDate (delayed h (At (pos d))) (At (pos z)) = rw (is d refl) at low in
    omega (arith, ints, at)

-- a token that is available by a date of the dating is there by it in the run
token_there : (net : NetLists) (x : Dating) (run : List Fired) (p : Place) (k date z : ℕ) → p.from.index < length net.transitions → IsDatedBy net x run
    → IsThereBy date (token_date run p k) → IsAtMostDate (available_at x p k) (At (pos z)) → IsThereBy z (token_date run p k)
token_there net x run p k date z l dated there low =
    ⊎_elim
    (λ (q : ltb p.tokens k ≡ true).
    let m : p.tokens < k = grind (arith, nat_tests) in
    let j : ℕ = k - p.tokens in
    rw q (below_there p.hold date z (firing_date run p.from.index j) (x p.from.index j) (λ d e. dated p.from.index j d l (omega arith) e) (rw q at there) (rw q at low)))
    (λ (q : ltb p.tokens k ≡ false).
    let at : IsAtMostDate (At (pos (ready_date p k))) (At (pos z)) = rw q at low in
    rw q (omega (arith, ints, at)))
    (cases_Bool (ltb p.tokens k))

release_there : (date z : ℕ) (o : Option ℕ) → IsThereBy date o → IsAtMostDate (as_date o) (At (pos z)) → IsThereBy z o
release_there date z None h l = h
release_there date z (Some d) h l = omega (arith, ints, l)

-- the token of the implicit place is available from the firing before on
own_available : (net : NetLists) (x : Dating) (run : List Fired) (t : ℕ) → t < length net.transitions → IsDatedBy net x run → (dates : List ℕ) → dates_of_transition run t ≡ dates
    → available_at x (implicit_place t) (next_number run t) ≡ At (pos (last_listed_date (dates_of_transition run t)))
own_available net x run t l dated [] e = rw e refl
own_available net x run t l dated (d ∷ ds) e =
    let k : ℕ = length ds + 1 in
    let read : firing_date run t k ≡ Some (get_or (d ∷ ds) (length ds) 0) = (let one : length ds + 1 - 1 ≡ length ds = omega arith in rw (e, one) (get_last (d ∷ ds) (length ds) (omega arith))) in
    let is = dated t k (get_or (d ∷ ds) (length ds) 0) l (omega arith) read in
    let test : ltb 1 (suc (length ds) + 1) ≡ true = grind (arith, nat_tests) in
    let one : suc (length ds) + 1 - 1 ≡ length ds + 1 = omega arith in
    let two : suc (length ds) - 1 ≡ length ds = omega arith in
    rw e (rw (test, one, two, is) (delayed_not (At (pos (get_or (d ∷ ds) (length ds) 0)))))

-- the date in the dating of a firing that may follow the run is never, or a number from 0 on
dated_or : (net : NetLists) (x : Dating) (run : List Fired) (t : ℕ) → t < length net.transitions → IsDatedBy net x run
    → IsAtMostDate (available_at x (implicit_place t) (next_number run t)) (x t (next_number run t))
    → (x t (next_number run t) ≡ Never) ⊎ ((z : ℕ) × (x t (next_number run t) ≡ At (pos z)))
dated_or net x run t l dated low = from_zero (x t (next_number run t)) (last_listed_date (dates_of_transition run t)) (rw (own_available net x run t l dated (dates_of_transition run t) refl) at low)

pub earliest_least : EarliestIsLeast
earliest_least net x run t date ends live h dated l e =
    let k : ℕ = next_number run t in
    let upper = open_least net x run t k date ends live h (dated_early net x run dated) l (omega arith) e.enough in
    let own = implicit_is net t l in
    let f1 : IsFeasibleUnder net (listed_releases net) x = h.feasible in
    let asked = λ (i : ℕ) (d : Place) (m : i < length (extended_places net)) (q : (get_or (extended_places net) i d).to.index ≡ t). rw q at (f1.places k (omega arith) i d m) in
    let before : IsAtMostDate (available_at x (implicit_place t) k) (x t k) = rw own.2 at (f1.places k (omega arith) own.0 no_place own.1) in
    let lower : IsAtMostDate (At (pos date)) (x t k) =
    ⊎_elim
    (λ (q : x t k ≡ Never). rw q tt)
    (λ (q : (z : ℕ) × (x t k ≡ At (pos z))).
    let first = e.first q.0 (record {
      tokens = λ i d m u. token_there net x run (get_or (extended_places net) i d) k date q.0 (from_in net t ends l i d m u) dated (e.enough.tokens i d m u) (rw q.1 at (asked i d m u));
      released = λ i. release_there date q.0 (input_date net t k) (e.enough.released i) (rw q.1 at (f1.inputs t k (omega arith) i));
    }) in
    rw q.1 (omega (arith, ints, first)))
    (dated_or net x run t l dated before) in
    same_by_at_most (x t k) (At (pos date)) upper lower
