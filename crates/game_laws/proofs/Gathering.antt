-- The firings of a feasible dating up to a number, put in their order one after the other, are an earliest run, and there is
-- no second in that order.
use Rattle.std.proofs.Common.{ℕ, zero, suc, pos, negsuc, ◌+◌, ◌<◌, ◌≤◌, ◌≡◌, ◌≢◌, List, [], length, get_or, map, refl, sym, ap, ◌∙◌, arith, inl, inr, ⊎_elim}
use Rattle.std.specs.Prelude.{◌⊎◌, AllPairs, Contains}
use Rattle.std.proofs.lemmas.Bool.{cases_eq, cases_lt}
use Rattle.std.proofs.lemmas.Int.{ints, by_lt_z}
use Rattle.std.proofs.lemmas.List.{get_or-map, length-map, get_or_default, ext_get_or}
use Rattle.std.proofs.lemmas.List.Elements.{All-contains}
use Rattle.teg_model.specs.dioid.declared.dates.Date.{Date}
use Rattle.teg_model.specs.dioid.declared.dates.Date.TheVariants.{Early, At, Never}
use Rattle.teg_model.specs.dioid.Dates.{IsAtMostDate}
use Rattle.teg_model.proofs.dioid_proofs.DateOrder.{at_most_refl, at_most_trans, at_most_total}
use Rattle.teg_net.specs.Nets.{NetLists}
use Rattle.teg_model.specs.Datings.{listed_releases, IsFeasibleUnder}
use Rattle.teg_model.proofs.Tokens.{not_before_zero}
use Rattle.teg_model.proofs.LiveRanks.{live_is_ranked}
use Rattle.teg_model.proofs.DateFunctions.{Dating}
use Rattle.run_laws.specs.declared.fired.Fired.{Fired}
use Rattle.run_laws.specs.EarliestRuns.{Numbered, date_of_firing, IsBeforeDate, ComesBeforeByRank, ComesBeforeByNumber, ComesBefore, IsFiringUpTo, IsRunInOrder}
use Rattle.game_laws.specs.EarliestRunsExist.{EarliestRunsExist, EachRankHasAnEarliestRun, EarliestRunsAreOne}
use Rattle.run_laws.proofs.Prefixes.{no_firing}
use Rattle.game_laws.proofs.Sorting.{IsOneOrBefore, IsTransitive, put, all_contained, same_items}

-- ---- the order of firings is total and transitive

pub same_fields : (a b : Numbered) → a.transition ≡ b.transition → a.number ≡ b.number → a ≡ b
same_fields a b p q = let e : record { transition = a.transition; number = a.number } ≡ b = rw (p, q) refl in e

rank_total : (rank : ℕ → ℕ) (s t : ℕ) → ComesBeforeByRank rank s t ⊎ ((s ≡ t) ⊎ ComesBeforeByRank rank t s)
rank_total rank s t = grind arith

number_total : (rank : ℕ → ℕ) (a b : Numbered) → IsOneOrBefore (ComesBeforeByNumber rank) a b
number_total rank a b =
    ⊎_elim
    (λ (q : a.number < b.number). inl (inl q))
    (λ (q : b.number ≤ a.number).
    ⊎_elim
    (λ (e : a.number ≡ b.number).
    ⊎_elim
    (λ (r : ComesBeforeByRank rank a.transition b.transition). inl (inr (e, r)))
    (λ (r : (a.transition ≡ b.transition) ⊎ ComesBeforeByRank rank b.transition a.transition).
    ⊎_elim
    (λ (s : a.transition ≡ b.transition). inr (inl (same_fields a b s e)))
    (λ (s : ComesBeforeByRank rank b.transition a.transition). inr (inr (inr (sym e, s))))
    r)
    (rank_total rank a.transition b.transition))
    (λ (e : a.number ≢ b.number). let l : b.number < a.number = omega (arith, q, e) in inr (inr (inl l)))
    (cases_eq a.number b.number))
    (cases_lt a.number b.number)

date_total : (a b : Date) → IsOneOrBefore IsBeforeDate a b
date_total Early Early = inr (inl refl)
date_total Early (At t) = inl (λ l. l)
date_total Early Never = inl (λ l. l)
date_total (At s) Early = inr (inr (λ l. l))
date_total (At s) (At t) =
    by_lt_z s t (λ l. inl (λ m. absurd (omega (arith, ints, l, m))))
    (λ l. by_lt_z t s (λ m. inr (inr (λ n. absurd (omega (arith, ints, m, n))))) (λ m. let e : s ≡ t = omega (arith, ints, l, m) in inr (inl (ap At e))))
date_total (At s) Never = inl (λ l. l)
date_total Never Early = inr (inr (λ l. l))
date_total Never (At t) = inr (inr (λ l. l))
date_total Never Never = inr (inl refl)

pub order_total : (x : Dating) (rank : ℕ → ℕ) (a b : Numbered) → IsOneOrBefore (ComesBefore x rank) a b
order_total x rank a b =
    let da : Date = date_of_firing x a in
    let db : Date = date_of_firing x b in
    ⊎_elim
    (λ (p : IsBeforeDate da db). inl (inl p))
    (λ (p : (da ≡ db) ⊎ IsBeforeDate db da).
    ⊎_elim
    (λ (e : da ≡ db).
    ⊎_elim
    (λ (q : ComesBeforeByNumber rank a b). inl (inr (e, q)))
    (λ (q : (a ≡ b) ⊎ ComesBeforeByNumber rank b a).
    ⊎_elim
    (λ (s : a ≡ b). inr (inl s))
    (λ (s : ComesBeforeByNumber rank b a). inr (inr (inr (sym e, s))))
    q)
    (number_total rank a b))
    (λ (q : IsBeforeDate db da). inr (inr (inl q)))
    p)
    (date_total da db)

number_trans : (rank : ℕ → ℕ) → IsTransitive (ComesBeforeByNumber rank)
number_trans rank a b c h g = grind (arith, h, g)

before_trans : (a b c : Date) → IsBeforeDate a b → IsBeforeDate b c → IsBeforeDate a c
before_trans a b c h g = λ l.
    ⊎_elim
    (λ (q : IsAtMostDate a b). g (at_most_trans c a b l q))
    (λ (q : IsAtMostDate b a). h q)
    (at_most_total a b)

pub order_trans : (x : Dating) (rank : ℕ → ℕ) → IsTransitive (ComesBefore x rank)
order_trans x rank a b c h g =
    let da : Date = date_of_firing x a in
    let db : Date = date_of_firing x b in
    let dc : Date = date_of_firing x c in
    ⊎_elim
    (λ (p : IsBeforeDate da db).
    ⊎_elim
    (λ (q : IsBeforeDate db dc). inl (before_trans da db dc p q))
    (λ (q : (db ≡ dc) × ComesBeforeByNumber rank b c). inl (rw q.0 at p))
    g)
    (λ (p : (da ≡ db) × ComesBeforeByNumber rank a b).
    ⊎_elim
    (λ (q : IsBeforeDate db dc). let l : IsBeforeDate da dc = rw p.0 q in inl l)
    (λ (q : (db ≡ dc) × ComesBeforeByNumber rank b c). inr (p.0 ∙ q.0, number_trans rank a b c p.1 q.1))
    g)
    h

number_not_before : (rank : ℕ → ℕ) (a : Numbered) → ComesBeforeByNumber rank a a → ⊥
number_not_before rank a h = grind (arith, h)

-- no firing comes before itself, nor before one that comes before it
pub not_before_itself : (x : Dating) (rank : ℕ → ℕ) (a : Numbered) → ComesBefore x rank a a → ⊥
not_before_itself x rank a h =
    ⊎_elim
    (λ (p : IsBeforeDate (date_of_firing x a) (date_of_firing x a)). p (at_most_refl (date_of_firing x a)))
    (λ (p : (date_of_firing x a ≡ date_of_firing x a) × ComesBeforeByNumber rank a a). number_not_before rank a p.1)
    h

comes_once : (x : Dating) (rank : ℕ → ℕ) (a b : Numbered) → ComesBefore x rank a b → ComesBefore x rank b a → ⊥
comes_once x rank a b h g = not_before_itself x rank a (order_trans x rank a b a h g)

-- ---- the firings gathered so far

-- a firing up to the number of any of n transitions, or the next firing of one of the first
abbrev IsWithin : ℕ → ℕ → ℕ → Numbered → Type 0
IsWithin n most first f = (f.transition < n) × (1 ≤ f.number) × ((f.number ≤ most) ⊎ ((f.number ≡ most + 1) × (f.transition < first)))

abbrev HasDate : Dating → Numbered → Type 0
HasDate x f = (date : ℕ) × (date_of_firing x f ≡ At (pos date))

record Gathered (x : Dating) (rank : ℕ → ℕ) (n most first : ℕ) : Type 0 where
  list : List Numbered
  order : AllPairs (ComesBefore x rank) list
  known : (f : Numbered) → Contains list f → IsWithin n most first f
  dated : (f : Numbered) → Contains list f → HasDate x f
  all : (f : Numbered) → IsWithin n most first f → date_of_firing x f ≢ Never → Contains list f

nothing : (x : Dating) (rank : ℕ → ℕ) (n : ℕ) → Gathered x rank n 0 0
nothing x rank n = record {
  list = [];
  order = λ i j d l m. absurd (omega (arith, m));
  known = λ f c. absurd (omega (arith, c.1));
  dated = λ f c. absurd (omega (arith, c.1));
  all = λ f w o. absurd (⊎_elim (λ (q : f.number ≤ 0). omega (arith, q, w.1)) (λ (q : (f.number ≡ 0 + 1) × (f.transition < 0)). omega (arith, q.1)) w.2);
}

within_more : (n most first : ℕ) (f : Numbered) → IsWithin n most first f → IsWithin n most (first + 1) f
within_more n most first f w =
    ⊎_elim
    (λ (q : f.number ≤ most). (w.0, w.1, inl q))
    (λ (q : (f.number ≡ most + 1) × (f.transition < first)). let l : f.transition < first + 1 = omega (arith, q.1) in (w.0, w.1, inr (q.0, l)))
    w.2

within_less : (n most first : ℕ) (f : Numbered) → IsWithin n most (first + 1) f → (f ≡ record { transition = first; number = most + 1 }) ⊎ IsWithin n most first f
within_less n most first f w =
    ⊎_elim
    (λ (q : f.number ≤ most). inr (w.0, w.1, inl q))
    (λ (q : (f.number ≡ most + 1) × (f.transition < first + 1)).
    ⊎_elim
    (λ (e : f.transition ≡ first). inl (same_fields f (record { transition = first; number = most + 1 }) e q.0))
    (λ (e : f.transition ≢ first). let l : f.transition < first = omega (arith, q.1, e) in inr (w.0, w.1, inr (q.0, l)))
    (cases_eq f.transition first))
    w.2

one_more : (x : Dating) (rank : ℕ → ℕ) (n most first : ℕ) → first < n → (x first (most + 1) ≡ Never) ⊎ ((date : ℕ) × (x first (most + 1) ≡ At (pos date)))
    → Gathered x rank n most first → Gathered x rank n most (first + 1)
one_more x rank n most first l dated h =
    let own : Numbered = record { transition = first; number = most + 1 } in
    ⊎_elim
    (λ (q : x first (most + 1) ≡ Never). record {
      list = h.list;
      order = h.order;
      known = λ f c. within_more n most first f (h.known f c);
      dated = h.dated;
      all = λ f w o.
          ⊎_elim
          (λ (e : f ≡ own). absurd (o (ap (date_of_firing x) e ∙ q)))
          (λ (e : IsWithin n most first f). h.all f e o)
          (within_less n most first f w);
    })
    (λ (q : (date : ℕ) × (x first (most + 1) ≡ At (pos date))).
    let with' = put (ComesBefore x rank) (order_trans x rank) (order_total x rank) h.list own h.order in
    let few : first < first + 1 = omega arith in
    let many : 1 ≤ most + 1 = omega arith in
    let is : IsWithin n most (first + 1) own = (l, many, inr (refl, few)) in
    record {
      list = with'.list;
      order = with'.order;
      known = λ f c.
          ⊎_elim
          (λ (e : f ≡ own). rw e is)
          (λ (e : Contains h.list f). within_more n most first f (h.known f e))
          (with'.only f c);
      dated = λ f c.
          ⊎_elim
          (λ (e : f ≡ own). rw e q)
          (λ (e : Contains h.list f). h.dated f e)
          (with'.only f c);
      all = λ f w o.
          ⊎_elim
          (λ (e : f ≡ own). rw e with'.here)
          (λ (e : IsWithin n most first f). with'.kept f (h.all f e o))
          (within_less n most first f w);
    })
    dated

-- every date is never, or a number from 0 on
abbrev pub HasDates : Dating → ℕ → Type 0
HasDates x n = (t k : ℕ) → t < n → 1 ≤ k → (x t k ≡ Never) ⊎ ((date : ℕ) × (x t k ≡ At (pos date)))

row : (x : Dating) (rank : ℕ → ℕ) (n most : ℕ) → HasDates x n → Gathered x rank n most 0 → (first : ℕ) → first ≤ n → Gathered x rank n most first
row x rank n most dates h zero l = h
row x rank n most dates h (suc first) l =
    let one : suc first ≡ first + 1 = omega arith in
    rw one (one_more x rank n most first (omega (arith, l)) (dates first (most + 1) (omega (arith, l)) (omega arith)) (row x rank n most dates h first (omega (arith, l))))

cases_le : (a b : ℕ) → (a ≤ b) ⊎ (b < a)
cases_le a b = ⊎_elim (λ (q : b < a). inr q) (λ (q : a ≤ b). inl q) (cases_lt b a)

whole_row : (x : Dating) (rank : ℕ → ℕ) (n most : ℕ) → Gathered x rank n most n → Gathered x rank n (most + 1) 0
whole_row x rank n most h = record {
  list = h.list;
  order = h.order;
  known = λ f c.
      let w = h.known f c in
      let l : f.number ≤ most + 1 =
      ⊎_elim
      (λ (q : f.number ≤ most). omega (arith, q))
      (λ (q : (f.number ≡ most + 1) × (f.transition < n)). omega (arith, q.0))
      w.2 in
      (w.0, w.1, inl l);
  dated = h.dated;
  all = λ f w o.
      let l : f.number ≤ most + 1 =
      ⊎_elim
      (λ (q : f.number ≤ most + 1). q)
      (λ (q : (f.number ≡ most + 1 + 1) × (f.transition < 0)). absurd (omega (arith, q.1)))
      w.2 in
      h.all f (
        w.0,
        w.1,
        ⊎_elim
            (λ (q : f.number ≤ most). inl q)
            (λ (q : most < f.number). let e : f.number ≡ most + 1 = omega (arith, l, q) in inr (e, w.0))
            (cases_le f.number most),
      )
      o;
}

rows : (x : Dating) (rank : ℕ → ℕ) (n : ℕ) → HasDates x n → (most : ℕ) → Gathered x rank n most 0
rows x rank n dates zero = nothing x rank n
rows x rank n dates (suc most) =
    let one : suc most ≡ most + 1 = omega arith in
    rw one (whole_row x rank n most (row x rank n most dates (rows x rank n dates most) n (omega arith)))

-- ---- the run of the firings gathered

abbrev pub no_number : Numbered
no_number = record { transition = 0; number = 0 }

abbrev pub number_of : Date → ℕ
number_of Early = 0
number_of (At (pos d)) = d
number_of (At (negsuc d)) = 0
number_of Never = 0

pub is_numbered : (d : Date) → (z : ℕ) × (d ≡ At (pos z)) → d ≡ At (pos (number_of d))
is_numbered d z = rw z.1 refl

abbrev pub fired_at : Dating → Numbered → Fired
fired_at x f = record { transition = record { index = f.transition }; date = number_of (date_of_firing x f) }

gathered_in_order : (net : NetLists) (x : Dating) (rank : ℕ → ℕ) (most : ℕ) (h : Gathered x rank (length net.transitions) most 0) → IsRunInOrder net x rank most h.list (map (fired_at x) h.list)
gathered_in_order net x rank most h = record {
  known = all_contained (IsFiringUpTo net most) h.list (λ f c.
      let w = h.known f c in
      record { transition_in = w.0; first = w.1; last = ⊎_elim (λ (q : f.number ≤ most). q) (λ (q : (f.number ≡ most + 1) × (f.transition < 0)). absurd (omega (arith, q.1))) w.2 });
  all = λ f u o. h.all f (u.transition_in, u.first, inl u.last) o;
  order = h.order;
  count = length-map h.list (fired_at x);
  transitions = λ i f d l. rw (get_or-map (fired_at x) h.list i f d l) refl;
  dates = λ i f d l.
      let dated = h.dated (get_or h.list i f) (i, l, get_or_default h.list i (get_or h.list i f) f l) in
      rw (get_or-map (fired_at x) h.list i f d l) (is_numbered (date_of_firing x (get_or h.list i f)) dated);
}

-- a date from 0 on
from_zero : (d : Date) → IsAtMostDate (At (pos 0)) d → (d ≡ Never) ⊎ ((z : ℕ) × (d ≡ At (pos z)))
from_zero Early h = absurd h
from_zero (At (pos z)) h = inr (z, refl)
from_zero (At (negsuc z)) h = absurd (omega (arith, ints, h))
from_zero Never h = inl refl

pub all_dated : (net : NetLists) (x : Dating) → IsFeasibleUnder net (listed_releases net) x → HasDates x (length net.transitions)
all_dated net x f t k l o = from_zero (x t k) (not_before_zero net (listed_releases net) x f t k l o)

pub each_rank_has : EachRankHasAnEarliestRun
each_rank_has net x rank most least =
    let h = rows x rank (length net.transitions) (all_dated net x least.feasible) most in
    (h.list, map (fired_at x) h.list, gathered_in_order net x rank most h)

pub earliest_exist : EarliestRunsExist
earliest_exist net x most ends live least =
    let ranks = live_is_ranked net ends live in
    let made = each_rank_has net x ranks.1 most least in
    (made.1, record { rank = ranks.1; rises = ranks.2.rise; firings = made.0; in_order = made.2 })

-- ---- there is no second

has_as_well : (net : NetLists) (x : Dating) (rank : ℕ → ℕ) (most : ℕ) (fs gs : List Numbered) (run other : List Fired) → IsRunInOrder net x rank most fs run → IsRunInOrder net x rank most gs other
    → (f : Numbered) → Contains fs f → Contains gs f
has_as_well net x rank most fs gs run other o p f c =
    let up : IsFiringUpTo net most f = All-contains (IsFiringUpTo net most) fs f o.known c in
    let e : date_of_firing x f ≡ At (pos (get_or run c.0 no_firing).date) = rw c.2 at (o.dates c.0 f no_firing c.1) in
    p.all f up (λ n. let no : At (pos (get_or run c.0 no_firing).date) ≡ Never = sym e ∙ n in cc)

pub same_fired : (a b : Fired) → a.transition.index ≡ b.transition.index → a.date ≡ b.date → a ≡ b
same_fired a b p q = let e : record { transition = record { index = a.transition.index }; date = a.date } ≡ b = rw (p, q) refl in e

pub at_is_one : (a b : ℕ) → At (pos a) ≡ At (pos b) → a ≡ b
at_is_one a b e = cc

pub earliest_one : EarliestRunsAreOne
earliest_one net x rank most fs gs run other o p =
    let same : fs ≡ gs = same_items (ComesBefore x rank) (comes_once x rank) fs gs o.order p.order
    (has_as_well net x rank most fs gs run other o p) (has_as_well net x rank most gs fs other run p o) in
    let long = ap length same in
    ext_get_or no_firing run other (omega (arith, long, o.count, p.count))
    (λ i l.
    let a : i < length fs = omega (arith, l, o.count) in
    let b : i < length gs = omega (arith, a, long) in
    let one = ap (λ hs. get_or hs i no_number) same in
    same_fired (get_or run i no_firing) (get_or other i no_firing)
    (o.transitions i no_number no_firing a ∙ ap (λ f. f.transition) one ∙ sym (p.transitions i no_number no_firing b))
    (at_is_one (get_or run i no_firing).date (get_or other i no_firing).date (sym (o.dates i no_number no_firing a) ∙ ap (date_of_firing x) one ∙ p.dates i no_number no_firing b)))
