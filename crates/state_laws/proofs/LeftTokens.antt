-- From when on the tokens are available that a run leaves.
use Rattle.std.proofs.Common.{map, ℕ, pos, ◌+◌, ◌-◌, ◌<◌, ◌≤◌, ◌≡◌, List, [], ◌∷◌, Option, Some, None, true, false, eqb, ltb, length, get_or, refl, sym, ap, ◌∙◌, arith, ⊎_elim}
use Rattle.std.specs.Prelude.{All, option_map}
use Rattle.std.proofs.lemmas.Bool.{cases_Bool, cases_lt}
use Rattle.std.proofs.lemmas.Bool.Decides.{nat_tests}
use Rattle.std.proofs.lemmas.Int.{ints}
use Rattle.std.specs.List.{range_with_len}
use Rattle.std.proofs.lemmas.List.{get_or_append_left, length-append}
use Rattle.std.proofs.lemmas.List.Elements.{All-cons, All-nil, All-tail}
use Rattle.std.proofs.lemmas.List.FromFn.{get_or-map-range_with_len}
use Rattle.teg_model.specs.dioid.declared.dates.Date.{Date}
use Rattle.teg_model.specs.dioid.declared.dates.Date.TheVariants.{Early, At, Never}
use Rattle.teg_model.specs.dioid.Dates.{IsAtMostDate, delayed}
use Rattle.teg_model.proofs.dioid_proofs.DateOrder.{at_most_trans, delayed_later}
use Rattle.teg_net.specs.declared.entries.Place.{Place}
use Rattle.teg_net.specs.Changes.{place_with_tokens}
use Rattle.teg_net.specs.Nets.{NetLists}
use Rattle.teg_net.specs.ReadyDates.{ready_date}
use Rattle.teg_model.specs.Systems.{System, available, available_in}
use Rattle.teg_model.specs.Datings.{as_date, available_at, extended_places, implicit_place, initial_date}
use Rattle.teg_model.proofs.DateFunctions.{Dating}
use Rattle.teg_model.proofs.Tokens.{available_after, available_first}
use Rattle.run_laws.specs.declared.fired.Fired.{Fired}
use Rattle.run_laws.specs.Runs.{dates_of_transition, firing_date, token_date}
use Rattle.run_laws.specs.Earliest.{last_listed_date, tokens_in}
use Rattle.run_laws.proofs.Dates.{get_last}
use Rattle.run_laws.proofs.Earliest.{implicit_date}
use Rattle.state_laws.specs.Rests.{place_left, rest_of}
use Rattle.state_laws.specs.NetsLeft.{count_in, date_in, not_before, ready_left, place_after, system_under}
use Rattle.state_laws.proofs.LeastGoesOn.{back}

-- ---- dates in the run

-- the places of the net are among the extended ones
pub own_of : (net : NetLists) (P : Place → Type 0) → All P (extended_places net) → All P net.places
own_of net P h i d l =
    let own : List Place = map implicit_place (range_with_len 0 (length net.transitions)) in
    rw (get_or_append_left net.places own d i l) at (h i d (omega (arith, l, length-append net.places own)))

pub firing_is : (run : List Fired) (t k : ℕ) → 1 ≤ k → k ≤ count_in run t → firing_date run t k ≡ Some (get_or (dates_of_transition run t) (k - 1) 0)
firing_is run t k o l = get_last (dates_of_transition run t) (k - 1) (omega (arith, o, l))

dates_over : (run : List Fired) (t now : ℕ) → All (λ f. f.date ≤ now) run → All (λ d. d ≤ now) (dates_of_transition run t)
dates_over [] t now h = All-nil (λ d. d ≤ now)
dates_over (f ∷ run) t now h =
    let more = dates_over run t now (All-tail (λ g. g.date ≤ now) f run h) in
    ⊎_elim
    (λ (q : eqb f.transition.index t ≡ true). rw q (All-cons (λ d. d ≤ now) f.date (dates_of_transition run t) (h 0 f (omega arith)) more))
    (λ (q : eqb f.transition.index t ≡ false). rw q more)
    (cases_Bool (eqb f.transition.index t))

last_over : (dates : List ℕ) (now : ℕ) → All (λ d. d ≤ now) dates → last_listed_date dates ≤ now
last_over [] now h = omega arith
last_over (x ∷ xs) now h = h (length (x ∷ xs) - 1) 0 (omega arith)

delayed_date : (h : ℕ) (o : Option ℕ) → delayed h (as_date o) ≡ as_date (option_map (λ d. d + h) o)
delayed_date h None = refl
delayed_date h (Some d) = ap At (omega (arith, ints))

-- a token is available by the dates of the run from the date on that the run gives it
pub token_is : (run : List Fired) (p : Place) (k : ℕ) → available_in initial_date (date_in run) p k ≡ as_date (token_date run p k)
token_is run p k =
    ⊎_elim
    (λ (e : ltb p.tokens k ≡ true). rw e (delayed_date p.hold (firing_date run p.from.index (k - p.tokens))))
    (λ (e : ltb p.tokens k ≡ false). rw e refl)
    (cases_Bool (ltb p.tokens k))

-- a token that was made has such a date
pub token_made : (run : List Fired) (p : Place) (k : ℕ) → k ≤ p.tokens + count_in run p.from.index → (d : ℕ) × (token_date run p k ≡ Some d)
token_made run p k l =
    ⊎_elim
    (λ (e : ltb p.tokens k ≡ true).
    let m : p.tokens < k = grind (arith, nat_tests) in
    let is = firing_is run p.from.index (k - p.tokens) (omega (arith, m)) (omega (arith, l)) in
    (get_or (dates_of_transition run p.from.index) (k - p.tokens - 1) 0 + p.hold, rw (e, is) refl))
    (λ (e : ltb p.tokens k ≡ false). (ready_date p k, rw e refl))
    (cases_Bool (ltb p.tokens k))

-- ---- not before now

pub not_before_now : (now : ℕ) (o : Option ℕ) → IsAtMostDate (At (pos now)) (At (pos (not_before now o)))
not_before_now now None = omega (arith, ints)
not_before_now now (Some d) = omega (arith, ints)

pub not_before_date : (now : ℕ) (o : Option ℕ) (d : ℕ) → o ≡ Some d → IsAtMostDate (as_date o) (At (pos (not_before now o)))
not_before_date now None d e = cc
not_before_date now (Some c) d e = omega (arith, ints)

pub not_before_least : (now : ℕ) (o : Option ℕ) (z : Date) → IsAtMostDate (At (pos now)) z → IsAtMostDate (as_date o) z → IsAtMostDate (At (pos (not_before now o))) z
not_before_least now None z h l = h
not_before_least now (Some d) Early h l = absurd h
not_before_least now (Some d) (At z) h l = omega (arith, ints, h, l)
not_before_least now (Some d) Never h l = tt

-- ---- a place of the net that the run leaves, beside that of the rest of the system

ready_is : (run : List Fired) (now : ℕ) (p : Place) (k : ℕ) → 1 ≤ k → k ≤ tokens_in run p → ready_date (place_after run now p) k ≡ ready_left run now p k
ready_is run now p k o l = get_or-map-range_with_len (ready_left run now p) 1 (tokens_in run p) (k - 1) k 0 (omega (arith, o, l)) (omega (arith, o))

-- the rest of the net's system from now on
abbrev pub left_of : NetLists → List Fired → ℕ → Dating → System
left_of net run now u = rest_of (system_under net now u) (count_in run) (date_in run)

after_later : (net : NetLists) (run : List Fired) (now : ℕ) (u y : Dating) (p : Place) (k : ℕ) → tokens_in run p < k
    → available_at y (place_after run now p) k ≡ available (left_of net run now u) y (place_left (count_in run) p) k
after_later net run now u y p k l =
    available_after initial_date y (place_after run now p) k (y p.from.index (k - tokens_in run p)) l refl
    ∙ sym (available_after (left_of net run now u).initial y (place_left (count_in run) p) k (y p.from.index (k - tokens_in run p)) l refl)

after_first : (run : List Fired) (now : ℕ) (y : Dating) (p : Place) (k : ℕ) → 1 ≤ k → k ≤ tokens_in run p → available_at y (place_after run now p) k ≡ At (pos (ready_left run now p k))
after_first run now y p k o l = available_first initial_date y (place_after run now p) k l ∙ ap (λ n. At (pos n)) (ready_is run now p k o l)

left_first : (net : NetLists) (run : List Fired) (now : ℕ) (u y : Dating) (p : Place) (k : ℕ) → count_in run p.to.index ≤ p.tokens + count_in run p.from.index → k ≤ tokens_in run p
    → available (left_of net run now u) y (place_left (count_in run) p) k ≡ as_date (token_date run p (count_in run p.to.index + k))
left_first net run now u y p k paid l =
    available_first (left_of net run now u).initial y (place_left (count_in run) p) k l
    ∙ (ap (λ q. available_in initial_date (date_in run) q (count_in run p.to.index + k)) (back (count_in run) p paid) ∙ token_is run p (count_in run p.to.index + k))

-- what is not before now nor before a token of the rest is not before that of the net
pub after_from_left : (net : NetLists) (run : List Fired) (now : ℕ) (u y : Dating) (p : Place) (k : ℕ) (z : Date) → count_in run p.to.index ≤ p.tokens + count_in run p.from.index → 1 ≤ k
    → IsAtMostDate (At (pos now)) z → IsAtMostDate (available (left_of net run now u) y (place_left (count_in run) p) k) z → IsAtMostDate (available_at y (place_after run now p) k) z
after_from_left net run now u y p k z paid o soon h =
    ⊎_elim
    (λ (l : tokens_in run p < k). rw (after_later net run now u y p k l) h)
    (λ (l : k ≤ tokens_in run p).
    rw (after_first run now y p k o l)
    (not_before_least now (token_date run p (count_in run p.to.index + k)) z soon (rw (left_first net run now u y p k paid l) at h)))
    (cases_lt (tokens_in run p) k)

-- and the other way round
pub left_from_after : (net : NetLists) (run : List Fired) (now : ℕ) (u y : Dating) (p : Place) (k : ℕ) (z : Date) → count_in run p.to.index ≤ p.tokens + count_in run p.from.index → 1 ≤ k
    → IsAtMostDate (available_at y (place_after run now p) k) z → IsAtMostDate (available (left_of net run now u) y (place_left (count_in run) p) k) z
left_from_after net run now u y p k z paid o h =
    ⊎_elim
    (λ (l : tokens_in run p < k). rw (after_later net run now u y p k l) at h)
    (λ (l : k ≤ tokens_in run p).
    let token : Option ℕ = token_date run p (count_in run p.to.index + k) in
    let made = token_made run p (count_in run p.to.index + k) (omega (arith, l, paid)) in
    rw (left_first net run now u y p k paid l)
    (at_most_trans (as_date token) (At (pos (not_before now token))) z (not_before_date now token made.0 made.1) (rw (after_first run now y p k o l) at h)))
    (cases_lt (tokens_in run p) k)

-- no token of the net is available before now, where no firing to come is
pub now_available : (run : List Fired) (now : ℕ) (y : Dating) (p : Place) (k : ℕ) → 1 ≤ k → ((t j : ℕ) → 1 ≤ j → IsAtMostDate (At (pos now)) (y t j))
    → IsAtMostDate (At (pos now)) (available_at y (place_after run now p) k)
now_available run now y p k o from =
    ⊎_elim
    (λ (l : tokens_in run p < k).
    let a : Date = y p.from.index (k - tokens_in run p) in
    rw (available_after initial_date y (place_after run now p) k a l refl)
    (at_most_trans (At (pos now)) a (delayed p.hold a) (from p.from.index (k - tokens_in run p) (omega (arith, l))) (delayed_later p.hold a)))
    (λ (l : k ≤ tokens_in run p). rw (after_first run now y p k o l) (not_before_now now (token_date run p (count_in run p.to.index + k))))
    (cases_lt (tokens_in run p) k)

-- ---- implicit places

implicit_left : (count : ℕ → ℕ) (t : ℕ) → place_left count (implicit_place t) ≡ implicit_place t
implicit_left count t =
    let one : 1 + count t - count t ≡ 1 = omega arith in
    ap (λ n. place_with_tokens n (implicit_place t)) one

implicit_later : (net : NetLists) (run : List Fired) (now : ℕ) (u y : Dating) (t k : ℕ) → 1 < k
    → available (left_of net run now u) y (place_left (count_in run) (implicit_place t)) k ≡ available_at y (implicit_place t) k
implicit_later net run now u y t k l =
    ap (λ q. available (left_of net run now u) y q k) (implicit_left (count_in run) t)
    ∙ (available_after (left_of net run now u).initial y (implicit_place t) k (y t (k - 1)) l refl
    ∙ sym (available_after initial_date y (implicit_place t) k (y t (k - 1)) l refl))

pub implicit_from_left : (net : NetLists) (run : List Fired) (now : ℕ) (u y : Dating) (t k : ℕ) (z : Date) → 1 ≤ k → IsAtMostDate (At (pos now)) z
    → IsAtMostDate (available (left_of net run now u) y (place_left (count_in run) (implicit_place t)) k) z → IsAtMostDate (available_at y (implicit_place t) k) z
implicit_from_left net run now u y t k z o soon h =
    ⊎_elim
    (λ (l : 1 < k). rw (implicit_later net run now u y t k l) at h)
    (λ (l : k ≤ 1).
    let one : k ≡ 1 = omega (arith, o, l) in
    let first : IsAtMostDate (At (pos 0)) (At (pos now)) = omega (arith, ints) in
    rw one (at_most_trans (At (pos 0)) (At (pos now)) z first soon))
    (cases_lt 1 k)

pub left_from_implicit : (net : NetLists) (run : List Fired) (now : ℕ) (u y : Dating) (t k : ℕ) (z : Date) → All (λ f. f.date ≤ now) run → 1 ≤ k → IsAtMostDate (At (pos now)) z
    → IsAtMostDate (available_at y (implicit_place t) k) z → IsAtMostDate (available (left_of net run now u) y (place_left (count_in run) (implicit_place t)) k) z
left_from_implicit net run now u y t k z over o soon h =
    ⊎_elim
    (λ (l : 1 < k). rw (implicit_later net run now u y t k l) h)
    (λ (l : k ≤ 1).
    let one : k ≡ 1 = omega (arith, o, l) in
    let last : ℕ = last_listed_date (dates_of_transition run t) in
    let low : last ≤ now = last_over (dates_of_transition run t) now (dates_over run t now over) in
    let first : IsAtMostDate (At (pos last)) (At (pos now)) = omega (arith, ints, low) in
    let is : available (left_of net run now u) y (place_left (count_in run) (implicit_place t)) 1 ≡ At (pos last) =
    left_first net run now u y (implicit_place t) 1 (omega arith) (omega arith) ∙ ap as_date (implicit_date run t) in
    rw (one, is) (at_most_trans (At (pos last)) (At (pos now)) z first soon))
    (cases_lt 1 k)
