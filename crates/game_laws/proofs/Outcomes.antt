-- Whether a firing may follow a run is decided place by place, and from which date on.
use Rattle.std.proofs.Common.{ℕ, zero, suc, ◌<◌, ◌≤◌, ◌≡◌, ◌≢◌, List, [], ◌∷◌, Option, Some, None, length, get_or, refl, sym, ◌∙◌, arith, inl, inr, ⊎_elim}
use Rattle.std.specs.Prelude.{◌⊎◌, All}
use Rattle.std.proofs.lemmas.Bool.{cases_eq, cases_lt}
use Rattle.std.proofs.lemmas.List.{get_or_default}
use Rattle.std.proofs.lemmas.List.Elements.{All-cons, All-tail}
use Rattle.teg_model.specs.dioid.declared.dates.Date.TheVariants.{Early, Never}
use Rattle.teg_model.proofs.dioid_proofs.DateOrder.{at_most_is}
use Rattle.teg_net.specs.declared.entries.PlaceId.{PlaceId}
use Rattle.teg_net.specs.declared.entries.Place.{Place}
use Rattle.teg_net.specs.Nets.{NetLists, IsInput}
use Rattle.teg_net.specs.Inputs.{input_date}
use Rattle.teg_net.specs.Circuits.{no_place, place_at}
use Rattle.teg_model.specs.Datings.{extended_places}
use Rattle.teg_model.proofs.OfNet.{at_input_is, input_or_not}
use Rattle.run_laws.specs.declared.fired.Fired.{Fired}
use Rattle.run_laws.specs.Runs.{next_number, token_date, IsThereBy, HasTokensBy, IsReleasedBy, last_date, IsNotBefore, IsLegalAfter}
use Rattle.run_laws.specs.Earliest.{IsOpenBy, IsEarliest}
use Rattle.run_laws.specs.FiringFailures.{IsFirstLateToken, IsBackInTime, IsBeforeRelease}
use Rattle.run_laws.proofs.Dates.{later_there}
use Rattle.run_laws.proofs.Least.{legal_open}
use Rattle.game_laws.specs.FiringOutcomes.{EarliestDatesExist, FailsAfter, FiringsAreLegalOrFail}

abbrev IsDecided : Type 0 → Type 0
IsDecided P = P ⊎ (P → ⊥)

there_or_not : (date : ℕ) (o : Option ℕ) → IsDecided (IsThereBy date o)
there_or_not date None = inr (λ h. h)
there_or_not date (Some d) = ⊎_elim (λ (l : date < d). inr (λ h. absurd (omega (arith, l, h)))) (λ (l : d ≤ date). inl l) (cases_lt date d)

is_input_or_not : (net : NetLists) (t : ℕ) → IsDecided (IsInput net t)
is_input_or_not net t =
    ⊎_elim
    (λ i. inl i.0)
    (λ n. inr (λ i. at_most_is Never Early (sym n.0 ∙ at_input_is net t Early Never i)))
    (input_or_not net t Early Never Never)

released_or_not : (net : NetLists) (t k date : ℕ) → IsReleasedBy net t k date ⊎ (IsInput net t × (IsThereBy date (input_date net t k) → ⊥))
released_or_not net t k date =
    ⊎_elim
    (λ (h : IsThereBy date (input_date net t k)). inl (λ i. h))
    (λ (h : IsThereBy date (input_date net t k) → ⊥).
    ⊎_elim
    (λ (i : IsInput net t). inr (i, h))
    (λ (i : IsInput net t → ⊥). inl (λ j. absurd (i j)))
    (is_input_or_not net t))
    (there_or_not date (input_date net t k))

-- the token of a place into transition t is there by the date
abbrev HasToken : List Fired → ℕ → ℕ → ℕ → Place → Type 0
HasToken run t k date p = p.to.index ≡ t → IsThereBy date (token_date run p k)

has_token_or_not : (run : List Fired) (t k date : ℕ) (p : Place) → HasToken run t k date p ⊎ ((p.to.index ≡ t) × (IsThereBy date (token_date run p k) → ⊥))
has_token_or_not run t k date p =
    ⊎_elim
    (λ (e : p.to.index ≡ t).
    ⊎_elim
    (λ (h : IsThereBy date (token_date run p k)). inl (λ to. h))
    (λ (h : IsThereBy date (token_date run p k) → ⊥). inr (e, h))
    (there_or_not date (token_date run p k)))
    (λ (e : p.to.index ≢ t). inl (λ to. absurd (e to)))
    (cases_eq p.to.index t)

all_or_not : (run : List Fired) (t k date : ℕ) (ps : List Place) → IsDecided (All (HasToken run t k date) ps)
all_or_not run t k date [] = inl (λ i d l. absurd (omega (arith, l)))
all_or_not run t k date (p ∷ ps) =
    ⊎_elim
    (λ (h : HasToken run t k date p).
    ⊎_elim
    (λ (g : All (HasToken run t k date) ps). inl (All-cons (HasToken run t k date) p ps h g))
    (λ (g : All (HasToken run t k date) ps → ⊥). inr (λ a. g (All-tail (HasToken run t k date) p ps a)))
    (all_or_not run t k date ps))
    (λ (h : (p.to.index ≡ t) × (IsThereBy date (token_date run p k) → ⊥)). inr (λ a. h.1 (a 0 p (omega arith) h.0)))
    (has_token_or_not run t k date p)

-- ---- the earliest date

open_or_not : (net : NetLists) (run : List Fired) (t k date : ℕ) → IsDecided (IsOpenBy net run t k date)
open_or_not net run t k date =
    ⊎_elim
    (λ (h : All (HasToken run t k date) (extended_places net)).
    ⊎_elim
    (λ (g : IsReleasedBy net t k date). inl (record { tokens = h; released = g }))
    (λ (g : IsInput net t × (IsThereBy date (input_date net t k) → ⊥)). inr (λ o. g.1 (o.released g.0)))
    (released_or_not net t k date))
    (λ (h : All (HasToken run t k date) (extended_places net) → ⊥). inr (λ o. h o.tokens))
    (all_or_not run t k date (extended_places net))

open_later : (net : NetLists) (run : List Fired) (t k a b : ℕ) → a ≤ b → IsOpenBy net run t k a → IsOpenBy net run t k b
open_later net run t k a b l o = record {
  tokens = λ i d m to. later_there a b (token_date run (get_or (extended_places net) i d) k) l (o.tokens i d m to);
  released = λ i. later_there a b (input_date net t k) l (o.released i);
}

first_open : (net : NetLists) (run : List Fired) (t k date : ℕ) → IsOpenBy net run t k date → (first : ℕ) × (first ≤ date) × IsEarliest net run t k first
first_open net run t k zero o = (0, omega arith, record { enough = o; first = λ other h. omega arith })
first_open net run t k (suc date) o =
    ⊎_elim
    (λ (h : IsOpenBy net run t k date). let at = first_open net run t k date h in (at.0, omega (arith, at.1), at.2))
    (λ (h : IsOpenBy net run t k date → ⊥). (
      suc date,
      omega arith,
      record {
        enough = o;
        first = λ other g.
            ⊎_elim
            (λ (l : date < other). omega (arith, l))
            (λ (l : other ≤ date). absurd (h (open_later net run t k other date l g)))
            (cases_lt date other);
      },
    ))
    (open_or_not net run t k date)

pub earliest_dates_exist : EarliestDatesExist
earliest_dates_exist net run f legal g = first_open net run f.transition.index (next_number run f.transition.index) f.date (legal_open net run f legal g)

-- ---- legal, or the first way in which it fails

-- the places before n have their tokens, or one of them is the first that has not
record IsFirstLateBefore (net : NetLists) (run : List Fired) (t k date n : ℕ) : Type 0 where
  place : ℕ
  in' : place < n
  into : (place_at net (record { index = place })).to.index ≡ t
  late : IsThereBy date (token_date run (place_at net (record { index = place })) k) → ⊥
  lowest : (i : ℕ) → i < place → HasToken run t k date (get_or net.places i no_place)

first_late : (net : NetLists) (run : List Fired) (t k date n : ℕ) → ((i : ℕ) → i < n → HasToken run t k date (get_or net.places i no_place)) ⊎ IsFirstLateBefore net run t k date n
first_late net run t k date zero = inl (λ i l. absurd (omega (arith, l)))
first_late net run t k date (suc n) =
    ⊎_elim
    (λ (h : (i : ℕ) → i < n → HasToken run t k date (get_or net.places i no_place)).
    ⊎_elim
    (λ (g : HasToken run t k date (get_or net.places n no_place)).
    inl (λ i l. ⊎_elim (λ (m : i < n). h i m) (λ (m : n ≤ i). let e : i ≡ n = omega (arith, l, m) in rw e g) (cases_lt i n)))
    (λ (g : ((get_or net.places n no_place).to.index ≡ t) × (IsThereBy date (token_date run (get_or net.places n no_place) k) → ⊥)).
    inr (record { place = n; in' = omega arith; into = g.0; late = g.1; lowest = h }))
    (has_token_or_not run t k date (get_or net.places n no_place)))
    (λ (h : IsFirstLateBefore net run t k date n). inr (record { place = h.place; in' = (let l = h.in' in omega (arith, l)); into = h.into; late = h.late; lowest = h.lowest }))
    (first_late net run t k date n)

-- the date is not before that of the last firing, or there is a later one
after_or_not : (o : Option ℕ) (date : ℕ) → IsNotBefore o date ⊎ ((last : ℕ) × (o ≡ Some last) × (date < last))
after_or_not None date = inl tt
after_or_not (Some last) date = ⊎_elim (λ (l : date < last). inr (last, refl, l)) (λ (l : last ≤ date). inl l) (cases_lt date last)

with_tokens : (net : NetLists) (run : List Fired) (f : Fired) → f.transition.index < length net.transitions
    → HasTokensBy net run f.transition.index (next_number run f.transition.index) f.date → IsLegalAfter net run f ⊎ FailsAfter net run f
with_tokens net run f in' tokens =
    let t : ℕ = f.transition.index in
    let k : ℕ = next_number run t in
    ⊎_elim
    (λ (a : IsNotBefore (last_date run) f.date).
    ⊎_elim
    (λ (r : IsReleasedBy net t k f.date). inl (record { transition_in = in'; tokens = tokens; in_order = a; released = r }))
    (λ (r : IsInput net t × (IsThereBy f.date (input_date net t k) → ⊥)).
    let fails : IsBeforeRelease net run f (input_date net t k) = record { tokens = tokens; in_order = a; input = r.0; release = refl; before = r.1 } in
    inr (inr (inr (input_date net t k, fails))))
    (released_or_not net t k f.date))
    (λ (a : (last : ℕ) × (last_date run ≡ Some last) × (f.date < last)).
    let fails : IsBackInTime net run f a.0 = record { tokens = tokens; last = a.1; before = a.2 } in
    inr (inr (inl (a.0, fails))))
    (after_or_not (last_date run) f.date)

pub legal_or_fail : FiringsAreLegalOrFail
legal_or_fail net run f in' =
    let t : ℕ = f.transition.index in
    let k : ℕ = next_number run t in
    ⊎_elim
    (λ (h : (i : ℕ) → i < length net.places → HasToken run t k f.date (get_or net.places i no_place)).
    with_tokens net run f in' (λ i d l. rw (get_or_default net.places i d no_place l) (h i l)))
    (λ (h : IsFirstLateBefore net run t k f.date (length net.places)).
    let id : PlaceId = record { index = h.place } in
    let there : Option ℕ = token_date run (place_at net id) k in
    let fails : IsFirstLateToken net run f id there = record {
      in_range = h.in';
      into = h.into;
      date = refl;
      late = h.late;
      lowest = λ other l to. h.lowest other.index l to;
    } in
    inr (inl (id, there, fails)))
    (first_late net run t k f.date (length net.places))
