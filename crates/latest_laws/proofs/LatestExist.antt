-- The latest dates of a live net for due dates up to a number: made by rounds, of which each goes one step on along walks.
use Rattle.std.proofs.Common.{ℕ, zero, suc, ◌+◌, ◌*◌, ◌<◌, ◌≤◌, ◌≡◌, ◌≢◌, List, [], ◌∷◌, Option, Some, None, cond, true, false, eqb, length, get_or, refl, sym, ap, subst, ◌∙◌, arith, inl, inr, ⊎_elim}
use Rattle.std.specs.Prelude.{pos, All, ◌⊎◌}
use Rattle.std.proofs.lemmas.Bool.{cases_Bool}
use Rattle.std.proofs.lemmas.Bool.Decides.{nat_tests}
use Rattle.std.proofs.lemmas.List.Sums.{sum_by-cons}
use Rattle.teg_model.specs.dioid.declared.dates.Date.{Date}
use Rattle.teg_model.specs.dioid.declared.dates.Date.TheVariants.{At, Never}
use Rattle.teg_model.specs.dioid.Dates.{IsAtMostDate, earlier_of, delayed}
use Rattle.teg_model.proofs.dioid_proofs.DateOrder.{at_most_refl, at_most_is, at_most_trans, same_by_at_most, never_last, delayed_rises, earlier_left, earlier_right, earlier_either}
use Rattle.teg_model.specs.teg_net.declared.entries.PlaceId.{PlaceId}
use Rattle.teg_model.specs.teg_net.declared.entries.Place.{Place}
use Rattle.teg_model.specs.teg_net.Nets.{NetLists}
use Rattle.teg_model.specs.teg_net.Circuits.{no_place, place_at}
use Rattle.teg_model.specs.teg_net.declared.walks.Step.{Step}
use Rattle.teg_model.specs.teg_net.declared.walks.Step.TheVariants.{By, Next}
use Rattle.teg_model.specs.teg_net.Walks.{Walks, step_time, walk_time}
use Rattle.teg_model.specs.LiveRanks.{AreRanks}
use Rattle.teg_model.proofs.Delays.{delayed_twice, delayed_not}
use Rattle.teg_model.proofs.LiveRanks.{live_is_ranked}
use Rattle.teg_model.proofs.DateFunctions.{Dating}
use Rattle.due_laws.specs.LatestDates.{IsDateToDue, IsLatestDate}
use Rattle.latest_laws.specs.BackwardSolutions.{LatestDatesExist, LatestDatesAreOne}
use Rattle.due_laws.proofs.LatestDates.{Dues, delayed_back, earlier_by, earlier_delayed, never_or_not, walk_ends_in, due_here, due_by, due_next}
use Rattle.latest_laws.proofs.BackwardSolutions.{climbs, rows_below, row_on, not_delayed}

-- the due date, and Never where there is none
due_or_never : Option ℕ → Date
due_or_never None = Never
due_or_never (Some d) = At (pos d)

-- the date before which the end of the place is so much on
before : Dating → Place → ℕ → Date
before y p k = earlier_by p.hold (y p.to.index (k + p.tokens))

-- the earliest of d and of what the places out of t leave
earliest_out : List Place → Dating → ℕ → ℕ → Date → Date
earliest_out [] y t k d = d
earliest_out (p ∷ ps) y t k d = cond (eqb p.from.index t) (earlier_of (before y p k) (earliest_out ps y t k d)) (earliest_out ps y t k d)

out_below : (ps : List Place) (y : Dating) (t k : ℕ) (d : Date) → IsAtMostDate (earliest_out ps y t k d) d
unfolding earliest_out
out_below [] y t k d = at_most_refl d
out_below (p ∷ ps) y t k d =
    let rest : Date = earliest_out ps y t k d in
    let more : IsAtMostDate rest d = out_below ps y t k d in
    elim (eqb p.from.index t) as (λ b. IsAtMostDate (cond b (earlier_of (before y p k) (earliest_out ps y t k d)) (earliest_out ps y t k d)) d) [
      | true ↦ at_most_trans _ (earliest_out ps y t k d) d (earlier_right (before y p k) (earliest_out ps y t k d)) more
      | false ↦ more
    ]

out_lower : (ps : List Place) (y : Dating) (t k : ℕ) (d : Date) → All (λ p. p.from.index ≡ t → IsAtMostDate (earliest_out ps y t k d) (before y p k)) ps
unfolding earliest_out
out_lower [] y t k d i e l = absurd (omega arith)
out_lower (p ∷ ps) y t k d zero e l = λ q.
    let is : eqb p.from.index t ≡ true = grind (arith, nat_tests) in
    rw is (earlier_left (before y p k) (earliest_out ps y t k d))
out_lower (p ∷ ps) y t k d (suc i) e l = λ q.
    let more = out_lower ps y t k d i e (omega arith) q in
    elim (eqb p.from.index t) as (λ b. IsAtMostDate (cond b (earlier_of (before y p k) (earliest_out ps y t k d)) (earliest_out ps y t k d)) (before y (get_or ps i e) k)) [
      | true ↦ at_most_trans _ (earliest_out ps y t k d) (before y (get_or ps i e) k) (earlier_right (before y p k) (earliest_out ps y t k d)) more
      | false ↦ more
    ]

-- it is that of a place out of t
record IsBeforeOne (ps : List Place) (y : Dating) (t k : ℕ) (date : Date) : Type 0 where
  index : ℕ
  in_list : index < length ps
  from : (get_or ps index no_place).from.index ≡ t
  is : date ≡ before y (get_or ps index no_place) k

one_on : (p : Place) (ps : List Place) (y : Dating) (t k : ℕ) (date : Date) → IsBeforeOne ps y t k date → IsBeforeOne (p ∷ ps) y t k date
one_on p ps y t k date h = record { index = suc h.index; in_list = omega (arith, h.in_list); from = h.from; is = h.is }

out_one : (ps : List Place) (y : Dating) (t k : ℕ) (d : Date) → (earliest_out ps y t k d ≡ d) ⊎ IsBeforeOne ps y t k (earliest_out ps y t k d)
unfolding earliest_out
out_one [] y t k d = inl refl
out_one (p ∷ ps) y t k d =
    let rest : Date = earliest_out ps y t k d in
    let more : (rest ≡ d) ⊎ IsBeforeOne ps y t k rest = out_one ps y t k d in
    let later : (rest ≡ d) ⊎ IsBeforeOne (p ∷ ps) y t k rest = ⊎_elim (λ e. inl e) (λ e. inr (one_on p ps y t k rest e)) more in
    ⊎_elim
    (λ (e : eqb p.from.index t ≡ true).
    let is : p.from.index ≡ t = grind (arith, nat_tests) in
    rw e
    (⊎_elim
    (λ (a : earlier_of (before y p k) rest ≡ before y p k). inr (record { index = 0; in_list = omega arith; from = is; is = a }))
    (λ (a : earlier_of (before y p k) rest ≡ rest). rw a later)
    (earlier_either (before y p k) rest)))
    (λ (e : eqb p.from.index t ≡ false). rw e later)
    (cases_Bool (eqb p.from.index t))

-- the least over walks of fewer steps than the round
back : NetLists → Dues → ℕ → Dating
back net due zero t k = Never
back net due (suc n) t k = earliest_out net.places (back net due n) t k (earlier_of (due_or_never (due t k)) (back net due n t (k + 1)))

due_is : (o : Option ℕ) → due_or_never o ≢ Never → (d : ℕ) × (o ≡ Some d) × (due_or_never o ≡ At (pos d))
unfolding due_or_never
due_is None e = absurd (e refl)
due_is (Some d) e = (d, refl, refl)

-- what is never is never so much earlier
never_before : (h : ℕ) (d : Date) → d ≡ Never → earlier_by h d ≡ Never
never_before h d e = not_delayed h (earlier_by h d) (earlier_delayed h d ∙ e)

-- each round's date that is not Never is that of a walk
reached : (net : NetLists) (due : Dues) (n t k : ℕ) → back net due n t k ≢ Never → IsDateToDue net due t k (back net due n t k)
unfolding back before
reached net due zero t k e = absurd (e refl)
reached net due (suc n) t k e =
    let y : Dating = back net due n in
    let next : Date = y t (k + 1) in
    let own : Date = due_or_never (due t k) in
    let here : Date = earliest_out net.places y t k (earlier_of own next) in
    ⊎_elim
    (λ (a : here ≡ earlier_of own next).
    ⊎_elim
    (λ (b : earlier_of own next ≡ own).
    let all : here ≡ own = a ∙ b in
    let is = due_is (due t k) (λ z. e (all ∙ z)) in
    subst (IsDateToDue net due t k) (sym (all ∙ is.2)) (due_here net due t k is.0 is.1))
    (λ (b : earlier_of own next ≡ next).
    let all : here ≡ next = a ∙ b in
    subst (IsDateToDue net due t k) (sym all) (due_next net due t k next (reached net due n t (k + 1) (λ z. e (all ∙ z)))))
    (earlier_either own next))
    (λ (a : IsBeforeOne net.places y t k here).
    let p : PlaceId = record { index = a.index } in
    let place : Place = place_at net p in
    let there : Date = y place.to.index (k + place.tokens) in
    let walk : IsDateToDue net due place.to.index (k + place.tokens) there = reached net due n place.to.index (k + place.tokens) (λ z. e (a.is ∙ never_before place.hold there z)) in
    let led : IsDateToDue net due place.to.index (k + place.tokens) (delayed place.hold (earlier_by place.hold there)) = rw (earlier_delayed place.hold there) walk in
    subst (IsDateToDue net due t k) (sym a.is) (subst (λ s. IsDateToDue net due s k (earlier_by place.hold there)) a.from (due_by net due p k (earlier_by place.hold there) a.in_list led)))
    (out_one net.places y t k (earlier_of own next))

-- and at most that of each walk of fewer steps
lowest : (net : NetLists) (due : Dues) (steps : List Step) (n t k b m e : ℕ) (d : Date) → length steps < n → Walks net t k steps b m → due b m ≡ Some e → delayed (walk_time net steps) d ≡ At (pos e)
    → IsAtMostDate (back net due n t k) d
unfolding back before due_or_never
lowest net due steps zero t k b m e d l w h is = absurd (omega arith)
lowest net due [] (suc n) t k b m e d l w h is =
    let y : Dating = back net due n in
    let next : Date = y t (k + 1) in
    let own : Date = due_or_never (due t k) in
    let due_at : due t k ≡ Some e = rw (← w.0, ← w.1) at h in
    let all : own ≡ d = ap due_or_never due_at ∙ sym (sym (delayed_not d) ∙ is) in
    at_most_trans (earliest_out net.places y t k (earlier_of own next)) (earlier_of own next) d (out_below net.places y t k (earlier_of own next))
    (at_most_trans (earlier_of own next) own d (earlier_left own next) (at_most_is own d all))
lowest net due (By p ∷ steps) (suc n) t k b m e d l w h is =
    let y : Dating = back net due n in
    let place : Place = place_at net p in
    let last : Date = earlier_of (due_or_never (due t k)) (y t (k + 1)) in
    let here : Date = earliest_out net.places y t k last in
    let there : Date = y place.to.index (k + place.tokens) in
    let walked : delayed (walk_time net steps) (delayed place.hold d) ≡ At (pos e) =
    sym (delayed_twice place.hold (walk_time net steps) d) ∙ (sym (ap (λ z. delayed z d) (sum_by-cons (step_time net) (By p) steps)) ∙ is) in
    let rest : IsAtMostDate there (delayed place.hold d) = lowest net due steps n place.to.index (k + place.tokens) b m e (delayed place.hold d) (omega (arith, l)) w.2 h walked in
    let low : IsAtMostDate here (earlier_by place.hold there) = out_lower net.places y t k last p.index no_place w.0 w.1 in
    let up : IsAtMostDate (delayed place.hold here) there = rw (earlier_delayed place.hold there) at (delayed_rises place.hold here (earlier_by place.hold there) low) in
    delayed_back place.hold here d (at_most_trans (delayed place.hold here) there (delayed place.hold d) up rest)
lowest net due (Next ∷ steps) (suc n) t k b m e d l w h is =
    let y : Dating = back net due n in
    let next : Date = y t (k + 1) in
    let own : Date = due_or_never (due t k) in
    let time : walk_time net (Next ∷ steps) ≡ walk_time net steps = omega (arith, sum_by-cons (step_time net) Next steps) in
    let rest : IsAtMostDate next d = lowest net due steps n t (k + 1) b m e d (omega (arith, l)) w h (sym (ap (λ z. delayed z d) time) ∙ is) in
    at_most_trans (earliest_out net.places y t k (earlier_of own next)) (earlier_of own next) d (out_below net.places y t k (earlier_of own next))
    (at_most_trans (earlier_of own next) next d (earlier_right own next) rest)

-- a walk of a ranked net is no longer than its rise in number and rank
steps_few : (net : NetLists) (bound : ℕ) (r : ℕ → ℕ) → AreRanks net.places bound r → (steps : List Step) (t k b m : ℕ) → Walks net t k steps b m → length steps + (k * bound + r t) ≤ m * bound + r b
steps_few net bound r rr [] t k b m w = rw (w.0, w.1) (omega arith)
steps_few net bound r rr (By p ∷ steps) t k b m w =
    let place : Place = place_at net p in
    let rest = steps_few net bound r rr steps place.to.index (k + place.tokens) b m w.2 in
    let up = climbs bound k place.tokens (r place.from.index) (r place.to.index) (rr.below place.from.index) (rr.rise p.index no_place w.0) in
    let same : r place.from.index ≡ r t = ap r w.1 in
    omega (arith, rest, up, same)
steps_few net bound r rr (Next ∷ steps) t k b m w =
    let rest = steps_few net bound r rr steps t (k + 1) b m w in
    let row = row_on bound k in
    let some = rr.below t in
    omega (arith, rest, row, some)

pub latest_exist : LatestDatesExist
latest_exist net ok live due last up =
    let ends = ok in
    let ranked = live_is_ranked net ends live in
    let bound : ℕ = ranked.0 in
    let r : ℕ → ℕ = ranked.1 in
    let rr : AreRanks net.places bound r = ranked.2 in
    let n : ℕ = (last + 1) * bound in (
      back net due n,
      λ t k in' o. record {
        attained = reached net due n t k;
        least = λ d w.
            let end = walk_ends_in net ends w.steps t k w.to w.number in' o w.walk in
            let few = steps_few net bound r rr w.steps t k w.to w.number w.walk in
            let low = rows_below bound last w.number (r w.to) (up w.to w.number w.due_date end.0 w.is_due) (rr.below w.to) in
            lowest net due w.steps n t k w.to w.number w.due_date d (omega (arith, few, low)) w.walk w.is_due w.is;
      },
    )

-- a latest date is at most each other
latest_below : (net : NetLists) (due : Dues) (t k : ℕ) (d e : Date) → IsLatestDate net due t k d → IsLatestDate net due t k e → IsAtMostDate d e
latest_below net due t k d e h l = ⊎_elim (λ (q : e ≡ Never). rw q (never_last d)) (λ (q : e ≢ Never). h.least e (l.attained q)) (never_or_not e)

pub latest_are_one : LatestDatesAreOne
latest_are_one net due y z h l t k in' o =
    same_by_at_most (y t k) (z t k) (latest_below net due t k (y t k) (z t k) (h t k in' o) (l t k in' o)) (latest_below net due t k (z t k) (y t k) (l t k in' o) (h t k in' o))
