-- From settled dates to latest dates: each is attained by a walk of its steps.
use Rattle.std.proofs.Common.{ℕ, zero, suc, ◌+◌, ◌-◌, ◌*◌, ◌<◌, ◌≤◌, ◌≡◌, ◌≢◌, List, [], length, get_or, refl, sym, ap, subst, ◌∙◌, arith, ⊎_elim}
use Rattle.std.specs.Prelude.{pos, Option}
use Rattle.std.proofs.lemmas.Bool.{cases_lt}
use Rattle.std.proofs.lemmas.Int.{ints}
use Rattle.date_rows.specs.dioid.declared.dates.Date.{Date}
use Rattle.date_rows.specs.dioid.declared.dates.Date.TheVariants.{At as on_date, Never}
use Rattle.date_rows.specs.dioid.Dates.{delayed}
use Rattle.date_rows.proofs.dioid_proofs.DateOrder.{at_most_is, at_most_trans}
use Rattle.teg_net.specs.declared.entries.Place.{Place}
use Rattle.teg_net.specs.Nets.{NetLists, IsNet, IsPlaceOf}
use Rattle.teg_net.specs.Circuits.{no_place, place_at, IsLive}
use Rattle.teg_check.specs.Ranks.{IsRanking}
use Rattle.std.proofs.lemmas.List.{get_or_past}
use Rattle.teg_net.specs.Walks.{walk_time}
use Rattle.date_rows.specs.teg_model.LiveRanks.{AreRanks}
use Rattle.date_rows.proofs.teg_model_proofs.OfNet.{net_ends}
use Rattle.due_laws.specs.LatestDates.{IsDateToDue, AreLatestDates}
use Rattle.due_laws.proofs.LatestDates.{delayed_back, due_here, due_by, due_next, walk_ends_in}
use Rattle.date_rows.proofs.teg_model_proofs.WalkSteps.{Keeps, walk_below}
use Rattle.teg_jit.specs.declared.answers.Onward.{Onward}
use Rattle.teg_jit.specs.declared.answers.Onward.TheVariants.{Due, By, Next}
use Rattle.teg_jit.specs.declared.answers.LatestDate.{LatestDate}
use Rattle.teg_jit.specs.declared.answers.LatestDate.TheVariants.{Free, At}
use Rattle.teg_jit.specs.Plans.{latest_in, date_or_never, dates_of_latest, HasOnward, HaveOnward, PlanDates, IsPlanFor}
use Rattle.teg_jit.specs.GoingBack.{ArePassedAbove}
use Rattle.teg_jit.proofs.TableCells.{past_last}

-- a date is a number that is there, or never
pub number_there : (b : LatestDate) (d : ℕ) → date_or_never b ≡ on_date (pos d) → (o : Onward) × (b ≡ At d o)
number_there Free d e = absurd (at_most_is Never (on_date (pos d)) e)
number_there (At b o) d e =
    let is : b ≡ d = omega (arith, ints, at_most_is (on_date (pos b)) (on_date (pos d)) e, at_most_is (on_date (pos d)) (on_date (pos b)) (sym e)) in
    (o, ap (λ z. At z o) is)

pub never_there : (b : LatestDate) → date_or_never b ≢ Never → (d : ℕ) × (date_or_never b ≡ on_date (pos d))
never_there Free h = absurd (h refl)
never_there (At d o) h = (d, refl)

-- how far a firing is from the last number and the highest rank
abbrev pub distance : ℕ → ℕ → (ℕ → ℕ) → ℕ → ℕ → ℕ
distance last bound rank t k = (last + 1) * bound - (k * bound + rank t)

spread : (a k bound : ℕ) → (a + (k + 1)) * bound ≡ a * bound + (k * bound + bound)
spread a k bound = grind arith

split_rows : (last bound k : ℕ) → k ≤ last → (last + 1) * bound ≡ (last - k) * bound + (k * bound + bound)
split_rows last bound k l =
    let is : last + 1 ≡ (last - k) + (k + 1) = omega arith in
    ap (λ z. z * bound) is ∙ spread (last - k) k bound

split_more : (j bound k : ℕ) → k < j → j * bound ≡ (j - k - 1) * bound + (k * bound + bound)
split_more j bound k l =
    let is : j ≡ (j - k - 1) + (k + 1) = omega arith in
    ap (λ z. z * bound) is ∙ spread (j - k - 1) k bound

-- a firing of a greater number, or of the same number and a higher rank, is nearer
pub nearer : (last bound k j r q : ℕ) → k ≤ last → r < bound → q < bound → k ≤ j → (k ≡ j → r < q) → (last + 1) * bound - (j * bound + q) < (last + 1) * bound - (k * bound + r)
nearer last bound k j r q l m n o p =
    let room : (last + 1) * bound ≡ (last - k) * bound + (k * bound + bound) = split_rows last bound k l in
    ⊎_elim
    (λ (a : k < j).
    let more : j * bound ≡ (j - k - 1) * bound + (k * bound + bound) = split_more j bound k a in
    omega arith)
    (λ (a : j ≤ k).
    let same : k ≡ j = omega arith in
    let rows : k * bound ≡ j * bound = ap (λ z. z * bound) same in
    let higher = p same in
    omega arith)
    (cases_lt k j)

-- a date is attained by its step
by_step :
    (net : NetLists) (due : ℕ → ℕ → Option ℕ) (last bound : ℕ) (rank : ℕ → ℕ) (dates : List LatestDate) → IsNet net → AreRanks net.places bound rank
    → (n t k d : ℕ) → ((v s e : ℕ) → distance last bound rank v s < n → v < length net.transitions → 1 ≤ s
    → dates_of_latest (length net.transitions) dates v s ≡ on_date (pos e) → IsDateToDue net due v s (on_date (pos e)))
    → distance last bound rank t k < suc n → t < length net.transitions → 1 ≤ k → k ≤ last → (o : Onward)
    → HasOnward net due (dates_of_latest (length net.transitions) dates) t k (At d o) → IsDateToDue net due t k (on_date (pos d))
by_step net due last bound rank dates ok rr n t k d rec s l one few Due h = due_here net due t k d h
by_step net due last bound rank dates ok rr n t k d rec s l one few Next h =
    let down = nearer last bound k (k + 1) (rank t) (rank t) few (rr.below t) (rr.below t) (omega arith) (λ e. absurd (omega arith)) in
    due_next net due t k (on_date (pos d)) (rec t (k + 1) d (omega arith) l (omega arith) h.0)
by_step net due last bound rank dates ok rr n t k d rec s l one few (By p) h =
    let place : Place = place_at net p in
    let is : IsPlaceOf net place = ok.each_place p.index no_place h.0 in
    let from : rank place.from.index ≡ rank t = ap rank h.1 in
    let rises : place.tokens ≡ 0 → rank place.from.index < rank place.to.index = rr.rise p.index no_place h.0 in
    let down = nearer last bound k (k + place.tokens) (rank t) (rank place.to.index) few (rr.below t) (rr.below place.to.index) (omega arith) (λ e. rw from at (rises (omega arith))) in
    let rest = rec place.to.index (k + place.tokens) (d + place.hold) (omega arith) is.to_in (omega arith) h.2 in
    let sum : on_date (pos (d + place.hold)) ≡ delayed place.hold (on_date (pos d)) = ap on_date (omega (arith, ints)) in
    rw h.1 at (due_by net due p k (on_date (pos d)) h.0 (rw sum at rest))

-- by induction on that: a date that is there is attained by a walk
attained :
    (net : NetLists) (due : ℕ → ℕ → Option ℕ) (last bound : ℕ) (rank : ℕ → ℕ) (dates : List LatestDate) → IsNet net
    → AreRanks net.places bound rank → length dates ≡ last * length net.transitions → HaveOnward net due dates
    → (n t k d : ℕ) → distance last bound rank t k < n → t < length net.transitions → 1 ≤ k
    → dates_of_latest (length net.transitions) dates t k ≡ on_date (pos d) → IsDateToDue net due t k (on_date (pos d))
attained net due last bound rank dates ok rr full on zero t k d s l o is = absurd (omega arith)
attained net due last bound rank dates ok rr full on (suc n) t k d s l o is =
    let w : ℕ = length net.transitions in
    let y : ℕ → ℕ → Date = dates_of_latest w dates in
    let there = number_there (latest_in w dates t k) d is in
    let few : k ≤ last =
    ⊎_elim
    (λ (q : last < k). absurd (at_most_is Never (on_date (pos d)) (sym (ap date_or_never (past_last w last dates t k full q)) ∙ is)))
    (λ (q : k ≤ last). q)
    (cases_lt last k) in
    by_step net due last bound rank dates ok rr n t k d (attained net due last bound rank dates ok rr full on n) s l o few there.0 (rw there.1 at (on t k l o))

-- settled dates are the latest dates
pub passed_are_latest :
    (net : NetLists) (due : ℕ → ℕ → Option ℕ) (last bound : ℕ) (rank : ℕ → ℕ) (dates : List LatestDate) → IsNet net
    → AreRanks net.places bound rank → ArePassedAbove net due last 0 dates → AreLatestDates net due (dates_of_latest (length net.transitions) dates)
passed_are_latest net due last bound rank dates ok rr settled t k l o =
    let w : ℕ = length net.transitions in
    let y : ℕ → ℕ → Date = dates_of_latest w dates in
    let h = settled [] in
    let keeps : Keeps net y = record { by = λ p s in' m. h.places p s in' m; next = λ v s in' m. h.climbs v s in' m } in
    record {
      attained = λ no.
          let d = never_there (latest_in w dates t k) no in
          subst (IsDateToDue net due t k) (sym d.1) (attained net due last bound rank dates ok rr h.full h.onward (suc (distance last bound rank t k)) t k d.0 (omega arith) l o d.1);
      least = λ d v.
          let end = walk_ends_in net (net_ends net ok) v.steps t k v.to v.number l o v.walk in
          let along = walk_below net y (net_ends net ok) keeps v.steps t k v.to v.number l o v.walk in
          let late = at_most_trans (delayed (walk_time net v.steps) (y t k)) (y v.to v.number) (on_date (pos v.due_date)) along (h.dues v.to v.number v.due_date end.0 end.1 v.is_due) in
          delayed_back (walk_time net v.steps) (y t k) d (rw (← v.is) at late);
    }

-- the ranks of a live net's value
pub ranks_of : (net : NetLists) (ranks : List ℕ) → IsNet net → IsRanking net ranks → AreRanks net.places 400 (λ t. get_or ranks t 0)
ranks_of net ranks ok r = record {
  below = λ t. ⊎_elim
      (λ (l : t < length ranks). omega (arith, r.small t 0 l, ok.few_transitions))
      (λ (l : length ranks ≤ t). rw get_or_past (omega arith))
      (cases_lt t (length ranks));
  rise = r.rises;
}

-- settled dates are a plan
pub plan_is : (net : NetLists) (due : ℕ → ℕ → Option ℕ) (ranks : List ℕ) (last : ℕ) (dates : List LatestDate) (plan : PlanDates)
    → IsNet net → IsLive net → IsRanking net ranks → ArePassedAbove net due last 0 dates
    → plan ≡ record { width = length net.transitions; numbers = last; dates = dates } → IsPlanFor net due plan
plan_is net due ranks last dates plan ok live r settled is =
    let all : IsPlanFor net due (record { width = length net.transitions; numbers = last; dates = dates }) =
    record {
      live = live;
      width = refl;
      latest = passed_are_latest net due last 400 (λ t. get_or ranks t 0) dates ok (ranks_of net ranks ok r) settled;
      onward = (settled []).onward;
    } in
    rw is all
