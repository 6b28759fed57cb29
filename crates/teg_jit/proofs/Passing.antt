-- The passes of one number.
use Rattle.std.proofs.Common.{ℕ, ◌+◌, ◌-◌, ◌<◌, ◌≤◌, ◌≡◌, ◌≢◌, List, length, get_or, set, refl, ap, subst, ◌∙◌, arith, ⊎_elim}
use Rattle.std.specs.Prelude.{pos, Option, Some, None, Contains}
use Rattle.std.proofs.lemmas.Bool.{cases_lt}
use Rattle.std.proofs.lemmas.Int.{ints}
use Rattle.std.proofs.lemmas.List.{set-get_or, get_or_read}
use Rattle.date_rows.specs.dioid.declared.dates.Date.{Date}
use Rattle.date_rows.specs.dioid.declared.dates.Date.TheVariants.{At as on_date}
use Rattle.date_rows.specs.dioid.Dates.{IsAtMostDate, delayed}
use Rattle.date_rows.proofs.dioid_proofs.DateOrder.{at_most_refl, at_most_is, at_most_trans, never_last, delayed_rises}
use Rattle.teg_net.specs.declared.entries.PlaceId.{PlaceId}
use Rattle.teg_net.specs.declared.entries.Place.{Place}
use Rattle.teg_net.specs.Nets.{NetLists, IsNet, IsPlaceOf}
use Rattle.teg_net.specs.Circuits.{no_place, place_at}
use Rattle.teg_check.specs.Ranks.{IsRanking}
use Rattle.date_rows.specs.teg_model.Datings.{IsFeasibleUnder}
use Rattle.due_laws.specs.MeetingDueDates.{KeepsDues, inputs_at_zero}
use Rattle.due_laws.proofs.LatestDates.{delayed_back}
use Rattle.due_laws.proofs.LatestDates.{feasible_keeps}
use Rattle.date_rows.proofs.teg_model_proofs.Tokens.{not_before_zero}
use Rattle.date_rows.specs.DateTables.{firing_position}
use Rattle.teg_jit.specs.declared.order.Depth.{Depth}
use Rattle.teg_jit.specs.declared.answers.Onward.TheVariants.{By, Next}
use Rattle.teg_jit.specs.declared.answers.LatestDate.{LatestDate}
use Rattle.teg_jit.specs.declared.answers.LatestDate.TheVariants.{Free, At}
use Rattle.teg_jit.specs.BackwardOrder.{IsDepth, IsBackOrder, depth_at}
use Rattle.teg_jit.specs.Plans.{latest_in, date_or_never, dates_of_latest}
use Rattle.teg_jit.specs.GoingBack.{lowered, date_there, ArePassed, ArePassedAbove}
use Rattle.teg_jit.proofs.TableCells.{set_here, set_other}
use Rattle.teg_jit.proofs.Lowering.{IsBefore, lowered_cases, there_none, there_some}
use Rattle.teg_jit.proofs.Back.{CanLower, lowered_at, due_is_no_place, next_is_no_place, one_place}

-- one more transition has its next step done
next_more : (net : NetLists) (due : ℕ → ℕ → Option ℕ) (order : List Depth) (last k i : ℕ) (dates : List LatestDate) → ArePassed net due order last k i 0 0 dates
    → IsAtMostDate (dates_of_latest (length net.transitions) dates i k) (dates_of_latest (length net.transitions) dates i (k + 1)) → ArePassed net due order last k (i + 1) 0 0 dates
next_more net due order last k i dates h below = record {
  full = h.full;
  dues = h.dues;
  above = h.above;
  places = h.places;
  climbs = h.climbs;
  nexts = λ t l m. ⊎_elim (λ (q : t < i). h.nexts t l q) (λ (q : i ≤ t). let is : t ≡ i = omega arith in rw is below) (cases_lt t i);
  done = h.done;
  onward = h.onward;
  steps = h.steps;
  untouched = h.untouched;
}

-- nothing is known of the next firing's date
pub next_none : (net : NetLists) (due : ℕ → ℕ → Option ℕ) (order : List Depth) (last k i : ℕ) (dates : List LatestDate) → ArePassed net due order last k i 0 0 dates
    → None ≡ date_there (latest_in (length net.transitions) dates i (k + 1)) → ArePassed net due order last k (i + 1) 0 0 dates
next_none net due order last k i dates h e =
    next_more net due order last k i dates h (rw (there_none (latest_in (length net.transitions) dates i (k + 1)) e) (never_last (dates_of_latest (length net.transitions) dates i k)))

-- a firing is not due before its date
not_due : (net : NetLists) (due : ℕ → ℕ → Option ℕ) (order : List Depth) (last k next first by : ℕ) (dates : List LatestDate) (t d : ℕ) → ArePassed net due order last k next first by dates
    → t < length net.transitions → 1 ≤ k → IsBefore d (latest_in (length net.transitions) dates t k) → due t k ≢ Some d
not_due net due order last k next first by dates t d h l o before = λ e. before.strict (h.dues t k d l o e)

-- the date is lowered to that of the next firing
pub next_some : (net : NetLists) (due : ℕ → ℕ → Option ℕ) (order : List Depth) (last k i d : ℕ) (dates : List LatestDate) → IsNet net
    → ArePassed net due order last k i 0 0 dates → i < length net.transitions → 1 ≤ k → k ≤ last → Some d ≡ date_there (latest_in (length net.transitions) dates i (k + 1))
    → ArePassed net due order last k (i + 1) 0 0 (set dates (firing_position (length net.transitions) i k) (lowered (get_or dates (firing_position (length net.transitions) i k) Free) d Next))
next_some net due order last k i d dates ok h l o m e =
    let n : ℕ = length net.transitions in
    let cell : ℕ = firing_position n i k in
    let there : dates_of_latest n dates i (k + 1) ≡ on_date (pos d) = there_some (latest_in n dates i (k + 1)) d e in
    ⊎_elim
    (λ (q : (lowered (get_or dates cell Free) d Next ≡ get_or dates cell Free) × IsAtMostDate (dates_of_latest n dates i k) (on_date (pos d))).
    let stays : set dates cell (lowered (get_or dates cell Free) d Next) ≡ dates = ap (set dates cell) q.0 ∙ set-get_or dates cell Free in
    rw stays (next_more net due order last k i dates h (rw there q.1)))
    (λ (q : (lowered (get_or dates cell Free) d Next ≡ At d Next) × IsBefore d (get_or dates cell Free)).
    let fresh : List LatestDate = set dates cell (At d Next) in
    let can : CanLower net due order last k 0 0 dates i d Next =
    record {
      firing_in = l;
      from_one = o;
      to_last = m;
      before = q.1;
      above = λ x f keeps. rw there at (at_most_trans (x i k) (x i (k + 1)) (dates_of_latest n dates i (k + 1))
          ((feasible_keeps net inputs_at_zero x f).next i k l o) (h.above x f keeps i (k + 1) l (omega arith)));
      step = (there, not_due net due order last k i 0 0 dates i d h l o q.1);
      known = λ c f c_in none. absurd (omega arith);
      apart = λ c f c_in none. absurd (omega arith);
      itself = λ p is. absurd (next_is_no_place p is);
      listed = λ p is. absurd (next_is_no_place p is);
    } in
    let now : ArePassed net due order last k i 0 0 fresh = lowered_at net due order last k i 0 0 0 dates i d Next ok h (omega arith) (omega arith) can in
    let same : set dates cell (lowered (get_or dates cell Free) d Next) ≡ fresh = ap (set dates cell) q.0 in
    let here : dates_of_latest n fresh i k ≡ on_date (pos d) = ap date_or_never (set_here n last dates i k (At d Next) h.full l o m) in
    let after : dates_of_latest n fresh i (k + 1) ≡ on_date (pos d) = ap date_or_never (set_other n dates i k i (k + 1) (At d Next) l l o (omega arith) (λ a b. absurd (omega arith))) ∙ there in
    rw same (next_more net due order last k i fresh now (rw (here, after) (at_most_refl (on_date (pos d))))))
    (lowered_cases (get_or dates cell Free) d Next)

later_again : (h e : ℕ) → h ≤ e → delayed h (on_date (pos (e - h))) ≡ on_date (pos e)
later_again h e l =
    let is : (e - h) + h ≡ e = omega arith in
    ap on_date (omega (arith, ints, is))

-- ---- places

-- one more place is done
done_more : (net : NetLists) (due : ℕ → ℕ → Option ℕ) (order : List Depth) (last k i by : ℕ) (o : Depth) (dates : List LatestDate)
    → ArePassed net due order last k (length net.transitions) i by dates → by ≤ i + 1 → ((d : Depth) → get_or order i d ≡ o)
    → IsAtMostDate (delayed (place_at net o.place).hold
    (dates_of_latest (length net.transitions) dates (place_at net o.place).from.index k))
    (dates_of_latest (length net.transitions) dates (place_at net o.place).to.index (k + (place_at net o.place).tokens))
    → ArePassed net due order last k (length net.transitions) (i + 1) (i + 1) dates
done_more net due order last k i by o dates h few at below = record {
  full = h.full;
  dues = h.dues;
  above = h.above;
  places = h.places;
  climbs = h.climbs;
  nexts = h.nexts;
  done = λ c d l m. ⊎_elim (λ (q : c < i). h.done c d l q) (λ (q : i ≤ c). let is : c ≡ i = omega arith in rw (is, at d) below) (cases_lt c i);
  onward = h.onward;
  steps = λ t d p l one is. let c = h.steps t d p l one is in (c.0, omega (arith, c.1), c.2, c.3);
  untouched = h.untouched;
}

-- nothing is known of the date at the end of the place
pub place_none : (net : NetLists) (due : ℕ → ℕ → Option ℕ) (order : List Depth) (last k i : ℕ) (o : Depth) (dates : List LatestDate)
    → ArePassed net due order last k (length net.transitions) i i dates → ((d : Depth) → get_or order i d ≡ o)
    → None ≡ date_there (latest_in (length net.transitions) dates (place_at net o.place).to.index (k + (place_at net o.place).tokens))
    → ArePassed net due order last k (length net.transitions) (i + 1) (i + 1) dates
place_none net due order last k i o dates h at e =
    let place : Place = place_at net o.place in
    done_more net due order last k i i o dates h (omega arith) at
    (rw (there_none (latest_in (length net.transitions) dates place.to.index (k + place.tokens)) e)
    (never_last (delayed place.hold (dates_of_latest (length net.transitions) dates place.from.index k))))

-- a feasible dating leaves room for the hold
pub has_room : (net : NetLists) (due : ℕ → ℕ → Option ℕ) (order : List Depth) (last k next first by e : ℕ) (p : PlaceId)
    (dates : List LatestDate) (x : ℕ → ℕ → Date) → IsNet net → IsFeasibleUnder net inputs_at_zero x → KeepsDues net due x
    → ArePassed net due order last k next first by dates → p.index < length net.places → 1 ≤ k
    → Some e ≡ date_there (latest_in (length net.transitions) dates (place_at net p).to.index (k + (place_at net p).tokens))
    → ((place_at net p).hold ≤ e) × IsAtMostDate (x (place_at net p).from.index k) (on_date (pos (e - (place_at net p).hold)))
has_room net due order last k next first by e p dates x ok f keeps h in' o some =
    let n : ℕ = length net.transitions in
    let place : Place = place_at net p in
    let is : IsPlaceOf net place = ok.each_place p.index no_place in' in
    let there : dates_of_latest n dates place.to.index (k + place.tokens) ≡ on_date (pos e) = there_some (latest_in n dates place.to.index (k + place.tokens)) e some in
    let below : IsAtMostDate (delayed place.hold (x place.from.index k)) (on_date (pos e)) =
    rw there at
    (at_most_trans (delayed place.hold (x place.from.index k)) (x place.to.index (k + place.tokens)) (dates_of_latest n dates place.to.index (k + place.tokens))
    ((feasible_keeps net inputs_at_zero x f).by p k in' o) (h.above x f keeps place.to.index (k + place.tokens) is.to_in (omega arith))) in
    let zero : IsAtMostDate (delayed place.hold (on_date (pos 0))) (on_date (pos e)) =
    at_most_trans (delayed place.hold (on_date (pos 0))) (delayed place.hold (x place.from.index k)) (on_date (pos e))
    (delayed_rises place.hold (on_date (pos 0)) (x place.from.index k) (not_before_zero net inputs_at_zero x f place.from.index k is.from_in o)) below in
    let fits : place.hold ≤ e = omega (arith, ints, zero) in
    let back : delayed place.hold (on_date (pos (e - place.hold))) ≡ on_date (pos e) = later_again place.hold e fits in
    (fits, delayed_back place.hold (x place.from.index k) (on_date (pos (e - place.hold))) (rw back below))

-- a place passed before has its end where none passed from here on begins, if it has no tokens
ends_apart : (net : NetLists) (ranks : List ℕ) (order : List Depth) (c i : ℕ) (e : Depth) (q : PlaceId) → IsNet net
    → IsRanking net ranks → IsBackOrder net ranks order → c ≤ i → i < length order → ((d : Depth) → (get_or order i d).place ≡ q)
    → (place_at net (get_or order c e).place).tokens ≡ 0 → (place_at net (get_or order c e).place).to.index ≡ (place_at net q).from.index → ⊥
ends_apart net ranks order c i e q ok r ord l m is none same =
    let known : IsDepth net ranks (get_or order c e) = ord.known c e (omega arith) in
    let here : IsDepth net ranks (get_or order i e) = ord.known i e m in
    let place = is e in
    let depth : (get_or order i e).depth ≡ length net.transitions - get_or ranks (place_at net q).from.index 0 = rw place at here.depth in
    let range : q.index < length net.places = rw place at here.in_range in
    let up = r.rises (get_or order c e).place.index no_place known.in_range none in
    let rank_is : get_or ranks (place_at net (get_or order c e).place).to.index 0 ≡ get_or ranks (place_at net q).from.index 0 = ap (λ z. get_or ranks z 0) same in
    let own : IsPlaceOf net (place_at net q) = ok.each_place q.index no_place range in
    let small = r.small (place_at net q).from.index 0 (omega (arith, own.from_in, r.count)) in
    let sorted = ord.sorted c i e l m in
    omega (arith, known.depth, depth, up, rank_is, small, sorted)

-- the date at the beginning of the place is lowered to what the hold leaves of that at its end
pub place_some :
    (net : NetLists) (due : ℕ → ℕ → Option ℕ) (ranks : List ℕ) (order : List Depth) (last k i e : ℕ) (o : Depth)
    (dates : List LatestDate) → IsNet net → IsRanking net ranks → IsBackOrder net ranks order
    → ((x : ℕ → ℕ → Date) → IsFeasibleUnder net inputs_at_zero x → KeepsDues net due x → IsAtMostDate (x (place_at net o.place).from.index k) (on_date (pos (e - (place_at net o.place).hold))))
    → (place_at net o.place).hold ≤ e → ArePassed net due order last k (length net.transitions) i i dates → i < length order → ((d : Depth) → get_or order i d ≡ o) → 1 ≤ k → k ≤ last
    → Some e ≡ date_there (latest_in (length net.transitions) dates (place_at net o.place).to.index (k + (place_at net o.place).tokens))
    → ArePassed net due order last k (length net.transitions) (i + 1) (i + 1)
    (set dates (firing_position (length net.transitions) (place_at net o.place).from.index k)
    (lowered (get_or dates (firing_position (length net.transitions) (place_at net o.place).from.index k) Free)
    (e - (place_at net o.place).hold) (By o.place)))
place_some net due ranks order last k i e o dates ok r ord room fits h l at one m some =
    let n : ℕ = length net.transitions in
    let place : Place = place_at net o.place in
    let t : ℕ = place.from.index in
    let d : ℕ = e - place.hold in
    let cell : ℕ = firing_position n t k in
    let range : o.place.index < length net.places = rw at at (ord.known i o l).in_range in
    let is : IsPlaceOf net place = ok.each_place o.place.index no_place range in
    let there : dates_of_latest n dates place.to.index (k + place.tokens) ≡ on_date (pos e) = there_some (latest_in n dates place.to.index (k + place.tokens)) e some in
    let back : delayed place.hold (on_date (pos d)) ≡ on_date (pos e) = later_again place.hold e fits in
    let itself : place.tokens ≡ 0 → place.to.index ≡ t → ⊥ = λ none same. ends_apart net ranks order i i o o.place ok r ord (omega arith) l (λ f. ap (λ z. z.place) (at f)) (rw at none) (rw at same) in
    ⊎_elim
    (λ (q : (lowered (get_or dates cell Free) d (By o.place) ≡ get_or dates cell Free) × IsAtMostDate (dates_of_latest n dates t k) (on_date (pos d))).
    let stays : set dates cell (lowered (get_or dates cell Free) d (By o.place)) ≡ dates = ap (set dates cell) q.0 ∙ set-get_or dates cell Free in
    rw stays (done_more net due order last k i i o dates h (omega arith) at (rw (there, ← back) (delayed_rises place.hold (dates_of_latest n dates t k) (on_date (pos d)) q.1))))
    (λ (q : (lowered (get_or dates cell Free) d (By o.place) ≡ At d (By o.place)) × IsBefore d (get_or dates cell Free)).
    let fresh : List LatestDate = set dates cell (At d (By o.place)) in
    let plus : e ≡ d + place.hold = omega arith in
    let can : CanLower net due order last k i (i + 1) dates t d (By o.place) =
    record {
      firing_in = is.from_in;
      from_one = one;
      to_last = m;
      before = q.1;
      above = room;
      step = (
        range,
        refl,
        there ∙ ap (λ z. on_date (pos z)) plus,
        not_due net due order last k n i i dates t d h is.from_in one q.1,
        λ same. q.1.strict (rw same at (h.nexts t is.from_in is.from_in)),
      );
      known = λ c f c_in low. (ord.known c f c_in).in_range;
      apart = λ c f c_in low none same. ends_apart net ranks order c i f o.place ok r ord (omega arith) l (λ g. ap (λ z. z.place) (at g)) none same;
      itself = λ p p_is. subst (λ z. (place_at net z).tokens ≡ 0 → (place_at net z).to.index ≡ t → ⊥) (one_place o.place p p_is) itself;
      listed = λ p p_is. let same : o.place ≡ p = one_place o.place p p_is in (i, omega arith, l, λ g. ap (λ z. z.place) (at g) ∙ same);
    } in
    let now : ArePassed net due order last k n i (i + 1) fresh = lowered_at net due order last k n i i (i + 1) dates t d (By o.place) ok h (omega arith) (omega arith) can in
    let same : set dates cell (lowered (get_or dates cell Free) d (By o.place)) ≡ fresh = ap (set dates cell) q.0 in
    let here : dates_of_latest n fresh t k ≡ on_date (pos d) = ap date_or_never (set_here n last dates t k (At d (By o.place)) h.full is.from_in one m) in
    let end : dates_of_latest n fresh place.to.index (k + place.tokens) ≡ on_date (pos e) =
    ap date_or_never (set_other n dates t k place.to.index (k + place.tokens) (At d (By o.place)) is.from_in is.to_in one (omega arith) (λ a b. itself (omega arith) a)) ∙ there in
    rw same (done_more net due order last k i (i + 1) o fresh now (omega arith) at (rw (here, end) (at_most_is (delayed place.hold (on_date (pos d))) (on_date (pos e)) back))))
    (lowered_cases (get_or dates cell Free) d (By o.place))

-- ---- numbers

-- with all places passed the number is done
pub number_done : (net : NetLists) (due : ℕ → ℕ → Option ℕ) (ranks : List ℕ) (order : List Depth) (last k i : ℕ) (dates : List LatestDate) → IsBackOrder net ranks order → 1 ≤ k → i ≡ length order
    → ArePassed net due order last k (length net.transitions) i i dates → ArePassedAbove net due last (k - 1) dates
number_done net due ranks order last k i dates ord o end h other = record {
  full = h.full;
  dues = h.dues;
  above = h.above;
  places = λ p s in' l.
      ⊎_elim
      (λ (q : k < s). h.places p s in' q)
      (λ (q : s ≤ k).
      let is : s ≡ k = omega arith in
      let c : Contains order (depth_at net ranks p.index) = ord.all p.index in' in
      rw is (rw c.2 at (h.done c.0 (depth_at net ranks p.index) c.1 (omega (arith, c.1)))))
      (cases_lt k s);
  climbs = λ t s l m. ⊎_elim (λ (q : k < s). h.climbs t s l q) (λ (q : s ≤ k). let is : s ≡ k = omega arith in rw is (h.nexts t l l)) (cases_lt k s);
  nexts = λ t l m. absurd (omega arith);
  done = λ c d l m. absurd (omega arith);
  onward = h.onward;
  steps = λ t d p l m is. absurd (due_is_no_place p (h.untouched t (k - 1) l m (omega arith) d (By p) is));
  untouched = λ t s l m q. h.untouched t s l m (omega arith);
}

-- ---- what the loop reads

abbrev pub none_depth : Depth
none_depth = record { depth = 0; place = record { index = 0 } }

pub read_place : (net : NetLists) (places : List Place) (q : ℕ) (p : Place) → places ≡ net.places → q < length net.places → p ≡ get_or places q p → p ≡ get_or net.places q no_place
read_place net places q p e l read = rw e at (get_or_read places q p (rw e l) read no_place)
