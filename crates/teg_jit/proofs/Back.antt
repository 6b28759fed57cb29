-- How far the dates are settled, going back: one date lowered, one place passed, one number done.
use Rattle.std.proofs.Common.{ℕ, ◌+◌, ◌<◌, ◌≤◌, ◌≡◌, ◌≢◌, List, length, get_or, set, refl, sym, ap, subst, ◌∙◌, arith, inl, inr, ⊎_elim}
use Rattle.std.specs.Prelude.{pos, Option, ◌⊎◌, ⊤}
use Rattle.std.proofs.lemmas.Bool.{cases_eq, cases_lt}
use Rattle.std.proofs.lemmas.List.{length-set}
use Rattle.date_rows.specs.dioid.declared.dates.Date.{Date}
use Rattle.date_rows.specs.dioid.declared.dates.Date.TheVariants.{At as on_date}
use Rattle.date_rows.specs.dioid.Dates.{IsAtMostDate, delayed}
use Rattle.date_rows.proofs.dioid_proofs.DateOrder.{at_most_is, at_most_trans, delayed_rises}
use Rattle.teg_net.specs.declared.entries.PlaceId.{PlaceId}
use Rattle.teg_net.specs.declared.entries.Place.{Place}
use Rattle.teg_net.specs.Nets.{NetLists, IsNet, IsPlaceOf}
use Rattle.teg_net.specs.Circuits.{no_place, place_at}
use Rattle.date_rows.specs.teg_model.Datings.{IsFeasibleUnder}
use Rattle.due_laws.specs.MeetingDueDates.{KeepsDues, inputs_at_zero}
use Rattle.date_rows.specs.DateTables.{firing_position}
use Rattle.teg_jit.specs.declared.order.Depth.{Depth}
use Rattle.teg_jit.specs.declared.answers.Onward.{Onward}
use Rattle.teg_jit.specs.declared.answers.Onward.TheVariants.{Due, By, Next}
use Rattle.teg_jit.specs.declared.answers.LatestDate.{LatestDate}
use Rattle.teg_jit.specs.declared.answers.LatestDate.TheVariants.{Free, At}
use Rattle.teg_jit.specs.Plans.{latest_in, date_or_never, dates_of_latest, IsOnward, HasOnward}
use Rattle.teg_jit.specs.GoingBack.{ArePassed}
use Rattle.teg_jit.proofs.TableCells.{set_here, set_other}
use Rattle.teg_jit.proofs.Lowering.{IsBefore, onward_of}

abbrev pub IsNoDue : Onward → Type 0
IsNoDue Due = ⊥
IsNoDue (By p) = ⊤
IsNoDue Next = ⊤

pub due_is_no_place : (p : PlaceId) → By p ≡ Due → ⊥
due_is_no_place p e = subst IsNoDue e tt

abbrev IsNext : Onward → Type 0
IsNext Due = ⊥
IsNext (By p) = ⊥
IsNext Next = ⊤

pub next_is_no_place : (p : PlaceId) → Next ≡ By p → ⊥
next_is_no_place p e = subst IsNext e tt

abbrev place_or : PlaceId → Onward → PlaceId
place_or d Due = d
place_or d (By p) = p
place_or d Next = d

pub one_place : (p q : PlaceId) → By p ≡ By q → p ≡ q
one_place p q e = ap (place_or p) e

no_depth : PlaceId → Depth
no_depth p = record { depth = 0; place = p }

pub both_or_not : (v t s k : ℕ) → ((v ≡ t) × (s ≡ k)) ⊎ (v ≡ t → s ≡ k → ⊥)
both_or_not v t s k =
    ⊎_elim
    (λ (a : v ≡ t). ⊎_elim (λ (b : s ≡ k). inl (a, b)) (λ (b : s ≢ k). inr (λ a' b'. b b')) (cases_eq s k))
    (λ (a : v ≢ t). inr (λ a' b'. a a'))
    (cases_eq v t)

-- a step stays right where the dates that it speaks of do
onward_kept :
    (net : NetLists) (due : ℕ → ℕ → Option ℕ) (y z : ℕ → ℕ → Date) (v s d : ℕ) (w : Onward) → ((w ≡ Due → ⊥) → z v (s + 1) ≡ y v (s + 1))
    → ((p : PlaceId) → w ≡ By p → p.index < length net.places → z (place_at net p).to.index (s + (place_at net p).tokens) ≡ y (place_at net p).to.index (s + (place_at net p).tokens))
    → IsOnward net due y v s d w → IsOnward net due z v s d w
onward_kept net due y z v s d Due next place h = h
onward_kept net due y z v s d Next next place h =
    let same : z v (s + 1) ≡ y v (s + 1) = next (λ e. subst IsNoDue e tt) in
    (same ∙ h.0, h.1)
onward_kept net due y z v s d (By p) next place h =
    let same : z v (s + 1) ≡ y v (s + 1) = next (λ e. subst IsNoDue e tt) in
    (h.0, h.1, place p refl h.0 ∙ h.2, h.3, λ e. h.4 (sym same ∙ e))

-- the same of what is there
there_kept :
    (net : NetLists) (due : ℕ → ℕ → Option ℕ) (y z : ℕ → ℕ → Date) (v s : ℕ) (b : LatestDate)
    → ((d : ℕ) (w : Onward) → b ≡ At d w → (w ≡ Due → ⊥) → z v (s + 1) ≡ y v (s + 1))
    → ((d : ℕ) (w : Onward) → b ≡ At d w → (p : PlaceId) → w ≡ By p → p.index < length net.places
    → z (place_at net p).to.index (s + (place_at net p).tokens) ≡ y (place_at net p).to.index (s + (place_at net p).tokens))
    → HasOnward net due y v s b → HasOnward net due z v s b
there_kept net due y z v s Free next place h = tt
there_kept net due y z v s (At d w) next place h = onward_kept net due y z v s d w (next d w refl) (place d w refl) h

-- what a date that takes the place of another at firing k of transition t must be
pub record CanLower (net : NetLists) (due : ℕ → ℕ → Option ℕ) (order : List Depth) (last k by more : ℕ) (dates : List LatestDate) (t d : ℕ) (o : Onward) : Type 0 where
  pub firing_in : t < length net.transitions
  pub from_one : 1 ≤ k
  pub to_last : k ≤ last
  pub before : IsBefore d (latest_in (length net.transitions) dates t k)
  pub above : (x : ℕ → ℕ → Date) → IsFeasibleUnder net inputs_at_zero x → KeepsDues net due x → IsAtMostDate (x t k) (on_date (pos d))
  pub step : IsOnward net due (dates_of_latest (length net.transitions) dates) t k d o
  pub known : (c : ℕ) (e : Depth) → c < length order → c < by → (get_or order c e).place.index < length net.places
  pub apart : (c : ℕ) (e : Depth) → c < length order → c < by → (place_at net (get_or order c e).place).tokens ≡ 0 → (place_at net (get_or order c e).place).to.index ≡ t → ⊥
  pub itself : (p : PlaceId) → o ≡ By p → (place_at net p).tokens ≡ 0 → (place_at net p).to.index ≡ t → ⊥
  pub listed : (p : PlaceId) → o ≡ By p → (c : ℕ) × (c < more) × (c < length order) × ((e : Depth) → (get_or order c e).place ≡ p)

pub lowered_at :
    (net : NetLists) (due : ℕ → ℕ → Option ℕ) (order : List Depth) (last k next first by more : ℕ) (dates : List LatestDate) (t d : ℕ) (o : Onward)
    → IsNet net → ArePassed net due order last k next first by dates → first ≤ by → by ≤ more → CanLower net due order last k by more dates t d o
    → ArePassed net due order last k next first more (set dates (firing_position (length net.transitions) t k) (At d o))
lowered_at net due order last k next first by more dates t d o ok h fb bm can =
    let n : ℕ = length net.transitions in
    let fresh : List LatestDate = set dates (firing_position n t k) (At d o) in
    let y : ℕ → ℕ → Date = dates_of_latest n dates in
    let z : ℕ → ℕ → Date = dates_of_latest n fresh in
    let one = can.from_one in
    let here : latest_in n fresh t k ≡ At d o = set_here n last dates t k (At d o) h.full can.firing_in one can.to_last in
    let other : (v s : ℕ) → v < n → 1 ≤ s → (v ≡ t → s ≡ k → ⊥) → latest_in n fresh v s ≡ latest_in n dates v s = λ v s l m a. set_other n dates t k v s (At d o) can.firing_in l one m a in
    let same : (v s : ℕ) → v < n → 1 ≤ s → (v ≡ t → s ≡ k → ⊥) → z v s ≡ y v s = λ v s l m a. ap date_or_never (other v s l m a) in
    let later : (v s : ℕ) → v < n → k < s → z v s ≡ y v s = λ v s l m. same v s l (omega arith) (λ a b. absurd (omega arith)) in
    let less : (v s : ℕ) → v < n → 1 ≤ s → IsAtMostDate (z v s) (y v s) =
    λ v s l m. ⊎_elim
    (λ (a : v ≡ t).
    ⊎_elim
    (λ (b : s ≡ k). rw (a, b, here) can.before.below)
    (λ (b : s ≢ k). at_most_is (z v s) (y v s) (same v s l m (λ a' b'. b b')))
    (cases_eq s k))
    (λ (a : v ≢ t). at_most_is (z v s) (y v s) (same v s l m (λ a' b'. a a')))
    (cases_eq v t) in
    let ends : (p : PlaceId) → p.index < length net.places → IsPlaceOf net (place_at net p) = λ p in'. ok.each_place p.index no_place in' in
    record {
      full = length-set dates (firing_position n t k) (At d o) ∙ h.full;
      dues = λ v s e l m is. at_most_trans (z v s) (y v s) (on_date (pos e)) (less v s l m) (h.dues v s e l m is);
      above = λ x f keeps v s l m.
          ⊎_elim
          (λ (a : v ≡ t).
          ⊎_elim
          (λ (b : s ≡ k). rw (a, b, here) (can.above x f keeps))
          (λ (b : s ≢ k). rw (same v s l m (λ a' b'. b b')) (h.above x f keeps v s l m))
          (cases_eq s k))
          (λ (a : v ≢ t). rw (same v s l m (λ a' b'. a a')) (h.above x f keeps v s l m))
          (cases_eq v t);
      places = λ p s in' l.
          let is = ends p in' in
          rw (later (place_at net p).from.index s is.from_in l, later (place_at net p).to.index (s + (place_at net p).tokens) is.to_in (omega arith)) (h.places p s in' l);
      climbs = λ v s l m. rw (later v s l m, later v (s + 1) l (omega arith)) (h.climbs v s l m);
      nexts = λ v l m. rw (later v (k + 1) l (omega arith)) (at_most_trans (z v k) (y v k) (y v (k + 1)) (less v k l one) (h.nexts v l m));
      done = λ c e l m.
          let p : PlaceId = (get_or order c e).place in
          let place : Place = place_at net p in
          let is = ends p (can.known c e l (omega arith)) in
          let end : z place.to.index (k + place.tokens) ≡ y place.to.index (k + place.tokens) =
          same place.to.index (k + place.tokens) is.to_in (omega arith) (λ a b. can.apart c e l (omega arith) (omega arith) a) in
          rw end
          (at_most_trans (delayed place.hold (z place.from.index k)) (delayed place.hold (y place.from.index k)) (y place.to.index (k + place.tokens))
          (delayed_rises place.hold (z place.from.index k) (y place.from.index k) (less place.from.index k is.from_in one)) (h.done c e l m));
      onward = λ v s l m.
          ⊎_elim
          (λ (a : (v ≡ t) × (s ≡ k)).
          rw (a.0, a.1, here)
          (onward_kept net due y z t k d o (λ q. later t (k + 1) can.firing_in (omega arith))
          (λ p is in'. same (place_at net p).to.index (k + (place_at net p).tokens) (ends p in').to_in (omega arith) (λ a' b'. can.itself p is (omega arith) a')) can.step))
          (λ (a : v ≡ t → s ≡ k → ⊥).
          rw (other v s l m a)
          (there_kept net due y z v s (latest_in n dates v s)
          (λ e w is no. same v (s + 1) l (omega arith) (λ a' b'. no (h.untouched v s l m (omega arith) e w is)))
          (λ e w is p w_is in'. same (place_at net p).to.index (s + (place_at net p).tokens) (ends p in').to_in (omega arith)
          (λ a' b'.
          ⊎_elim
          (λ (q : s < k). due_is_no_place p (sym w_is ∙ h.untouched v s l m q e w is))
          (λ (q : k ≤ s).
          let s_is : s ≡ k = omega arith in
          let at_k : latest_in n dates v k ≡ At e (By p) = ap (latest_in n dates v) (sym s_is) ∙ (is ∙ ap (At e) w_is) in
          let c = h.steps v e p l one at_k in
          let place_is = c.3 (no_depth p) in
          can.apart c.0 (no_depth p) c.2 c.1 (rw place_is (omega arith)) (rw place_is a'))
          (cases_lt s k)))
          (h.onward v s l m)))
          (both_or_not v t s k);
      steps = λ v e p l o' is.
          ⊎_elim
          (λ (a : v ≡ t).
          let o_is : o ≡ By p = ap onward_of (sym here ∙ (ap (λ u. latest_in n fresh u k) (sym a) ∙ is)) in
          can.listed p o_is)
          (λ (a : v ≢ t).
          let c = h.steps v e p l o' (sym (other v k l o' (λ a' b'. a a')) ∙ is) in
          (c.0, omega (arith, c.1), c.2, c.3))
          (cases_eq v t);
      untouched = λ v s l m q. λ e w is. h.untouched v s l m q e w (sym (other v s l m (λ a' b'. absurd (omega arith))) ∙ is);
    }
