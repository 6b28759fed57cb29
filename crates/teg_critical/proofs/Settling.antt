-- One step of the search: the nearest transition is settled, and the places that leave it are taken.
use Rattle.std.proofs.Common.{ℕ, zero, suc, ◌+◌, ◌*◌, ◌<◌, ◌≤◌, ◌≡◌, ◌≢◌, Bool, true, false, List, [], ◌∷◌, ◌++◌, length, get_or, set, Option, Some, None, refl, sym, ap, subst, ◌∙◌, arith, ⊎_elim}
use Rattle.std.specs.Prelude.{All, IsSome, if◌then◌else◌}
use Rattle.std.proofs.lemmas.Bool.{cases_eq}
use Rattle.std.proofs.lemmas.List.{length-set, get_or-set_same, get_or-set_other}
use Rattle.std.proofs.lemmas.List.Elements.{All-append, All-contains}
use Rattle.std.proofs.lemmas.List.Sums.{sum_by-append, sum_by-cons, sum_by-set}
use Rattle.teg_net.specs.declared.entries.PlaceId.{PlaceId}
use Rattle.teg_net.specs.Nets.{NetLists, IsNet, IsPlaceOf}
use Rattle.teg_net.specs.Circuits.{no_place, place_at, from_of, IsPathBetween}
use Rattle.teg_net.specs.Parts.{to_of}
use Rattle.teg_net.proofs.PathLaws.{IsPathBetween-append}
use Rattle.teg_critical.specs.declared.losses.Loss.{Loss}
use Rattle.teg_critical.specs.Losses.{most_loss, loss_at, AreKeptSmall}
use Rattle.teg_critical.specs.LeastLosses.{amount_in, loss_of_path, IsWay, told_at, IsToldWithin, is_settled, CanSearch, Offers, IsTaken, IsRelaxed}
use Rattle.teg_critical.proofs.Searching.{within_more, within_some, IsTold, within_told}
use Rattle.teg_critical.proofs.SearchStates.{unsettled, IsSearching, IsNearest}

pub true_false : (b : Bool) → b ≡ true → b ≡ false → ⊥
true_false b e f = cc

-- where a transition is settled one fewer is open
pub one_settled : (settled : List Bool) (at : ℕ) → at < length settled → is_settled settled at ≡ false → unsettled (set settled at true) + 1 ≡ unsettled settled
one_settled settled at l opened =
    open_one (is_settled settled at) (unsettled (set settled at true)) (unsettled settled) opened (sum_by-set (λ (z : Bool). if z then 0 else 1) settled at true true l) where
      open_one : (b : Bool) (u m : ℕ) → b ≡ false → u + (if b then 0 else 1) ≡ m + 0 → u + 1 ≡ m
      open_one true u m e f = absurd (true_false true refl e)
      open_one false u m e f = omega arith

one_more : (p : PlaceId) → (P : PlaceId → Type 0) → P p → All P (p ∷ [])
one_more p P h zero d l = h
one_more p P h (suc i) d l = absurd (omega arith)

-- an amount is no more than the most
kept_amount : (losses : List (Option Loss)) (p : PlaceId) → AreKeptSmall losses → amount_in (loss_at losses p) ≤ most_loss
kept_amount losses p small = by_told (loss_at losses p) refl where
  by_told : (o : Option Loss) → loss_at losses p ≡ o → amount_in o ≤ most_loss
  by_told None e = omega arith
  by_told (Some l) e = small p l e

module _ {net : NetLists} {losses : List (Option Loss)} {lists : List (List PlaceId)} (can : CanSearch net losses lists) {start : ℕ} {least : List (Option ℕ)} {settled : List Bool}
    (s : IsSearching net losses start least settled) {at base : ℕ} (near : IsNearest least settled at base) {new : List (Option ℕ)}
    (relaxed : IsRelaxed net losses at base (get_or lists at []) least new) where
  told : told_at least at ≡ Some base
  told = near.told

  abbrev marks : List Bool
  marks = set settled at true

  mark_same : is_settled marks at ≡ true
  mark_same = get_or-set_same settled at true true near.in_range

  mark_other : (t : ℕ) → t ≢ at → is_settled marks t ≡ is_settled settled t
  mark_other t ne = get_or-set_other settled at t true true ne

  was_open : (u : ℕ) → is_settled marks u ≡ false → (u ≢ at) × (is_settled settled u ≡ false)
  was_open u e = ⊎_elim
      (λ (same : u ≡ at). absurd (true_false (is_settled marks u) (ap (is_settled marks) same ∙ mark_same) e))
      (λ (ne : u ≢ at). (ne, sym (mark_other u ne) ∙ e))
      (cases_eq u at)

  -- what is told of an open transition is no less than the loss from which the places are taken
  no_less : (u d : ℕ) → is_settled settled u ≡ false → told_at new u ≡ Some d → base ≤ d
  no_less u d e f = ⊎_elim
      (λ (old : told_at least u ≡ Some d). near.no_nearer u d e old)
      (λ (by : (p : PlaceId) × Offers net losses at base p u d). let sum = by.1.sum in omega arith)
      (relaxed.by_place u d f)

  no_less_at : (d : ℕ) → told_at new at ≡ Some d → base ≤ d
  no_less_at d f = no_less at d near.open_ f

  at_base : IsToldWithin (told_at new at) base
  at_base = relaxed.lowered at base (within_some (told_at least at) base told)

  -- a settled transition was told no more
  settled_base : (t : ℕ) → t < length settled → is_settled settled t ≡ true → IsToldWithin (told_at least t) base
  settled_base t l e = s.before t at base l e near.open_ told

  pub sound : (t d : ℕ) → told_at new t ≡ Some d → (ps : List PlaceId) × IsWay net losses start ps t × (loss_of_path losses ps ≡ d)
  sound t d e = ⊎_elim
      (λ (old : told_at least t ≡ Some d). s.sound t d old)
      (λ (by : (p : PlaceId) × Offers net losses at base p t d).
      let p : PlaceId = by.0 in
      let before = s.sound at base told in
      let ps : List PlaceId = before.0 in
      let way : IsWay net losses start ps at = before.1 in
      let last : IsPathBetween net at (p ∷ []) t = (by.1.in_range, by.1.from, by.1.to) in
      let sums = sum_by-append (λ q. amount_in (loss_at losses q)) ps (p ∷ []) in
      let one = sum_by-cons (λ q. amount_in (loss_at losses q)) p [] in
      let base_is = before.2 in
      let sum = by.1.sum in (
        ps ++ (p ∷ []),
        record {
          path = IsPathBetween-append net ps (p ∷ []) start at t way.path last;
          along = All-append (λ q. IsSome (loss_at losses q)) ps (p ∷ []) way.along (one_more p (λ q. IsSome (loss_at losses q)) by.1.told);
        },
        omega arith,
      ))
      (relaxed.by_place t d e)

  pub before : (t u d : ℕ) → t < length marks → is_settled marks t ≡ true → is_settled marks u ≡ false → told_at new u ≡ Some d → IsToldWithin (told_at new t) d
  before t u d l e f g =
      let long = length-set settled at true in
      let was = was_open u f in
      ⊎_elim
      (λ (same : t ≡ at). within_more (told_at new t) base d (subst (λ (z : ℕ). IsToldWithin (told_at new z) base) (sym same) at_base) (no_less u d was.1 g))
      (λ (ne : t ≢ at).
      let old : is_settled settled t ≡ true = sym (mark_other t ne) ∙ e in
      ⊎_elim
      (λ (kept : told_at least u ≡ Some d). relaxed.lowered t d (s.before t u d (omega arith) old was.1 kept))
      (λ (by : (p : PlaceId) × Offers net losses at base p u d). let sum = by.1.sum in within_more (told_at new t) base d (relaxed.lowered t base (settled_base t (omega arith) old)) (omega arith))
      (relaxed.by_place u d g))
      (cases_eq t at)

  -- the places that leave the settled transition
  offered : (p : PlaceId) → p.index < length net.places → from_of net p ≡ at → IsSome (loss_at losses p) → IsToldWithin (told_at new (to_of net p)) (base + amount_in (loss_at losses p))
  offered p l e f =
      let low = near.in_range in
      let same = s.marks in
      All-contains (IsTaken net losses base new) (get_or lists at []) p relaxed.taken ((can.leaving.each at (omega arith)).all p l e) f

  pub taken : (p : PlaceId) (d : ℕ) → p.index < length net.places → from_of net p < length settled → IsSome (loss_at losses p)
      → is_settled marks (from_of net p) ≡ true → told_at new (from_of net p) ≡ Some d
      → IsToldWithin (told_at new (to_of net p)) (d + amount_in (loss_at losses p))
  taken p d l m f e g = ⊎_elim
      (λ (same : from_of net p ≡ at).
      let low : base ≤ d = no_less_at d (ap (told_at new) (sym same) ∙ g) in
      within_more (told_at new (to_of net p)) (base + amount_in (loss_at losses p)) (d + amount_in (loss_at losses p)) (offered p l same f) (omega arith))
      (λ (ne : from_of net p ≢ at).
      let old : is_settled settled (from_of net p) ≡ true = sym (mark_other (from_of net p) ne) ∙ e in
      ⊎_elim
      (λ (kept : told_at least (from_of net p) ≡ Some d). relaxed.lowered (to_of net p) (d + amount_in (loss_at losses p)) (s.taken p d l f old kept))
      (λ (by : (q : PlaceId) × Offers net losses at base q (from_of net p) d).
      let sum = by.1.sum in
      let was : IsTold (told_at least (from_of net p)) base = within_told (told_at least (from_of net p)) base (settled_base (from_of net p) m old) in
      let low = was.low in
      within_more (told_at new (to_of net p)) (was.number + amount_in (loss_at losses p)) (d + amount_in (loss_at losses p))
      (relaxed.lowered (to_of net p) (was.number + amount_in (loss_at losses p)) (s.taken p was.number l f old was.is)) (omega arith))
      (relaxed.by_place (from_of net p) d g))
      (cases_eq (from_of net p) at)

  -- one transition fewer is open
  fewer : unsettled marks + 1 ≡ unsettled settled
  fewer = one_settled settled at near.in_range near.open_

  pub small : (t d : ℕ) → told_at new t ≡ Some d → d + unsettled marks * most_loss ≤ length marks * most_loss
  small t d e =
      let long = length-set settled at true in
      let less : unsettled settled * most_loss ≡ unsettled marks * most_loss + most_loss = (let f = fewer in omega arith) in
      let same : length marks * most_loss ≡ length settled * most_loss = ap (λ (z : ℕ). z * most_loss) long in
      ⊎_elim
      (λ (old : told_at least t ≡ Some d). let was = s.small t d old in omega arith)
      (λ (by : (p : PlaceId) × Offers net losses at base p t d).
      let sum = by.1.sum in
      let was = s.small at base told in
      let most = kept_amount losses by.0 can.small in
      omega arith)
      (relaxed.by_place t d e)

  -- the search goes on
  pub settles : IsNet net → IsSearching net losses start new marks
  settles ok = record {
    count = relaxed.count ∙ s.count;
    marks = length-set settled at true ∙ s.marks;
    begins = relaxed.lowered start 0 s.begins;
    sound = sound;
    before = before;
    taken = λ p d l f e g.
        let rules : IsPlaceOf net (place_at net p) = ok.each_place p.index no_place l in
        let low = rules.from_in in
        let same = s.marks in
        taken p d l (omega arith) f e g;
    small = small;
  }
