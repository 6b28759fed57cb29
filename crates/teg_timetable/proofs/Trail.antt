-- The way back along which a delay is passed on: the trail so far, which begins at `at`, and at each transition how long it was when
-- the transition was left.
use Rattle.std.proofs.Common.{ℕ, zero, suc, ◌-◌, ◌<◌, ◌≡◌, ◌≢◌, List, [], ◌∷◌, length, get_or, set, take, drop, Option, Some, None}
use Rattle.std.proofs.Common.{refl, sym, ap, subst, ◌∙◌, arith, ⊎_elim}
use Rattle.std.specs.Prelude.{AllPairs}
use Rattle.std.proofs.lemmas.Bool.{cases_eq}
use Rattle.std.proofs.lemmas.List.{length-set, get_or-set_same, get_or-set_other, get_or_default, get_or-take, length-take-le, take-append-drop}
use Rattle.std.proofs.lemmas.List.Elements.{All-cons, All-take}
use Rattle.std.proofs.lemmas.List.Kept.{AllPairs-cons}
use Rattle.teg_net.specs.declared.entries.PlaceId.{PlaceId}
use Rattle.teg_net.specs.Nets.{NetLists}
use Rattle.teg_net.specs.Circuits.{from_of, IsPathBetween, IsCircuit}
use Rattle.teg_net.specs.Parts.{to_of}
use Rattle.teg_net.proofs.PathLaws.{IsPathBetween-split}
use Rattle.teg_timetable.specs.WaysBack.{AreGood, IsFedCircuit, IsFeeder, IsGood, TopDelays, greatest_top}

abbrev pub first_id : PlaceId
first_id = record { index = 0 }

-- the place that was found when the trail had k places: the k-th from its end
abbrev pub found_at : List PlaceId → ℕ → PlaceId
found_at trail k = get_or trail (length trail - 1 - k) first_id

pub record Trail (s : TopDelays) (left : List (Option ℕ)) (trail : List PlaceId) (at : ℕ) : Type 0 where
  pub count : length left ≡ length s.net.transitions
  pub at_in : at < length s.net.transitions
  pub is_most : get_or s.tops at 0 ≡ greatest_top s
  pub leads : IsPathBetween s.net at trail s.start
  pub good : AreGood s trail
  pub marks : (i k : ℕ) → get_or left i None ≡ Some k → (k < length trail) × (to_of s.net (found_at trail k) ≡ i)
  pub marked : (k : ℕ) → k < length trail → get_or left (to_of s.net (get_or trail k first_id)) None ≢ None
  pub distinct : AllPairs (λ p q. to_of s.net p ≢ to_of s.net q) trail

-- found before, it is one further from the front
found_on : (p : PlaceId) (trail : List PlaceId) (k : ℕ) → k < length trail → found_at (p ∷ trail) k ≡ found_at trail k
found_on p trail k l =
    let n : length (p ∷ trail) - 1 - k ≡ suc (length trail - 1 - k) = omega arith in
    ap (λ (i : ℕ). get_or (p ∷ trail) i first_id) n

found_now : (p : PlaceId) (trail : List PlaceId) → found_at (p ∷ trail) (length trail) ≡ p
found_now p trail =
    let n : length (p ∷ trail) - 1 - length trail ≡ 0 = omega arith in
    ap (λ (i : ℕ). get_or (p ∷ trail) i first_id) n

module _ (s : TopDelays) (left : List (Option ℕ)) (trail : List PlaceId) (at : ℕ) (h : Trail s left trail at) where
  pub trail_more : (p : PlaceId) → get_or left at None ≡ None → IsFeeder s at p → from_of s.net p < length s.net.transitions
      → Trail s (set left at (Some (length trail))) (p ∷ trail) (from_of s.net p)
  trail_more p none f in' =
      let mark : Option ℕ = Some (length trail) in
      let count = h.count in
      let at_in = h.at_in in
      let same : get_or (set left at mark) at None ≡ mark = get_or-set_same left at mark None (omega arith) in
      record {
        count = length-set left at mark ∙ h.count;
        at_in = in';
        is_most = f.feeds.good.from;
        leads = (f.feeds.in_range, refl, subst (λ (z : ℕ). IsPathBetween s.net z trail s.start) (sym f.ends) h.leads);
        good = All-cons (IsGood s) p trail f.feeds.good h.good;
        marks = λ i k e.
            ⊎_elim
            (λ (q : i ≡ at).
            let k_is : length trail ≡ k = cc in
            (omega (arith, k_is), ap (to_of s.net) (ap (found_at (p ∷ trail)) (sym k_is) ∙ found_now p trail) ∙ (f.ends ∙ sym q)))
            (λ (q : i ≢ at).
            let old = h.marks i k (sym (get_or-set_other left at i mark None q) ∙ e) in
            (omega (arith, old.0), ap (to_of s.net) (found_on p trail k old.0) ∙ old.1))
            (cases_eq i at);
        marked = marked_more (λ k l. h.marked k l) same;
        distinct = AllPairs-cons (λ a b. to_of s.net a ≢ to_of s.net b) p trail (λ k d l e.
            let read : get_or trail k d ≡ get_or trail k first_id = get_or_default trail k d first_id l in
            h.marked k l (ap (λ (x : ℕ). get_or left x None) (ap (to_of s.net) (sym read) ∙ (sym e ∙ f.ends)) ∙ none)) h.distinct;
      } where
        marked_more : ((k : ℕ) → k < length trail → get_or left (to_of s.net (get_or trail k first_id)) None ≢ None)
            → get_or (set left at (Some (length trail))) at None ≡ Some (length trail)
            → (k : ℕ) → k < length (p ∷ trail) → get_or (set left at (Some (length trail))) (to_of s.net (get_or (p ∷ trail) k first_id)) None ≢ None
        marked_more old same zero l = λ e. let to = f.ends in let here = ap (λ (x : ℕ). get_or (set left at (Some (length trail))) x None) to in cc
        marked_more old same (suc k) l = λ e. let to : ℕ = to_of s.net (get_or trail k first_id) in ⊎_elim
            (λ (q : to ≡ at). let here = ap (λ (x : ℕ). get_or (set left at (Some (length trail))) x None) q in cc)
            (λ (q : to ≢ at). old k (omega (arith, l)) (sym (get_or-set_other left at to (Some (length trail)) None q) ∙ e))
            (cases_eq to at)

-- a path that is not empty ends where its last place does
ends_as : (net : NetLists) (ps : List PlaceId) (a b : ℕ) → 0 < length ps → IsPathBetween net a ps b → to_of net (get_or ps (length ps - 1) first_id) ≡ b
ends_as net [] a b l h = absurd (omega (arith, l))
ends_as net (p ∷ []) a b l h = h.2
ends_as net (p ∷ q ∷ ps) a b l h =
    let n : length (p ∷ q ∷ ps) - 1 ≡ suc (length (q ∷ ps) - 1) = omega arith in
    ap (λ (i : ℕ). to_of net (get_or (p ∷ q ∷ ps) i first_id)) n ∙ ends_as net (q ∷ ps) (to_of net p) b (omega arith) h.2

-- each place of a path but the first leaves where the one before ends
joined : (net : NetLists) (ps : List PlaceId) (a b k : ℕ) → IsPathBetween net a ps b → suc k < length ps → from_of net (get_or ps (suc k) first_id) ≡ to_of net (get_or ps k first_id)
joined net [] a b k h l = absurd (omega (arith, l))
joined net (p ∷ []) a b k h l = absurd (omega (arith, l))
joined net (p ∷ q ∷ ps) a b zero h l = h.2.1
joined net (p ∷ q ∷ ps) a b (suc k) h l = joined net (q ∷ ps) (to_of net p) b k h.2 (omega (arith, l))

begins_as : (net : NetLists) (ps : List PlaceId) (a b : ℕ) → 0 < length ps → IsPathBetween net a ps b → from_of net (get_or ps 0 first_id) ≡ a
begins_as net [] a b l h = absurd (omega (arith, l))
begins_as net (p ∷ ps) a b l h = h.1

-- a closed path whose places end at different transitions is a circuit
closed_circuit : (net : NetLists) (ps : List PlaceId) (a : ℕ) → 0 < length ps → IsPathBetween net a ps a → AllPairs (λ p q. to_of net p ≢ to_of net q) ps → IsCircuit net ps
closed_circuit net ps a some h apart = record {
  not_empty = some;
  closed = (a, h);
  leaves_once = λ i j d l m e.
      let read_i : get_or ps i d ≡ get_or ps i first_id = get_or_default ps i d first_id (omega (arith, l, m)) in
      let read_j : get_or ps j d ≡ get_or ps j first_id = get_or_default ps j d first_id m in
      leave i j l m (ap (from_of net) (sym read_i) ∙ e ∙ ap (from_of net) read_j);
}
  where
    leave : (i j : ℕ) → i < j → j < length ps → from_of net (get_or ps i first_id) ≡ from_of net (get_or ps j first_id) → ⊥
    leave i zero l m e = absurd (omega (arith, l))
    leave zero (suc j) l m e =
        let last = ends_as net ps a a some h in
        let own = begins_as net ps a a some h in
        let next = joined net ps a a j h m in
        apart j (length ps - 1) first_id (omega (arith, m)) (omega (arith, some)) (sym next ∙ sym e ∙ own ∙ sym last)
    leave (suc i) (suc j) l m e =
        let one = joined net ps a a i h (omega (arith, l, m)) in
        let two = joined net ps a a j h m in
        apart i j first_id (omega (arith, l)) (omega (arith, m)) (sym one ∙ e ∙ two)

-- where the trail comes to a transition again, its front is a circuit
pub circuit_of_trail : (s : TopDelays) (left : List (Option ℕ)) (trail : List PlaceId) (at first : ℕ) → Trail s left trail at → get_or left at None ≡ Some first
    → IsFedCircuit s (take (length trail - first) trail)
circuit_of_trail s left trail at first h is =
    let mark = h.marks at first is in
    let m : ℕ = length trail - first in
    let own : List PlaceId = take m trail in
    let long : length own ≡ m = length-take-le m trail (omega arith) in
    let some : 0 < length own = omega (arith, mark.0) in
    let split = IsPathBetween-split s.net own (drop m trail) at s.start (rw (take-append-drop m trail) h.leads) in
    let last : to_of s.net (get_or own (length own - 1) first_id) ≡ split.0 = ends_as s.net own at split.0 some split.1 in
    let n : length own - 1 ≡ length trail - 1 - first = omega (arith, mark.0) in
    let read : get_or own (length own - 1) first_id ≡ found_at trail first =
    get_or-take m trail (length own - 1) first_id (omega (arith, mark.0)) ∙ ap (λ (i : ℕ). get_or trail i first_id) n in
    let closes : split.0 ≡ at = sym last ∙ ap (to_of s.net) read ∙ mark.1 in
    record {
      circuit = closed_circuit s.net own at some (subst (λ (z : ℕ). IsPathBetween s.net at own z) closes split.1) (λ i j d l r.
          let before : i < m = omega (arith, l, r) in
          let below : j < m = omega (arith, r) in
          let inside : j < length trail = omega (arith, r) in
          rw (get_or-take m trail i d before, get_or-take m trail j d below) (h.distinct i j d l inside));
      good = All-take (IsGood s) m trail h.good;
    }
