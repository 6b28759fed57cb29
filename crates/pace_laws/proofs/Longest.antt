-- Of the paths from a transition to certain ends, one of greatest reduced time, where no circuit gains.
use Rattle.std.proofs.Common.{ℕ, zero, suc, ◌<◌, ◌≤◌, ◌≡◌, ◌⊎◌, inl, inr, List, [], ◌∷◌, ◌++◌, length, refl, sym, ap, subst, arith, ⊎_elim}
use Rattle.std.specs.Prelude.{ℤ, pos, ◌≤ℤ◌, ◌<ℤ◌, ⊤, All}
use Rattle.std.proofs.lemmas.Bool.{cases_lt, cases_eq}
use Rattle.std.proofs.lemmas.Int.{ints, by_lt_z}
use Rattle.std.proofs.lemmas.List.Elements.{All-nil, All-cons, All-tail, All-append}
use Rattle.teg_net.specs.declared.entries.PlaceId.{PlaceId}
use Rattle.teg_net.specs.Nets.{NetLists}
use Rattle.teg_net.specs.Circuits.{from_of, IsPathBetween, IsCircuit}
use Rattle.teg_net.specs.Parts.{to_of}
use Rattle.teg_net.specs.ReducedTimes.{reduced_time_of}
use Rattle.teg_loops.specs.Loops.{EndsBelow}
use Rattle.teg_loops.proofs.Taking.{by_loops}
use Rattle.pace_laws.proofs.Sums.{weight-append, all_left, all_right}

-- the first place is below the bound
abbrev pub FirstBelow : ℕ → List PlaceId → Type 0
FirstBelow m [] = ⊤
FirstBelow m (p ∷ ps) = p.index < m

first_below : (net : NetLists) (ps : List PlaceId) (s t : ℕ) → IsPathBetween net s ps t → FirstBelow (length net.places) ps
first_below net [] s t l = tt
first_below net (p ∷ ps) s t l = l.0

-- a list whose first place is below the bound, or at it
pub record BeginsWith (p : PlaceId) (ps : List PlaceId) : Type 0 where
  pub others : List PlaceId
  pub is : ps ≡ p ∷ others

pub first_or : (m : ℕ) (ps : List PlaceId) → FirstBelow (suc m) ps → FirstBelow m ps ⊎ BeginsWith (record { index = m }) ps
first_or m [] h = inl tt
first_or m (p ∷ ps) h = ⊎_elim
    (λ (l : p.index < m). inl l)
    (λ (l : m ≤ p.index). let e : p.index ≡ m = omega arith in inr (record { others = ps; is = ap (λ k. record { index = k } ∷ ps) e }))
    (cases_lt p.index m)

module _ (net : NetLists) (a b : ℕ) (Within : PlaceId → Type 0) (within : (p : PlaceId) → Within p ⊎ (Within p → ⊥)) (End : ℕ → Type 0) (ends : (s : ℕ) → End s ⊎ (End s → ⊥)) where
  -- a path of such places from the transition to such an end
  pub record IsWay (s : ℕ) (ps : List PlaceId) : Type 0 where
    pub to : ℕ
    pub path : IsPathBetween net s ps to
    pub at_end : End to
    pub inside : All Within ps

  -- no such path of at most i places, the first of them below m
  abbrev pub NoWay : ℕ → ℕ → ℕ → Type 0
  NoWay s i m = (ps : List PlaceId) → IsWay s ps → length ps ≤ i → FirstBelow m ps → ⊥

  -- of such paths none has a greater reduced time
  pub record IsBestWay (s i m : ℕ) : Type 0 where
    pub best : List PlaceId
    pub way : IsWay s best
    pub greatest : (ps : List PlaceId) → IsWay s ps → length ps ≤ i → FirstBelow m ps → reduced_time_of net a b ps ≤ℤ reduced_time_of net a b best

  abbrev Outcome : ℕ → ℕ → ℕ → Type 0
  Outcome s i m = NoWay s i m ⊎ IsBestWay s i m

  same_least : (ps : List PlaceId) → ps ≡ [] → reduced_time_of net a b ps ≤ℤ pos 0
  same_least ps e = let z : reduced_time_of net a b ps ≡ pos 0 = ap (reduced_time_of net a b) e in omega (arith, ints, z)

  end_here : (s : ℕ) (ps : List PlaceId) → ps ≡ [] → IsWay s ps → End s
  end_here s [] e w = subst End (sym w.path) w.at_end
  end_here s (p ∷ ps) e w = absurd (let l : length (p ∷ ps) ≡ 0 = ap (λ (z : List PlaceId). length z) e in omega arith)

  only_empty : (s i m : ℕ) → ((ps : List PlaceId) → length ps ≤ i → FirstBelow m ps → ps ≡ []) → Outcome s i m
  only_empty s i m only = ⊎_elim
      (λ (e : End s). inr (record {
        best = [];
        way = record { to = s; path = refl; at_end = e; inside = All-nil Within };
        greatest = λ ps w l f. same_least ps (only ps l f);
      }))
      (λ (n : End s → ⊥). inl (λ ps w l f. n (end_here s ps (only ps l f) w)))
      (ends s)

  -- no path begins with the place at the bound
  skip : (s i m : ℕ) → Outcome s (suc i) m → ((qs : List PlaceId) → IsWay s (record { index = m } ∷ qs) → length qs ≤ i → ⊥) → Outcome s (suc i) (suc m)
  skip s i m old none = ⊎_elim
      (λ (no : NoWay s (suc i) m). inl (λ ps w l f. ⊎_elim (λ (g : FirstBelow m ps). no ps w l g) (λ (g : BeginsWith (record { index = m }) ps). clash ps w l g) (first_or m ps f)))
      (λ (o : IsBestWay s (suc i) m). inr (record {
        best = o.best;
        way = o.way;
        greatest = λ ps w l f. ⊎_elim (λ (g : FirstBelow m ps). o.greatest ps w l g) (λ (g : BeginsWith (record { index = m }) ps). absurd (clash ps w l g)) (first_or m ps f);
      }))
      old where
        clash : (ps : List PlaceId) → IsWay s ps → length ps ≤ suc i → BeginsWith (record { index = m }) ps → ⊥
        clash ps w l g =
            let e = g.is in
            let long : length ps ≡ suc (length g.others) = ap (λ (z : List PlaceId). length z) e in
            none g.others (subst (IsWay s) e w) (omega arith)

  -- a path that begins with it is best of those
  more : (s i m : ℕ) → Outcome s (suc i) m → (qs : List PlaceId) → IsWay s (record { index = m } ∷ qs)
      → ((rs : List PlaceId) → IsWay s (record { index = m } ∷ rs) → length rs ≤ i
      → reduced_time_of net a b (record { index = m } ∷ rs) ≤ℤ reduced_time_of net a b (record { index = m } ∷ qs)) → Outcome s (suc i) (suc m)
  more s i m old qs way most = ⊎_elim
      (λ (no : NoWay s (suc i) m). inr (record {
        best = p ∷ qs;
        way = way;
        greatest = λ ps w l f. ⊎_elim (λ (g : FirstBelow m ps). absurd (no ps w l g)) (λ (g : BeginsWith p ps). with_it ps w l g) (first_or m ps f);
      }))
      (λ (o : IsBestWay s (suc i) m).
      let x : ℤ = reduced_time_of net a b o.best in
      let y : ℤ = reduced_time_of net a b (p ∷ qs) in
      by_lt_z x y
      (λ (less : x <ℤ y). inr (record {
        best = p ∷ qs;
        way = way;
        greatest = λ ps w l f. ⊎_elim (λ (g : FirstBelow m ps). below (reduced_time_of net a b ps) x y (o.greatest ps w l g) less) (λ (g : BeginsWith p ps). with_it ps w l g) (first_or m ps f);
      }))
      (λ (least : y ≤ℤ x). inr (record {
        best = o.best;
        way = o.way;
        greatest = λ ps w l f. ⊎_elim (λ (g : FirstBelow m ps). o.greatest ps w l g) (λ (g : BeginsWith p ps). at_most (reduced_time_of net a b ps) y x (with_it ps w l g) least) (first_or m ps f);
      })))
      old where
        p : PlaceId
        p = record { index = m }

        with_it : (ps : List PlaceId) → IsWay s ps → length ps ≤ suc i → BeginsWith p ps → reduced_time_of net a b ps ≤ℤ reduced_time_of net a b (p ∷ qs)
        with_it ps w l g =
            let e = g.is in
            let long : length ps ≡ suc (length g.others) = ap (λ (z : List PlaceId). length z) e in
            subst (λ (z : List PlaceId). reduced_time_of net a b z ≤ℤ reduced_time_of net a b (p ∷ qs)) (sym e) (most g.others (subst (IsWay s) e w) (omega arith))

        below : (x y z : ℤ) → x ≤ℤ y → y <ℤ z → x ≤ℤ z
        below x y z h k = omega (arith, ints, h, k)

        at_most : (x y z : ℤ) → x ≤ℤ y → y ≤ℤ z → x ≤ℤ z
        at_most x y z h k = omega (arith, ints, h, k)

  -- what follows the first place
  after_first : (s : ℕ) (p : PlaceId) (qs : List PlaceId) → IsWay s (p ∷ qs) → IsWay (to_of net p) qs
  after_first s p qs w = record { to = w.to; path = w.path.2; at_end = w.at_end; inside = All-tail Within p qs w.inside }

  by_place : (i : ℕ) → ((s : ℕ) → Outcome s i (length net.places)) → (m s : ℕ) → m ≤ length net.places → Outcome s (suc i) m
  by_place i rest zero s l = only_empty s (suc i) zero empty where
    empty : (ps : List PlaceId) → length ps ≤ suc i → FirstBelow zero ps → ps ≡ []
    empty [] k f = refl
    empty (p ∷ ps) k f = absurd (omega arith)
  by_place i rest (suc m) s l =
      let p : PlaceId = record { index = m } in
      let old = by_place i rest m s (omega arith) in
      ⊎_elim
      (λ (from : from_of net p ≡ s).
      ⊎_elim
      (λ (own : Within p).
      ⊎_elim
      (λ (no : NoWay (to_of net p) i (length net.places)). skip s i m old (λ qs w k. no qs (after_first s p qs w) k (first_below net qs (to_of net p) w.to w.path.2)))
      (λ (o : IsBestWay (to_of net p) i (length net.places)).
      more s i m old o.best (record { to = o.way.to; path = (omega arith, from, o.way.path); at_end = o.way.at_end; inside = All-cons Within p o.best own o.way.inside })
      (λ rs w k.
      let most = o.greatest rs (after_first s p rs w) k (first_below net rs (to_of net p) w.to w.path.2) in
      omega (arith, ints, most)))
      (rest (to_of net p)))
      (λ (foreign : Within p → ⊥). skip s i m old (λ qs w k. foreign (w.inside 0 p (omega arith))))
      (within p))
      (λ (other : from_of net p ≡ s → ⊥). skip s i m old (λ qs w k. other w.path.1))
      (cases_eq (from_of net p) s)

  best_way : (i s : ℕ) → Outcome s i (length net.places)
  best_way zero s = only_empty s zero (length net.places) empty where
    empty : (ps : List PlaceId) → length ps ≤ zero → FirstBelow (length net.places) ps → ps ≡ []
    empty [] k f = refl
    empty (p ∷ ps) k f = absurd (omega arith)
  best_way (suc i) s = by_place i (best_way i) (length net.places) s (omega arith)

  -- a path of fewer places that gains as much
  pub record IsShorter (n s t : ℕ) (ps : List PlaceId) : Type 0 where
    pub places : List PlaceId
    pub path : IsPathBetween net s places t
    pub inside : All Within places
    pub short : length places < n
    pub gains : reduced_time_of net a b ps ≤ℤ reduced_time_of net a b places

  module _ (n : ℕ) (e : EndsBelow net n) (end_in : (t : ℕ) → End t → t < n) (no_gain : (c : List PlaceId) → IsCircuit net c → All Within c → reduced_time_of net a b c ≤ℤ pos 0) where
    shorter : (s t : ℕ) → t < n → (ps : List PlaceId) → IsPathBetween net s ps t → All Within ps → IsShorter n s t ps
    shorter s t below ps path inside = by_loops net n s t (λ qs. All Within qs → IsShorter n s t qs) e below
        (λ qs way l all. record { places = qs; path = way; inside = all; short = l; gains = omega (arith, ints) })
        (λ qs way loop old all.
        let whole : All Within (loop.before ++ (loop.loop ++ loop.after)) = subst (λ (z : List PlaceId). All Within z) loop.is all in
        let first = all_left Within loop.before (loop.loop ++ loop.after) whole in
        let second = all_right Within loop.before (loop.loop ++ loop.after) whole in
        let round = all_left Within loop.loop loop.after second in
        let last = all_right Within loop.loop loop.after second in
        let o = old (All-append Within loop.before loop.after first last) in
        let sum : reduced_time_of net a b qs ≡ reduced_time_of net a b (loop.before ++ (loop.loop ++ loop.after)) = ap (reduced_time_of net a b) loop.is in
        let one = weight-append net a b loop.before (loop.loop ++ loop.after) in
        let two = weight-append net a b loop.loop loop.after in
        let three = weight-append net a b loop.before loop.after in
        let nought = no_gain loop.loop loop.circuit round in
        let four = o.gains in
        record { places = o.places; path = o.path; inside = o.inside; short = o.short; gains = omega (arith, ints, sum, one, two, three, nought, four) })
        ps path inside

    -- where there is a path to an end, there is a best one
    pub record IsBestOfAll (s : ℕ) : Type 0 where
      pub best : List PlaceId
      pub way : IsWay s best
      pub greatest : (ps : List PlaceId) → IsWay s ps → reduced_time_of net a b ps ≤ℤ reduced_time_of net a b best

    pub best_of_all : (s : ℕ) (ps : List PlaceId) → IsWay s ps → IsBestOfAll s
    best_of_all s ps w = ⊎_elim
        (λ (no : NoWay s n (length net.places)).
        let q = shorter s w.to (end_in w.to w.at_end) ps w.path w.inside in
        let l = q.short in
        absurd (no q.places (record { to = w.to; path = q.path; at_end = w.at_end; inside = q.inside }) (omega arith) (first_below net q.places s w.to q.path)))
        (λ (o : IsBestWay s n (length net.places)). record {
          best = o.best;
          way = o.way;
          greatest = λ qs v.
              let q = shorter s v.to (end_in v.to v.at_end) qs v.path v.inside in
              let l = q.short in
              let up = o.greatest q.places (record { to = v.to; path = q.path; at_end = v.at_end; inside = q.inside }) (omega arith) (first_below net q.places s v.to q.path) in
              let gains = q.gains in
              omega (arith, ints, up, gains);
        })
        (best_way n s)
