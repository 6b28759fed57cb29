-- Paths put together, and a search along places: what it has marked is led to, and closed but for what waits.
use Rattle.std.proofs.Common.{ℕ, ◌<◌, ◌≤◌, ◌≡◌, List, [], ◌∷◌, ◌++◌, Bool, true, false, length, get_or, set, refl, sym, ap, subst, ◌∙◌, arith, inl, inr, ⊎_elim}
use Rattle.std.specs.Prelude.{◌⊎◌, Contains}
use Rattle.std.proofs.lemmas.Bool.{cases_lt}
use Rattle.std.proofs.lemmas.List.{get_or-set_same, length-set, length_push, get_or_push, get_or_append_left, length-replicate, nil_from_length}
use Rattle.std.proofs.lemmas.List.Elements.{Contains-push_cases}
use lib.ListN.{replicate}
use Rattle.teg_net.specs.declared.entries.PlaceId.{PlaceId}
use Rattle.teg_net.specs.Nets.{NetLists, IsNet}
use Rattle.teg_net.specs.Circuits.{no_place, from_of, IsPathBetween}
use Rattle.teg_net.specs.Parts.{Reaches, to_of}
use Rattle.teg_net.proofs.PathLaws.{IsPathBetween-append}
use Rattle.teg_net.specs.declared.places_of.PlaceEnd.{PlaceEnd}
use Rattle.teg_net.specs.declared.places_of.PlaceEnd.TheVariants.{From, To}
use Rattle.teg_parts.specs.PlacesAlong.{near_of, far_of, Leads, AddsPlacesAlong}
use Rattle.teg_parts.specs.Components.{IsMarked, AreReachedMarks}
use Rattle.teg_parts.proofs.Marks.{flag_past, false_not_true, set_flag, set_flag_before}

-- ---- paths
pub reaches_itself : (net : NetLists) (a : ℕ) → Reaches net a a
reaches_itself net a = ([], refl)

pub reaches_on : (net : NetLists) (a b c : ℕ) → Reaches net a b → Reaches net b c → Reaches net a c
reaches_on net a b c (ps, h) (qs, k) = (ps ++ qs, IsPathBetween-append net ps qs a b c h k)

pub reaches_by : (net : NetLists) (p : PlaceId) → p.index < length net.places → Reaches net (from_of net p) (to_of net p)
reaches_by net p l = (p ∷ [], (l, refl, refl))

leads_itself : (net : NetLists) (near : PlaceEnd) (a : ℕ) → Leads net near a a
leads_itself net From a = reaches_itself net a
leads_itself net To a = reaches_itself net a

-- one place further
leads_on : (net : NetLists) (near : PlaceEnd) (a : ℕ) (p : PlaceId) → p.index < length net.places → Leads net near a (near_of near net p) → Leads net near a (far_of near net p)
leads_on net From a p l h = reaches_on net a (from_of net p) (to_of net p) h (reaches_by net p l)
leads_on net To a p l h = reaches_on net (from_of net p) (to_of net p) a (reaches_by net p l) h

pub far_in_net : (net : NetLists) (near : PlaceEnd) → IsNet net → (p : PlaceId) → p.index < length net.places → far_of near net p < length net.transitions
far_in_net net From kept p l = (kept.each_place p.index no_place l).to_in
far_in_net net To kept p l = (kept.each_place p.index no_place l).from_in

-- ---- a search
-- the place is one of the net, and one goes off along it from a marked transition
abbrev pub IsWaiting : NetLists → PlaceEnd → List Bool → PlaceId → Type 0
IsWaiting net near marks p = (p.index < length net.places) × IsMarked marks (near_of near net p)

-- what is marked so far is led to from start, and closed but for the places that wait
pub record IsSearch (net : NetLists) (near : PlaceEnd) (start : ℕ) (marks : List Bool) (agenda : List PlaceId) : Type 0 where
  pub count : length marks ≡ length net.transitions
  pub begun : IsMarked marks start
  pub led : (t : ℕ) → IsMarked marks t → Leads net near start t
  pub waiting : (k : ℕ) (d : PlaceId) → k < length agenda → IsWaiting net near marks (get_or agenda k d)
  pub closed : (p : PlaceId) → IsWaiting net near marks p → Contains agenda p ⊎ IsMarked marks (far_of near net p)

module _ {net : NetLists} {near : PlaceEnd} {start : ℕ} where
  -- a transition to which a path goes is marked, and the places from there are listed
  module _ (marks : List Bool) (ag ag' : List PlaceId) (t : ℕ) (count : length marks ≡ length net.transitions) (t_in : t < length net.transitions)
      (led : (u : ℕ) → IsMarked marks u → Leads net near start u) (to_t : Leads net near start t) (begun : IsMarked marks start ⊎ (start ≡ t))
      (waiting : (k : ℕ) (d : PlaceId) → k < length ag → IsWaiting net near marks (get_or ag k d))
      (closed : (p : PlaceId) → IsWaiting net near marks p → Contains ag p ⊎ (IsMarked marks (far_of near net p) ⊎ (far_of near net p ≡ t)))
      (adds : AddsPlacesAlong net near t ag ag') where
    abbrev marks' : List Bool
    marks' = set marks t true

    in_marks : t < length marks
    in_marks = omega arith

    here : (u : ℕ) → u ≡ t → IsMarked marks' u
    here u e = subst (IsMarked marks') (sym e) (get_or-set_same marks t true false in_marks)

    still : (u : ℕ) → IsMarked marks u → IsMarked marks' u
    still u m = set_flag marks t u in_marks m

    pub entered : IsSearch net near start marks' ag'
    entered = record {
      count = length-set marks t true ∙ count;
      begun = ⊎_elim (λ (m : IsMarked marks start). still start m) (λ (e : start ≡ t). here start e) begun;
      led = λ u m. ⊎_elim (λ (e : u ≡ t). subst (Leads net near start) (sym e) to_t) (λ (b : IsMarked marks u). led u b) (set_flag_before marks t u m);
      waiting = λ k d l.
          ⊎_elim
          (λ (q : k < length ag). let w = waiting k d q in subst (IsWaiting net near marks') (sym (adds.kept k d q)) (w.0, still (near_of near net (get_or ag k d)) w.1))
          (λ (q : length ag ≤ k). let e = adds.each k d q l in (e.0, here (near_of near net (get_or ag' k d)) e.1))
          (cases_lt k (length ag));
      closed = λ p w.
          ⊎_elim
          (λ (e : near_of near net p ≡ t). let a = adds.all p w.0 e in inl (a.0, a.2, a.3))
          (λ (b : IsMarked marks (near_of near net p)).
          ⊎_elim
          (λ (c : Contains ag p). let l = c.1 in let more = adds.longer in inl (c.0, omega arith, adds.kept c.0 p c.1 ∙ c.2))
          (λ (f : IsMarked marks (far_of near net p) ⊎ (far_of near net p ≡ t)).
          inr (⊎_elim (λ (m : IsMarked marks (far_of near net p)). still (far_of near net p) m) (λ (e : far_of near net p ≡ t). here (far_of near net p) e) f))
          (closed p (w.0, b)))
          (set_flag_before marks t (near_of near net p) w.1);
    }

  pub search_start : (n : ℕ) (ag : List PlaceId) → n ≡ length net.transitions → start < length net.transitions
      → AddsPlacesAlong net near start [] ag → IsSearch net near start (set (replicate n false) start true) ag
  search_start n ag e l adds =
      let long = length-replicate n false in
      entered (replicate n false) [] ag start (omega arith) l
      (λ u m. absurd (false_not_true (get_or (replicate n false) u false) (flag_past n u) m))
      (leads_itself net near start)
      (inr refl)
      (λ k d m. absurd (omega arith))
      (λ p w. absurd (false_not_true (get_or (replicate n false) (near_of near net p) false) (flag_past n (near_of near net p)) w.1))
      adds

  -- the last place of the list is taken up
  module _ {marks : List Bool} {agenda : List PlaceId} (rest : List PlaceId) (p : PlaceId) (is : agenda ≡ rest ++ p ∷ []) (before : IsSearch net near start marks agenda) where
    h : IsSearch net near start marks (rest ++ p ∷ [])
    h = subst (IsSearch net near start marks) is before

    waits : (k : ℕ) (d : PlaceId) → k < length rest → IsWaiting net near marks (get_or rest k d)
    waits k d l = let long = length_push rest p in subst (IsWaiting net near marks) (get_or_append_left rest (p ∷ []) d k l) (h.waiting k d (omega arith))

    pub taken_up : IsWaiting net near marks p
    taken_up =
        let long = length_push rest p in
        let last : get_or (rest ++ p ∷ []) (length rest) p ≡ p = get_or_push rest p p (length rest) refl in
        subst (IsWaiting net near marks) last (h.waiting (length rest) p (omega arith))

    -- each other place waits still, or leads to a mark
    others : (q : PlaceId) → IsWaiting net near marks q → Contains rest q ⊎ (IsMarked marks (far_of near net q) ⊎ (far_of near net q ≡ far_of near net p))
    others q w =
        ⊎_elim
        (λ (c : Contains (rest ++ p ∷ []) q).
        ⊎_elim
        (λ (r : Contains rest q). inl r)
        (λ (e : p ≡ q). inr (inr (ap (far_of near net) (sym e))))
        (Contains-push_cases rest p q c))
        (λ (m : IsMarked marks (far_of near net q)). inr (inl m))
        (h.closed q w)

    -- it leads to a mark
    pub passed_over : IsMarked marks (far_of near net p) → IsSearch net near start marks rest
    passed_over m = record {
      count = h.count;
      begun = h.begun;
      led = h.led;
      waiting = waits;
      closed = λ q w.
          ⊎_elim
          (λ (c : Contains rest q). inl c)
          (λ (f : IsMarked marks (far_of near net q) ⊎ (far_of near net q ≡ far_of near net p)).
          inr (⊎_elim (λ (b : IsMarked marks (far_of near net q)). b) (λ (e : far_of near net q ≡ far_of near net p). subst (IsMarked marks) (sym e) m) f))
          (others q w);
    }

    -- its end is marked
    pub gone_along : (ag : List PlaceId) → far_of near net p < length net.transitions
        → AddsPlacesAlong net near (far_of near net p) rest ag → IsSearch net near start (set marks (far_of near net p) true) ag
    gone_along ag l adds =
        entered marks rest ag (far_of near net p) h.count l h.led (leads_on net near start p taken_up.0 (h.led (near_of near net p) taken_up.1)) (inl h.begun) waits others adds

-- where nothing waits, what a marked transition reaches is marked
onward_marked : (net : NetLists) (start : ℕ) (marks : List Bool) → IsSearch net From start marks [] → (ps : List PlaceId) (a b : ℕ) → IsPathBetween net a ps b → IsMarked marks a → IsMarked marks b
onward_marked net start marks h [] a b e m = subst (IsMarked marks) e m
onward_marked net start marks h (p ∷ ps) a b path m =
    onward_marked net start marks h ps (to_of net p) b path.2
    (⊎_elim
    (λ (c : Contains [] p). let l = c.1 in absurd (omega arith))
    (λ (f : IsMarked marks (to_of net p)). f)
    (h.closed p (path.0, subst (IsMarked marks) (sym path.1) m)))

back_marked : (net : NetLists) (start : ℕ) (marks : List Bool) → IsSearch net To start marks [] → (ps : List PlaceId) (a b : ℕ) → IsPathBetween net a ps b → IsMarked marks b → IsMarked marks a
back_marked net start marks h [] a b e m = subst (IsMarked marks) (sym e) m
back_marked net start marks h (p ∷ ps) a b path m =
    subst (IsMarked marks) path.1
    (⊎_elim
    (λ (c : Contains [] p). let l = c.1 in absurd (omega arith))
    (λ (f : IsMarked marks (from_of net p)). f)
    (h.closed p (path.0, back_marked net start marks h ps (to_of net p) b path.2 m)))

all_marked : (net : NetLists) (near : PlaceEnd) (start : ℕ) (marks : List Bool) → IsSearch net near start marks [] → (t : ℕ) → Leads net near start t → IsMarked marks t
all_marked net From start marks h t (ps, path) = onward_marked net start marks h ps start t path h.begun
all_marked net To start marks h t (ps, path) = back_marked net start marks h ps t start path h.begun

pub search_over : (net : NetLists) (near : PlaceEnd) (start : ℕ) (marks : List Bool) (ag : List PlaceId) → length ag ≡ 0 → IsSearch net near start marks ag → AreReachedMarks net near start marks
search_over net near start marks ag e h =
    let over : IsSearch net near start marks [] = subst (IsSearch net near start marks) (nil_from_length ag e) h in
    record { count = h.count; exact = λ t. (h.led t, all_marked net near start marks over t) }
