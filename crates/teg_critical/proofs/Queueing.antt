-- The queue of the search: what is told waits in it, and its first entry of an unsettled transition is the nearest.
use Rattle.std.proofs.Common.{ℕ, zero, suc, ◌+◌, ◌*◌, ◌<◌, ◌≤◌, ◌≡◌, ◌≢◌, Bool, true, false, List, [], ◌∷◌, length, get_or, set, take, replicate, Option}
use Rattle.std.proofs.Common.{Some, None, refl, sym, ap, subst, ◌∙◌, arith, ⊎_elim, ◌⊎◌, inl, inr}
use Rattle.std.specs.Prelude.{Contains, IsPermutation, sum_by, if◌then◌else◌}
use Rattle.std.specs.BinaryHeap.{IsHeap, IsUpperBound}
use Rattle.std.specs.Ordering.{is_lt, ordering_then}
use Rattle.std.specs.declared.cmp.Ordering.{Ordering}
use Rattle.std.specs.declared.cmp.Ordering.TheVariants.{Less, Equal, Greater}
use Rattle.std.specs.declared.cmp.Reverse.{Reverse}
use Rattle.std.proofs.lemmas.Bool.{cases_eq, cases_lt}
use Rattle.std.proofs.lemmas.List.{length-set, get_or-set_same, get_or-set_other, get_or_past, get_or-replicate, length-replicate}
use Rattle.std.proofs.lemmas.List.Elements.{All-more, All-weaker}
use Rattle.std.proofs.lemmas.List.Sums.{get_or-le-sum_by, sum_by-le}
use Rattle.std.proofs.Math.Nat.{mul-le-mul_right}
use Rattle.std.proofs.lemmas.List.Sorted.{Contains-permutation, IsPermutation-sym}
use Rattle.std.proofs.lemmas.Map.Keys.{ge_from_not_lt}
use Rattle.teg_net.specs.declared.entries.PlaceId.{PlaceId}
use Rattle.teg_net.specs.Nets.{NetLists}
use Rattle.teg_net.specs.Circuits.{from_of}
use Rattle.teg_net.specs.Parts.{to_of}
use Rattle.teg_critical.specs.declared.losses.Loss.{Loss}
use Rattle.teg_critical.specs.Losses.{most_loss, loss_at}
use Rattle.teg_critical.specs.LeastLosses.{amount_in, told_at, IsToldWithin, is_settled, Offers, IsTaken, IsRelaxed, entry, nearest_first, AreQueued}
use Rattle.teg_critical.proofs.Searching.{within_more, within_some, IsTold, within_told}
use Rattle.teg_critical.proofs.Settling.{true_false}
use Rattle.teg_critical.proofs.SearchStates.{unsettled, IsSearching, IsNearest, IsOver, IsQueueing}

abbrev Entry : Type 0
Entry = Reverse (ℕ × ℕ)

contains_cases : {X : Type 0} (xs : List X) (y x : X) → Contains (y ∷ xs) x → (y ≡ x) ⊎ Contains xs x
contains_cases xs y x h = by_index h.0 h.1 h.2 where
  by_index : (k : ℕ) → k < length (y ∷ xs) → get_or (y ∷ xs) k x ≡ x → (y ≡ x) ⊎ Contains xs x
  by_index zero l e = inl e
  by_index (suc k) l e = inr (k, omega arith, e)

contains_more : {X : Type 0} (xs : List X) (y x : X) → Contains xs x → Contains (y ∷ xs) x
contains_more xs y x h = let low = h.1 in (suc h.0, omega arith, h.2)

contains_first : {X : Type 0} (xs : List X) (x : X) → Contains (x ∷ xs) x
contains_first xs x = (0, omega arith, refl)

contains_none : {X : Type 0} (x : X) → Contains {X = X} [] x → ⊥
contains_none x h = let low = h.1 in absurd (omega arith)

first_not_lt : (a b : Ordering) → is_lt (ordering_then a b) ≡ false → is_lt a ≡ false
first_not_lt Less b e = e
first_not_lt Equal b e = refl
first_not_lt Greater b e = e

-- what is first in the queue has the least loss
first_is_least : (x : Entry) (xs : List Entry) → IsUpperBound nearest_first x xs → (e : Entry) → Contains xs e → x.0.0 ≤ e.0.0
first_is_least x [] h e c = absurd (contains_none e c)
first_is_least x (y ∷ ys) h e c =
    ⊎_elim
    (λ (q : y ≡ e). let low : x.0.0 ≤ y.0.0 = ge_from_not_lt y.0.0 x.0.0 (first_not_lt _ _ h.0) in subst (λ z. x.0.0 ≤ z.0.0) q low)
    (λ (q : Contains ys e). first_is_least x ys h.1 e q)
    (contains_cases ys y e c)

-- ---- places taken

-- no loss that is told rises
lower :
    (mid : List (Option ℕ)) (to offered t x : ℕ) → to < length mid → ((d : ℕ) → told_at mid to ≡ Some d → offered ≤ d)
    → IsToldWithin (told_at mid t) x → IsToldWithin (told_at (set mid to (Some offered)) t) x
lower mid to offered t x in' less h =
    let new : List (Option ℕ) = set mid to (Some offered) in
    ⊎_elim
    (λ (q : t ≡ to).
    let told : IsTold (told_at mid to) x = within_told (told_at mid to) x (subst (λ z. IsToldWithin (told_at mid z) x) q h) in
    let low = told.low in
    let high = less told.number told.is in
    let here : IsToldWithin (told_at new to) offered = within_some (told_at new to) offered (get_or-set_same mid to (Some offered) None in') in
    subst (λ z. IsToldWithin (told_at new z) x) (sym q) (within_more (told_at new to) offered x here (omega arith)))
    (λ (q : t ≢ to). subst (λ z. IsToldWithin z x) (sym (get_or-set_other mid to t (Some offered) None q)) h)
    (cases_eq t to)

-- a lesser loss is told and queued
pub one_queued :
    (old mid : List (Option ℕ)) (before items after : List Entry) (to offered : ℕ) → AreQueued old mid before items → to < length mid → ((d : ℕ) → told_at mid to ≡ Some d → offered ≤ d)
    → IsPermutation (entry offered to ∷ items) after → (IsHeap nearest_first items → IsHeap nearest_first after) → AreQueued old (set mid to (Some offered)) before after
one_queued old mid before items after to offered h in' less moved heap =
    let same : told_at (set mid to (Some offered)) to ≡ Some offered = get_or-set_same mid to (Some offered) None in' in
    let other = λ (t : ℕ) (q : t ≢ to). get_or-set_other mid to t (Some offered) None q in
    let still = λ (e : Entry) (c : Contains items e). Contains-permutation (entry offered to ∷ items) after e moved (contains_more items (entry offered to) e c) in
    record {
      kept = λ e c. still e (h.kept e c);
      told = λ t d e.
          ⊎_elim
          (λ (q : t ≡ to).
          let d_is : offered ≡ d = (let there : told_at (set mid to (Some offered)) to ≡ Some d = ap (told_at (set mid to (Some offered))) (sym q) ∙ e in cc) in
          let here : Contains after (entry offered to) = Contains-permutation (entry offered to ∷ items) after (entry offered to) moved (contains_first items (entry offered to)) in
          inr (subst (λ z. Contains after (entry z t)) d_is (subst (λ z. Contains after (entry offered z)) (sym q) here)))
          (λ (q : t ≢ to). ⊎_elim (λ o. inl o) (λ c. inr (still (entry d t) c)) (h.told t d (sym (other t q) ∙ e)))
          (cases_eq t to);
      sound = λ e c.
          ⊎_elim
          (λ (q : entry offered to ≡ e). inr (subst (λ z. IsToldWithin (told_at (set mid to (Some offered)) z.0.1) z.0.0) q (within_some (told_at (set mid to (Some offered)) to) offered same)))
          (λ (q : Contains items e). ⊎_elim (λ o. inl o) (λ w. inr (lower mid to offered e.0.1 e.0.0 in' less w)) (h.sound e q))
          (contains_cases items (entry offered to) e (Contains-permutation after (entry offered to ∷ items) e (IsPermutation-sym _ _ moved) c));
      heap = λ was. heap (h.heap was);
    }

module _ {net : NetLists} {losses : List (Option Loss)} {a base : ℕ} (places : List PlaceId) (k : ℕ) {old mid : List (Option ℕ)} (p : PlaceId)
    (h : IsRelaxed net losses a base (take k places) old mid) (l : k < length places) (is : p ≡ get_or places k p) where
  -- the place at k has no loss, or offers no less than is told
  pub place_past : IsTaken net losses base mid p → IsRelaxed net losses a base (take (k + 1) places) old mid
  place_past here = record {
    count = h.count;
    taken = All-more (IsTaken net losses base mid) places k p l h.taken (subst (IsTaken net losses base mid) is here);
    lowered = h.lowered;
    by_place = h.by_place;
  }

  -- or it offers less, which is told
  pub place_taken : (to offered : ℕ) → Offers net losses a base p to offered → to < length mid → ((d : ℕ) → told_at mid to ≡ Some d → offered ≤ d)
      → IsRelaxed net losses a base (take (k + 1) places) old (set mid to (Some offered))
  place_taken to offered offer in' less =
      let new : List (Option ℕ) = set mid to (Some offered) in
      let same : told_at new to ≡ Some offered = get_or-set_same mid to (Some offered) None in' in
      let Taken : PlaceId → Type 0 = IsTaken net losses base new in
      let sum = offer.sum in
      let here : Taken p = λ some. subst (λ z. IsToldWithin (told_at new z) (base + amount_in (loss_at losses p))) (sym offer.to)
      (within_more (told_at new to) offered (base + amount_in (loss_at losses p)) (within_some (told_at new to) offered same) (omega arith)) in
      let lowers : (q : PlaceId) → IsTaken net losses base mid q → Taken q = λ q w some. lower mid to offered (to_of net q) (base + amount_in (loss_at losses q)) in' less (w some) in
      record {
        count = length-set mid to (Some offered) ∙ h.count;
        taken = All-more Taken places k p l (All-weaker (IsTaken net losses base mid) Taken lowers (take k places) h.taken) (subst Taken is here);
        lowered = λ t x w. lower mid to offered t x in' less (h.lowered t x w);
        by_place = λ t d e. ⊎_elim
            (λ (q : t ≡ to).
            let d_is : offered ≡ d = (let there : told_at new to ≡ Some d = ap (told_at new) (sym q) ∙ e in cc) in
            inr (p, subst (λ z. Offers net losses a base p z d) (sym q) (subst (Offers net losses a base p to) d_is offer)))
            (λ (q : t ≢ to). h.by_place t d (sym (get_or-set_other mid to t (Some offered) None q) ∙ e))
            (cases_eq t to);
      }

-- ---- the search

-- what is told is told of a transition of the list
told_in : (least : List (Option ℕ)) (t x : ℕ) → IsToldWithin (told_at least t) x → t < length least
told_in least t x h = ⊎_elim
    (λ (l : t < length least). l)
    (λ (l : length least ≤ t). absurd (subst (λ z. IsToldWithin z x) (get_or_past least t None l) h))
    (cases_lt t (length least))

-- nothing is told and none is settled
none_told : (n u : ℕ) → get_or (replicate {A = Option ℕ} n None) u None ≡ None
none_told n u = ⊎_elim
    (λ (low : u < n). get_or-replicate n u None None low)
    (λ (high : n ≤ u). get_or_past (replicate n None) u None (omega (arith, length-replicate {A = Option ℕ} n None)))
    (cases_lt u n)

some_none : (d : ℕ) → Some d ≡ None → ⊥
some_none d e = cc

one_or_none : (b : Bool) → (if b then 0 else 1) ≤ 1
one_or_none true = omega arith
one_or_none false = omega arith

-- one transition is told nothing lost
pub search_begins :
    (net : NetLists) (losses : List (Option Loss)) (start : ℕ) (none : List (Option ℕ)) (settled : List Bool) (n : ℕ)
    → none ≡ replicate n None → settled ≡ replicate n false → n ≡ length net.transitions → start < n
    → IsSearching net losses start (set none start (Some 0)) settled
search_begins net losses start none settled n is all_open n_is l =
    let least : List (Option ℕ) = set none start (Some 0) in
    let long : length none ≡ n = ap length is ∙ length-replicate {A = Option ℕ} n None in
    let marks : length settled ≡ n = ap length all_open ∙ length-replicate {A = Bool} n false in
    let here : told_at least start ≡ Some 0 = get_or-set_same none start (Some 0) None (omega arith) in
    let only : (t d : ℕ) → told_at least t ≡ Some d → (start ≡ t) × (0 ≡ d) = λ t d e.
    ⊎_elim
    (λ (q : t ≡ start). let there : told_at least start ≡ Some d = ap (told_at least) (sym q) ∙ e in (sym q, cc))
    (λ (q : t ≢ start).
    let other : told_at least t ≡ get_or none t None = get_or-set_other none start t (Some 0) None q in
    let nought : get_or none t None ≡ None = ap (λ z. get_or z t None) is ∙ none_told n t in
    absurd (some_none d (sym e ∙ (other ∙ nought))))
    (cases_eq t start) in
    let opened : (t : ℕ) → t < n → is_settled settled t ≡ true → ⊥ = λ t m e.
    true_false (is_settled settled t) e (ap (λ z. is_settled z t) all_open ∙ get_or-replicate n t false true m) in
    let few : unsettled settled ≤ length settled = (let most = sum_by-le (λ (z : Bool). if z then 0 else 1) 1 settled (λ i d m. one_or_none (get_or settled i d)) in omega arith) in
    let most : unsettled settled * most_loss ≤ length settled * most_loss = mul-le-mul_right {m = unsettled settled} {n = length settled} most_loss few in
    record {
      count = length-set none start (Some 0) ∙ (long ∙ n_is);
      marks = marks ∙ n_is;
      begins = within_some (told_at least start) 0 here;
      sound = λ t d e. let one = only t d e in ([], record { path = one.0; along = λ i q m. absurd (omega arith) }, one.1);
      before = λ t u d m e f g. absurd (opened t (omega arith) e);
      taken = λ p d m some e g. let one = only (from_of net p) d g in absurd (opened (from_of net p) (subst (λ z. z < n) one.0 l) e);
      small = λ t d e. let one = only t d e in let zero_is = one.1 in omega arith;
    }

-- and is queued
pub queue_begins :
    (net : NetLists) (losses : List (Option Loss)) (start : ℕ) (none : List (Option ℕ)) (settled : List Bool) (n : ℕ)
    (empty queue : List Entry) → IsSearching net losses start (set none start (Some 0)) settled
    → none ≡ replicate n None → start < n → empty ≡ [] → IsPermutation (entry 0 start ∷ empty) queue → IsHeap nearest_first queue
    → IsQueueing net losses start (set none start (Some 0)) settled queue
queue_begins net losses start none settled n empty queue searching is l nothing moved heap =
    let least : List (Option ℕ) = set none start (Some 0) in
    let whole : IsPermutation (entry 0 start ∷ []) queue = subst (λ z. IsPermutation (entry 0 start ∷ z) queue) nothing moved in
    let long : length none ≡ n = ap length is ∙ length-replicate {A = Option ℕ} n None in
    let here : told_at least start ≡ Some 0 = get_or-set_same none start (Some 0) None (omega arith) in
    let only : (e : Entry) → Contains queue e → entry 0 start ≡ e = λ e c.
    ⊎_elim (λ q. q) (λ q. absurd (contains_none e q)) (contains_cases [] (entry 0 start) e (Contains-permutation queue (entry 0 start ∷ []) e (IsPermutation-sym _ _ whole) c)) in
    record {
      searching = searching;
      heap = heap;
      sound = λ e c. subst (λ z. IsToldWithin (told_at least z.0.1) z.0.0) (only e c) searching.begins;
      waits = λ u d opened told.
          ⊎_elim
          (λ (q : u ≡ start).
          let zero_is : 0 ≡ d = (let there : told_at least start ≡ Some d = ap (told_at least) (sym q) ∙ told in cc) in
          let mine : Contains queue (entry 0 start) = Contains-permutation (entry 0 start ∷ []) queue (entry 0 start) whole (contains_first [] (entry 0 start)) in
          subst (λ z. Contains queue (entry z u)) zero_is (subst (λ z. Contains queue (entry 0 z)) (sym q) mine))
          (λ (q : u ≢ start).
          let other : told_at least u ≡ get_or none u None = get_or-set_other none start u (Some 0) None q in
          let nought : get_or none u None ≡ None = ap (λ z. get_or z u None) is ∙ none_told n u in
          absurd (some_none d (sym told ∙ (other ∙ nought))))
          (cases_eq u start);
    }

module _ {net : NetLists} {losses : List (Option Loss)} {start : ℕ} {least : List (Option ℕ)} {settled : List Bool} {first : Entry}
    {queue rest : List Entry} (h : IsQueueing net losses start least settled queue)
    (moved : IsPermutation queue (first ∷ rest)) where
  -- the other entries
  elsewhere : (u d : ℕ) → u ≢ first.0.1 → Contains queue (entry d u) → Contains rest (entry d u)
  elsewhere u d apart c = ⊎_elim
      (λ (q : first ≡ entry d u). absurd (apart (ap (λ z. z.0.1) (sym q))))
      (λ (q : Contains rest (entry d u)). q)
      (contains_cases rest first (entry d u) (Contains-permutation queue (first ∷ rest) (entry d u) moved c))

  of_queue : (e : Entry) → Contains rest e → Contains queue e
  of_queue e c = Contains-permutation (first ∷ rest) queue e (IsPermutation-sym _ _ moved) (contains_more rest first e c)

  pub first_told : IsToldWithin (told_at least first.0.1) first.0.0
  first_told = h.sound first (Contains-permutation (first ∷ rest) queue first (IsPermutation-sym _ _ moved) (contains_first rest first))

  pub first_in : first.0.1 < length net.transitions
  first_in = let l = told_in least first.0.1 first.0.0 first_told in let count = h.searching.count in omega arith

  -- an entry of a settled transition is passed over
  pub passed_over : is_settled settled first.0.1 ≡ true → IsHeap nearest_first rest → IsQueueing net losses start least settled rest
  passed_over done heap = record {
    searching = h.searching;
    heap = heap;
    sound = λ e c. h.sound e (of_queue e c);
    waits = λ u d opened told. elsewhere u d (λ q. true_false (is_settled settled first.0.1) done (ap (is_settled settled) (sym q) ∙ opened)) (h.waits u d opened told);
  }

  -- that of an unsettled one is the nearest
  no_nearer : IsUpperBound nearest_first first rest → (u d : ℕ) → is_settled settled u ≡ false → told_at least u ≡ Some d → first.0.0 ≤ d
  no_nearer top u d opened told = ⊎_elim
      (λ (q : first ≡ entry d u). let same : first.0.0 ≡ d = ap (λ z. z.0.0) q in omega arith)
      (λ (q : Contains rest (entry d u)). first_is_least first rest top (entry d u) q)
      (contains_cases rest first (entry d u) (Contains-permutation queue (first ∷ rest) (entry d u) moved (h.waits u d opened told)))

  pub is_nearest : is_settled settled first.0.1 ≡ false → first.0.1 < length settled → IsUpperBound nearest_first first rest → IsNearest least settled first.0.1 first.0.0
  is_nearest opened in' top =
      let told : IsTold (told_at least first.0.1) first.0.0 = within_told (told_at least first.0.1) first.0.0 first_told in
      let low = told.low in
      let high = no_nearer top first.0.1 told.number opened told.is in
      let same : told.number ≡ first.0.0 = omega arith in
      record {
        in_range = in';
        open_ = opened;
        told = told.is ∙ ap (λ z. Some z) same;
        no_nearer = no_nearer top;
      }

  -- it is settled, and the places that leave it are taken
  pub goes_on :
      {a : ℕ} {places : List PlaceId} {new : List (Option ℕ)} {after : List Entry} → first.0.1 < length settled → IsRelaxed net losses a first.0.0 places least new → AreQueued least new rest after
      → IsHeap nearest_first rest → IsSearching net losses start new (set settled first.0.1 true) → IsQueueing net losses start new (set settled first.0.1 true) after
  goes_on in' relaxed queued heap searching =
      let at : ℕ = first.0.1 in
      let apart : (u : ℕ) → is_settled (set settled at true) u ≡ false → u ≢ at =
      λ u opened q. true_false (is_settled (set settled at true) at) (get_or-set_same settled at true true in') (ap (is_settled (set settled at true)) (sym q) ∙ opened) in
      record {
        searching = searching;
        heap = queued.heap heap;
        sound = λ e c. ⊎_elim
            (λ (q : Contains rest e). relaxed.lowered e.0.1 e.0.0 (h.sound e (of_queue e q)))
            (λ q. q)
            (queued.sound e c);
        waits = λ u d opened told. ⊎_elim
            (λ (was : told_at least u ≡ Some d).
            let open_before : is_settled settled u ≡ false = sym (get_or-set_other settled at u true true (apart u opened)) ∙ opened in
            queued.kept (entry d u) (elsewhere u d (apart u opened) (h.waits u d open_before was)))
            (λ c. c)
            (queued.told u d told);
      }

-- an empty queue ends it
pub queue_over : {net : NetLists} {losses : List (Option Loss)} {start : ℕ} {least : List (Option ℕ)} {settled : List Bool} → IsQueueing net losses start least settled [] → IsOver least settled
queue_over {net} {losses} {start} {least} {settled} h u opened = by_told (told_at least u) refl where
  by_told : (o : Option ℕ) → told_at least u ≡ o → told_at least u ≡ None
  by_told None e = e
  by_told (Some d) e = absurd (contains_none (entry d u) (h.waits u d opened e))

-- how much is left: the queue, and what unsettled transitions may add to it
abbrev pub left : List Bool → List (List PlaceId) → ℕ → ℕ
left settled lists queued = unsettled settled * (sum_by length lists + 1) + queued

pub less_left :
    (settled marks : List Bool) (lists : List (List PlaceId)) (at queued rest after : ℕ) → at < length lists → unsettled marks + 1 ≡ unsettled settled
    → rest + 1 ≡ queued → after ≤ rest + length (get_or lists at []) → left marks lists after < left settled lists queued
less_left settled marks lists at queued rest after l fewer popped few =
    let most : length (get_or lists at []) ≤ sum_by length lists = get_or-le-sum_by length lists at [] l in
    let product : unsettled settled * (sum_by length lists + 1) ≡ unsettled marks * (sum_by length lists + 1) + (sum_by length lists + 1) =
    ap (λ z. z * (sum_by length lists + 1)) (sym fewer) ∙ one_more_times (unsettled marks) (sum_by length lists + 1) in
    omega arith where
      one_more_times : (a b : ℕ) → (a + 1) * b ≡ a * b + b
      one_more_times a b = grind arith
