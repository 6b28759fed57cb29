-- What holds of transitions that are reached place by place, and of the path that leads back from one.
use Rattle.std.proofs.Common.{ℕ, zero, suc, ◌+◌, ◌<◌, ◌≤◌, ◌≡◌, ◌≢◌, Bool, true, false, List, [], ◌∷◌, length, get_or, set, replicate, Option, Some, None, refl, sym, ap, subst, ◌∙◌, arith, ⊎_elim}
use Rattle.std.specs.Prelude.{All, AllPairs, IsSome}
use Rattle.std.proofs.lemmas.Bool.{cases_eq, false≢true}
use Rattle.std.proofs.lemmas.List.Sums.{sum_by-cons, sum_by-set}
use Rattle.std.proofs.lemmas.List.{length-set, get_or-set_same, get_or-set_other, get_or-replicate, length-replicate}
use Rattle.teg_net.specs.declared.entries.PlaceId.{PlaceId}
use Rattle.teg_net.specs.Nets.{NetLists, IsNet, IsPlaceOf}
use Rattle.teg_net.specs.Circuits.{no_place, place_at, from_of, IsPathBetween, IsCircuit}
use Rattle.teg_net.specs.Parts.{to_of}
use Rattle.teg_net.proofs.Reading.{same_id}
use Rattle.teg_loops.specs.Loops.{IsStraight}
use Rattle.teg_loops.proofs.Through.{closes}
use Rattle.teg_critical.specs.declared.hops.Hop.{Hop}
use Rattle.teg_critical.specs.Hops.{hop_at, IsUsable, IsHopSmall, IsHopOn, AreHops, AreClosed, IsReachedNow, IsPassed, open_in, open_count}

-- what is told is one thing
same_hop : (o : Option Hop) (x y : Hop) → o ≡ Some x → o ≡ Some y → x ≡ y
same_hop o x y e f = (let h : Some x ≡ Some y = sym e ∙ f in cc)

apart_hop : {P : Type 0} (o : Option Hop) (x : Hop) → o ≡ Some x → o ≡ None → P
apart_hop o x e f = absurd (let h : Some x ≡ None = sym e ∙ f in let no : ⊥ = cc in no)

pub hop_of : (o : Option Hop) → IsSome o → (h : Hop) × (o ≡ Some h)
hop_of None s = absurd (false≢true s)
hop_of (Some h) s = (h, refl)

pub some_hop : (o : Option Hop) (h : Hop) → o ≡ Some h → IsSome o
some_hop o h e = subst IsSome (sym e) refl

-- one fewer where one is reached
one_fewer : (hops : List (Option Hop)) (t : ℕ) (h : Hop) → t < length hops → hop_at hops t ≡ None → open_count (set hops t (Some h)) + 1 ≡ open_count hops
one_fewer hops t h l e =
    let s = sum_by-set open_in hops t (Some h) None l in
    let one : open_in (hop_at hops t) ≡ 1 = ap open_in e in
    omega (arith, s, one)

open_none : (n : ℕ) → open_count (replicate n None) ≡ n
open_none zero = refl
open_none (suc n) = let rest = open_none n in let s = sum_by-cons open_in None (replicate n None) in omega (arith, rest, s)

-- the count of the transition, 0 where it is not reached
abbrev pub count_in : Option Hop → ℕ
count_in None = 0
count_in (Some h) = h.count

abbrev pub count_of : List (Option Hop) → ℕ → ℕ
count_of hops t = count_in (hop_at hops t)

-- so far back from the end along a straight path
pub record IsTraced (net : NetLists) (usable : List Bool) (hops : List (Option Hop)) (end at : ℕ) (ps : List PlaceId) : Type 0 where
  pub reached : IsSome (hop_at hops at)
  pub at_in : at < length hops
  pub straight : IsStraight net at ps end
  pub may : All (IsUsable usable) ps
  pub above : All (λ q. count_of hops at ≤ count_of hops (from_of net q)) ps
  pub low : count_of hops at ≤ count_of hops end
  pub below : All (λ q. count_of hops (from_of net q) < count_of hops end) ps

module _ (net : NetLists) (usable : List Bool) (first : PlaceId) where
  -- the end of the first place is reached
  pub hops_begin : (hops new : List (Option Hop)) → hops ≡ replicate (length net.transitions) None → to_of net first < length net.transitions
      → new ≡ set hops (to_of net first) (Some (record { count = 0; last = first })) → AreHops net usable first new
  hops_begin hops new none l is =
      let own : Hop = record { count = 0; last = first } in
      let long : length hops ≡ length net.transitions = ap length none ∙ length-replicate {A = Option Hop} (length net.transitions) None in
      let in' : to_of net first < length hops = omega (arith, long, l) in
      let here : hop_at new (to_of net first) ≡ Some own = ap (λ (z : List (Option Hop)). get_or z (to_of net first) None) is ∙ get_or-set_same hops (to_of net first) (Some own) None in' in
      let before : (t : ℕ) → t < length net.transitions → hop_at hops t ≡ None = (λ t m. ap (λ (z : List (Option Hop)). get_or z t None)
      none ∙ get_or-replicate (length net.transitions) t None None m) in
      let few : open_count hops ≡ length net.transitions = ap open_count none ∙ open_none (length net.transitions) in
      let one = one_fewer hops (to_of net first) own in' (before (to_of net first) l) in
      let fewer : open_count new + 1 ≡ length net.transitions = ap (λ (z : List (Option Hop)). open_count z + 1) is ∙ one ∙ few in
      let count : length new ≡ length net.transitions = (ap length is ∙ length-set hops (to_of net first) (Some own)) ∙ long in
      record {
        count = count;
        start = some_hop (hop_at new (to_of net first)) own here;
        each = λ t h e. ⊎_elim
            (λ (same : t ≡ to_of net first).
            let is_own : own ≡ h = same_hop (hop_at new t) own h (ap (hop_at new) same ∙ here) e in
            let none_yet : 0 ≡ h.count = ap (λ (z : Hop). z.count) is_own in
            record { begins = λ _. same; on = λ some. absurd (omega (arith, some, none_yet)); small = omega (arith, none_yet, fewer, count) })
            (λ (ne : t ≢ to_of net first). apart_hop (hop_at new t) h e (
            let other : hop_at new t ≡ hop_at hops t = ap (λ (z : List (Option Hop)). get_or z t None) is ∙ get_or-set_other hops (to_of net first) t (Some own) None ne in
            other ∙ (ap (λ (z : List (Option Hop)). get_or z t None) none ∙ all_none (length net.transitions) t)))
            (cases_eq t (to_of net first));
      } where
        all_none : (n t : ℕ) → hop_at (replicate n None) t ≡ None
        all_none zero t = refl
        all_none (suc n) zero = refl
        all_none (suc n) (suc t) = all_none n t

  module _ (hops : List (Option Hop)) (are : AreHops net usable first hops) where
    pub hop_small : (t : ℕ) → IsHopSmall hops t
    hop_small t h e = let s = (are.each t h e).small in omega (arith, s)

    -- one transition more is reached
    module _ (q : PlaceId) (l : q.index < length net.places) (to_in : to_of net q < length net.transitions) (may : IsUsable usable q) (new : List (Option Hop))
        (now : IsReachedNow q (place_at net q) hops new) where
      abbrev own : Hop
      own = record { count = now.before.count + 1; last = q }

      in_hops : to_of net q < length hops
      in_hops = let c = are.count in omega (arith, c, to_in)

      read_own : hop_at new (to_of net q) ≡ Some own
      read_own = ap (λ (z : List (Option Hop)). get_or z (to_of net q) None) now.is ∙ get_or-set_same hops (to_of net q) (Some own) None in_hops

      read_other : (t : ℕ) → t ≢ to_of net q → hop_at new t ≡ hop_at hops t
      read_other t ne = ap (λ (z : List (Option Hop)). get_or z t None) now.is ∙ get_or-set_other hops (to_of net q) t (Some own) None ne

      -- what was told still is
      still : (t : ℕ) (h : Hop) → hop_at hops t ≡ Some h → hop_at new t ≡ Some h
      still t h e = ⊎_elim
          (λ (same : t ≡ to_of net q). apart_hop (hop_at hops t) h e (ap (hop_at hops) same ∙ now.unreached))
          (λ (ne : t ≢ to_of net q). read_other t ne ∙ e)
          (cases_eq t (to_of net q))

      fewer : open_count new + 1 ≡ open_count hops
      fewer = ap (λ (z : List (Option Hop)). open_count z + 1) now.is ∙ one_fewer hops (to_of net q) own in_hops now.unreached

      pub reached_fewer : open_count new < open_count hops
      reached_fewer = let f = fewer in omega (arith, f)

      pub hops_more : AreHops net usable first new
      hops_more =
          let long : length new ≡ length hops = ap length now.is ∙ length-set hops (to_of net q) (Some own) in
          record {
            count = long ∙ are.count;
            start = (let s = hop_of (hop_at hops (to_of net first)) are.start in some_hop (hop_at new (to_of net first)) s.0 (still (to_of net first) s.0 s.1));
            each = λ t h e. ⊎_elim
                (λ (same : t ≡ to_of net q).
                let is_own : own ≡ h = same_hop (hop_at new t) own h (ap (hop_at new) same ∙ read_own) e in
                let count : now.before.count + 1 ≡ h.count = ap (λ (z : Hop). z.count) is_own in
                let last : q ≡ h.last = ap (λ (z : Hop). z.last) is_own in
                let was = (are.each (from_of net q) now.before now.from).small in
                let f = fewer in
                record {
                  begins = λ none. absurd (omega (arith, none, count));
                  on = λ _. subst (λ (z : PlaceId). IsHopOn net usable new t (record { count = h.count; last = z })) last (record {
                    in_range = l;
                    may = may;
                    to = sym same;
                    before = now.before;
                    told = still (from_of net q) now.before now.from;
                    count = sym count;
                  });
                  small = omega (arith, was, f, count, long);
                })
                (λ (ne : t ≢ to_of net q).
                let old : hop_at hops t ≡ Some h = sym (read_other t ne) ∙ e in
                let was = are.each t h old in
                let f = fewer in
                let s = was.small in
                record {
                  begins = was.begins;
                  on = λ some. (let on = was.on some in record {
                    in_range = on.in_range;
                    may = on.may;
                    to = on.to;
                    before = on.before;
                    told = still (from_of net h.last)
                        on.before on.told;
                    count = on.count;
                  });
                  small = omega (arith, s, f, long);
                })
                (cases_eq t (to_of net q));
          }

    -- ---- along paths

    -- along places that may be used all is reached
    pub reached_along : AreClosed net usable hops → (ps : List PlaceId) (a b : ℕ) → IsPathBetween net a ps b → All (IsUsable usable) ps → IsSome (hop_at hops a) → IsSome (hop_at hops b)
    reached_along closed [] a b e may some = subst (λ (z : ℕ). IsSome (hop_at hops z)) e some
    reached_along closed (q ∷ ps) a b path may some =
        let here = closed q path.0 (may 0 q (omega arith)) (subst (λ (z : ℕ). IsSome (hop_at hops z)) (sym path.1) some) in
        reached_along closed ps (to_of net q) b path.2 (λ i d l. may (suc i) d (omega arith)) here

    count_is : (t : ℕ) (h : Hop) → hop_at hops t ≡ Some h → count_of hops t ≡ h.count
    count_is t h e = ap count_in e

    pub trace_begins : (end : ℕ) → end < length hops → IsSome (hop_at hops end) → IsTraced net usable hops end end []
    trace_begins end l some = record {
      reached = some;
      at_in = l;
      straight = record { path = refl; leaves_once = λ i j d m n. absurd (omega arith); leaves_not_end = λ i d m. absurd (omega arith) };
      may = λ i d m. absurd (omega arith);
      above = λ i d m. absurd (omega arith);
      low = omega arith;
      below = λ i d m. absurd (omega arith);
    }

    module _ (ok : IsNet net) (end at : ℕ) (ps : List PlaceId) (h : IsTraced net usable hops end at ps) (hop : Hop) (told : hop_at hops at ≡ Some hop) where
      -- one place further back
      module _ (some : 0 < hop.count) where
        on : IsHopOn net usable hops at hop
        on = (are.each at hop told).on some

        abbrev q : PlaceId
        q = hop.last

        count_q : count_of hops (from_of net q) + 1 ≡ count_of hops at
        count_q = let one = count_is (from_of net q) on.before on.told in let two = count_is at hop told in let three = on.count in omega (arith, one, two, three)

        pub trace_smaller : count_of hops (from_of net q) < count_of hops at
        trace_smaller = let c = count_q in omega (arith, c)

        pub trace_in : q.index < length net.places
        trace_in = on.in_range

        pub trace_back : IsTraced net usable hops end (from_of net q) (q ∷ ps)
        trace_back =
            let c = count_q in
            let low = h.low in
            let rules : IsPlaceOf net (place_at net q) = ok.each_place q.index no_place on.in_range in
            record {
              reached = some_hop (hop_at hops (from_of net q)) on.before on.told;
              at_in = (let long = are.count in let in' = rules.from_in in omega (arith, long, in'));
              straight = record { path = (on.in_range, refl, subst (λ (z : ℕ). IsPathBetween net z ps end) (sym on.to) h.straight.path); leaves_once = once; leaves_not_end = not_end };
              may = may;
              above = higher;
              low = omega (arith, c, low);
              below = lower;
            } where
              higher : All (λ x. count_of hops (from_of net q) ≤ count_of hops (from_of net x)) (q ∷ ps)
              higher zero d l = omega arith
              higher (suc i) d l = let a = h.above i d (omega arith) in let c = count_q in omega (arith, a, c)

              lower : All (λ x. count_of hops (from_of net x) < count_of hops end) (q ∷ ps)
              lower zero d l = let c = count_q in let low = h.low in omega (arith, c, low)
              lower (suc i) d l = h.below i d (omega arith)

              may : All (IsUsable usable) (q ∷ ps)
              may zero d l = on.may
              may (suc i) d l = h.may i d (omega arith)

              once : AllPairs (λ x y. from_of net x ≢ from_of net y) (q ∷ ps)
              once zero zero d m n = absurd (omega arith)
              once zero (suc j) d m n = λ e. (let a = h.above j d (omega arith) in let c = count_q in let same = ap (count_of hops) e in absurd (omega (arith, a, c, same)))
              once (suc i) zero d m n = absurd (omega arith)
              once (suc i) (suc j) d m n = h.straight.leaves_once i j d (omega arith) (omega arith)

              not_end : All (λ x. from_of net x ≢ end) (q ∷ ps)
              not_end zero d l = λ e. (let c = count_q in let low = h.low in let same = ap (count_of hops) e in absurd (omega (arith, c, low, same)))
              not_end (suc i) d l = h.straight.leaves_not_end i d (omega arith)

      -- at the end of the first place the path is whole
      pub traced : hop.count ≡ 0 → at ≡ to_of net first
      traced none = (are.each at hop told).begins none

    pub trace_circuit : (at : ℕ) (ps : List PlaceId) → IsTraced net usable hops (from_of net first) at ps → at ≡ to_of net first → first.index < length net.places → IsCircuit net (first ∷ ps)
    trace_circuit at ps h e l = closes net first ps l (subst (λ (z : ℕ). IsStraight net z ps (from_of net first)) e h.straight)

-- ---- rounds

-- a round so far: where a transition was reached, fewer are left, and else all is the same and the places so far are passed
pub record IsSpread (net : NetLists) (usable : List Bool) (first : PlaceId) (old : List (Option Hop)) (n : ℕ) (reached : Bool) (new : List (Option Hop)) : Type 0 where
  pub are : AreHops net usable first new
  pub fewer : reached ≡ true → open_count new < open_count old
  pub same : reached ≡ false → new ≡ old
  pub closed : reached ≡ false → (q : PlaceId) → q.index < n → q.index < length net.places → IsUsable usable q → IsPassed (place_at net q) new

pub spread_begins : (net : NetLists) (usable : List Bool) (first : PlaceId) (hops : List (Option Hop)) → AreHops net usable first hops → IsSpread net usable first hops 0 false hops
spread_begins net usable first hops are = record { are = are; fewer = λ e. (let f : ⊥ = cc in absurd f); same = λ _. refl; closed = λ e q l m. absurd (omega (arith, l)) }

module _ (net : NetLists) (ok : IsNet net) (usable : List Bool) (first : PlaceId) (old mid : List (Option Hop)) (q : PlaceId) (l : q.index < length net.places) where
  no_more : (reached : Bool) → IsSpread net usable first old q.index reached mid → open_count mid ≤ open_count old
  no_more true h = let fewer = h.fewer refl in omega (arith, fewer)
  no_more false h = let same : open_count mid ≡ open_count old = ap open_count (h.same refl) in omega (arith, same)

  pub spread_reached : (reached : Bool) → IsSpread net usable first old q.index reached mid → IsUsable usable q → (new : List (Option Hop)) → IsReachedNow q (place_at net q) mid new
      → IsSpread net usable first old (q.index + 1) true new
  spread_reached reached h may new now =
      let rules : IsPlaceOf net (place_at net q) = ok.each_place q.index no_place l in
      let fewer = reached_fewer net usable first mid h.are q l rules.to_in may new now in
      let low = no_more reached h in
      record {
        are = hops_more net usable first mid h.are q l rules.to_in may new now;
        fewer = λ _. omega (arith, fewer, low);
        same = λ e. (let f : ⊥ = cc in absurd f);
        closed = λ e. (let f : ⊥ = cc in absurd f);
      }

  pub spread_on : (reached : Bool) → IsSpread net usable first old q.index reached mid → (IsUsable usable q → IsPassed (place_at net q) mid) → IsSpread net usable first old (q.index + 1) reached mid
  spread_on reached h here = record {
    are = h.are;
    fewer = h.fewer;
    same = h.same;
    closed = λ e x m n. ⊎_elim
        (λ (is : x.index ≡ q.index). subst (λ (z : PlaceId). IsUsable usable z → IsPassed (place_at net z) mid) (same_id q x (sym is)) here)
        (λ (ne : x.index ≢ q.index). h.closed e x (omega (arith, m, ne)) n)
        (cases_eq x.index q.index);
  }

pub spread_over : (net : NetLists) (usable : List Bool) (first : PlaceId) (old : List (Option Hop)) (n : ℕ) (reached : Bool) (new : List (Option Hop)) → IsSpread net usable first old n reached new
    → length net.places ≤ n → reached ≡ false → AreClosed net usable new
spread_over net usable first old n reached new h all e q m = h.closed e q (omega (arith, all, m)) m
