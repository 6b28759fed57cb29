-- The eigenspace of a part: closed under moves and greater ones, and spanned from critical transitions.
use Rattle.std.proofs.Common.{ℕ, ◌*◌, ◌≡◌, List, ◌++◌, get_or, refl, sym, ap, arith, ⊎_elim}
use Rattle.std.specs.Prelude.{ℤ, pos, ◌+ℤ◌, ◌-ℤ◌, ◌≤ℤ◌, All}
use Rattle.std.proofs.lemmas.Int.{ints}
use Rattle.std.proofs.lemmas.List.Elements.{All-append}
use Rattle.teg_net.specs.declared.entries.PlaceId.{PlaceId}
use Rattle.teg_net.specs.Nets.{NetLists}
use Rattle.teg_net.specs.Circuits.{from_of, IsPathBetween, time_of, tokens_of}
use Rattle.teg_net.specs.Parts.{to_of, IsMember, IsPlaceOfPart}
use Rattle.teg_net.specs.ReducedTimes.{reduced_time_of, IsGreatestPathTime}
use Rattle.teg_net.proofs.PathLaws.{IsPathBetween-append}
use Rattle.pace_laws.specs.TightPotentials.{offered, IsTightInto, AreTightPotentials, IsCriticalIn}
use Rattle.pace_laws.specs.Eigenspaces.{IsCriticalRound, IsCriticalTransition, AreInOneCriticalPart, IsGreaterOf, AreBegunAt, MovedPotentialsAreTight}
use Rattle.pace_laws.specs.Eigenspaces.{GreaterPotentialsAreTight, BegunPotentialsAreTight, BegunPotentialsExist, PotentialsAreSpanned}
use Rattle.pace_laws.specs.Eigenspaces.{CriticalPartsMoveAsOne, OneBeginsForEachPart, OneCriticalPartTellsAll}
use Rattle.pace_laws.proofs.Sums.{weight_is, weight-append, above_along, all_left, all_right}
use Rattle.pace_laws.proofs.Tight.{greatest_are_tight, IsFromCritical, from_critical, tight_sum, nowhere_below}
use Rattle.pace_laws.proofs.Existing.{begun_from}

-- ---- closed

pub moved : MovedPotentialsAreTight
moved net part_of part a b v n h = record {
  none_above = λ p i. let up = h.none_above p i in omega (arith, ints, up);
  met = λ t m. let w = h.met t m in let is = w.1.tight in (w.0, record { inside = w.1.inside; into = w.1.into; tight = omega (arith, ints, is) });
}

module _ (net : NetLists) (part_of : List ℕ) (part a b : ℕ) (v w x : ℕ → ℤ) (h : AreTightPotentials net part_of part a b v) (k : AreTightPotentials net part_of part a b w)
    (greater : (t : ℕ) → IsMember part_of part t → IsGreaterOf (v t) (w t) (x t)) where
  none_above : (p : PlaceId) → IsPlaceOfPart net part_of part p → offered net a b x p ≤ℤ x (to_of net p)
  none_above p i =
      let from = greater (from_of net p) i.from_member in
      let to = greater (to_of net p) i.to_member in
      let left = to.left in
      let right = to.right in
      let one = h.none_above p i in
      let two = k.none_above p i in
      ⊎_elim
      (λ (e : x (from_of net p) ≡ v (from_of net p)). omega (arith, ints, e, one, left))
      (λ (e : x (from_of net p) ≡ w (from_of net p)). omega (arith, ints, e, two, right))
      from.met

  -- a place that just meets one of both just meets the greater
  by_place : (y : ℕ → ℤ) (t : ℕ) (p : PlaceId) → x t ≡ y t → y (from_of net p) ≤ℤ x (from_of net p) → IsTightInto net part_of part a b y t p → IsTightInto net part_of part a b x t p
  by_place y t p e low i =
      let up = none_above p i.inside in
      let at : x (to_of net p) ≡ x t = ap x i.into in
      let is = i.tight in
      record { inside = i.inside; into = i.into; tight = omega (arith, ints, up, at, is, e, low) }

  met : (t : ℕ) → IsMember part_of part t → (p : PlaceId) × IsTightInto net part_of part a b x t p
  met t m = ⊎_elim
      (λ (e : x t ≡ v t). let o = h.met t m in (o.0, by_place v t o.0 e (greater (from_of net o.0) o.1.inside.from_member).left o.1))
      (λ (e : x t ≡ w t). let o = k.met t m in (o.0, by_place w t o.0 e (greater (from_of net o.0) o.1.inside.from_member).right o.1))
      (greater t m).met

pub greater_are : GreaterPotentialsAreTight
greater_are net part_of part a b v w x h k greater = record {
  none_above = none_above net part_of part a b v w x h k greater;
  met = met net part_of part a b v w x h k greater;
}

-- ---- spanned

pub begun_are : BegunPotentialsAreTight
begun_are net part_of part a b s v c h = greatest_are_tight net part_of part a b s v c.0 h c.1.not_empty c.1.closed c.1.inside c.1.attains

pub begun_exist : BegunPotentialsExist
begun_exist net part_of part s r ends strong g m = begun_from net part_of part ends strong r s m g

pub round_of : (net : NetLists) (part_of : List ℕ) (part a b : ℕ) (v : ℕ → ℤ) (h : AreTightPotentials net part_of part a b v) (t : ℕ) → (f : IsFromCritical net part_of part a b v h t)
    → IsCriticalRound net part_of part a b f.at f.circuit
round_of net part_of part a b v h t f = record { not_empty = f.critical.circuit.not_empty; closed = f.round; inside = f.critical.inside; attains = f.critical.attains }

-- no path in the part lifts its end above the potential there
pub no_path_above : (net : NetLists) (part_of : List ℕ) (part a b : ℕ) (v : ℕ → ℤ) → AreTightPotentials net part_of part a b v
    → (ps : List PlaceId) (s t : ℕ) → IsPathBetween net s ps t → All (IsPlaceOfPart net part_of part) ps → (reduced_time_of net a b ps +ℤ v s) ≤ℤ v t
no_path_above net part_of part a b v h ps s t path inside = above_along net a b v ps s t (λ i d l. h.none_above (get_or ps i d) (inside i d l)) path

pub spanned : PotentialsAreSpanned
spanned net part_of part a b v h t m =
    let f = from_critical net part_of part a b v h t m in
    let sum = tight_sum net part_of part a b v h f.after f.at t f.path f.each in
    let inside : All (IsPlaceOfPart net part_of part) f.after = λ i d l. (f.each i d l).inside in
    record {
      none_above = λ s z g. let e = g.attained.3 in let up = no_path_above net part_of part a b v h g.attained.0 s t g.attained.1 g.attained.2 in omega (arith, ints, e, up);
      met = (
        f.at,
        (f.circuit, round_of net part_of part a b v h t f),
        reduced_time_of net a b f.after,
        record {
          attained = (f.after, f.path, inside, refl);
          greatest = λ ps path all. let up = no_path_above net part_of part a b v h ps f.at t path all in omega (arith, ints, up, sum);
        },
        omega (arith, ints, sum),
      );
    }

-- ---- critical parts

module _ (net : NetLists) (part_of : List ℕ) (part a b s t : ℕ) (l : AreInOneCriticalPart net part_of part a b s t) where
  -- there and back no reduced time is left
  pub nought : (reduced_time_of net a b l.there +ℤ reduced_time_of net a b l.back) ≡ pos 0
  nought =
      let w = weight_is net a b (l.there ++ l.back) in
      let sum = weight-append net a b l.there l.back in
      let e : b * time_of net (l.there ++ l.back) ≡ a * tokens_of net (l.there ++ l.back) = (let e = l.round.attains in grind (arith, e)) in
      omega (arith, ints, w, sum, e)

  pub inside_there : All (IsPlaceOfPart net part_of part) l.there
  inside_there = all_left (IsPlaceOfPart net part_of part) l.there l.back l.round.inside

  pub inside_back : All (IsPlaceOfPart net part_of part) l.back
  inside_back = all_right (IsPlaceOfPart net part_of part) l.there l.back l.round.inside

  -- tight potentials rise by what the way there has
  pub rises : (v : ℕ → ℤ) → AreTightPotentials net part_of part a b v → v t ≡ (reduced_time_of net a b l.there +ℤ v s)
  rises v h =
      let up = no_path_above net part_of part a b v h l.there s t l.to inside_there in
      let down = no_path_above net part_of part a b v h l.back t s l.from inside_back in
      let none = nought in
      omega (arith, ints, up, down, none)

  pub as_one : (v w : ℕ → ℤ) → AreTightPotentials net part_of part a b v → AreTightPotentials net part_of part a b w → (v t +ℤ w s) ≡ (w t +ℤ v s)
  as_one v w h k = let one = rises v h in let two = rises w k in omega (arith, ints, one, two)

  -- a path from s goes on from the way back from t, and one from t from the way there
  after : (x y r : ℕ) (before : List PlaceId) (z c : ℤ) → IsPathBetween net x before y → All (IsPlaceOfPart net part_of part) before
      → IsGreatestPathTime net part_of part a b y r z → IsGreatestPathTime net part_of part a b x r c → (reduced_time_of net a b before +ℤ z) ≤ℤ c
  after x y r before z c path inside g o =
      let ps : List PlaceId = g.attained.0 in
      let e = g.attained.3 in
      let sum = weight-append net a b before ps in
      let up = o.greatest (before ++ ps) (IsPathBetween-append net before ps x y r path g.attained.1) (All-append (IsPlaceOfPart net part_of part) before ps inside g.attained.2) in
      omega (arith, ints, e, sum, up)

  pub one_begins : (v w : ℕ → ℤ) → AreBegunAt net part_of part a b s v → AreBegunAt net part_of part a b t w → (n : ℤ) × ((u : ℕ) → IsMember part_of part u → w u ≡ (v u +ℤ n))
  one_begins v w h k = (
    reduced_time_of net a b l.back,
    λ u m.
        let one = after t s u l.back (v u) (w u) l.from inside_back (h u m) (k u m) in
        let two = after s t u l.there (w u) (v u) l.to inside_there (k u m) (h u m) in
        let none = nought in
        omega (arith, ints, one, two, none),
  )

pub move_as_one : CriticalPartsMoveAsOne
move_as_one net part_of part a b s t v w l h k = as_one net part_of part a b s t l v w h k

pub begins_for_each : OneBeginsForEachPart
begins_for_each net part_of part a b s t v w l h k = one_begins net part_of part a b s t l v w h k

pub tells_all : OneCriticalPartTellsAll
tells_all net part_of part a b m v w in' linked h k =
    let f = from_critical net part_of part a b v h m in' in
    let at : ℕ = f.at in
    let here : IsCriticalTransition net part_of part a b at = (f.circuit, round_of net part_of part a b v h m f) in
    let n : ℤ = v at -ℤ w at in
    let o : AreTightPotentials net part_of part a b (λ t. w t +ℤ n) = moved net part_of part a b w n k in
    let agree : (s : ℕ) (c : List PlaceId) → IsCriticalIn net part_of part a b c → IsCriticalRound net part_of part a b s c → v s ≡ (w s +ℤ n) = λ s c q r.
    (let e = as_one net part_of part a b at s (linked at s here (c, r)) v w h k in omega (arith, ints, e)) in (
      n,
      λ t i.
          let one = nowhere_below net part_of part a b v h (λ t. w t +ℤ n) o.none_above agree t i in
          let two = nowhere_below net part_of part a b (λ t. w t +ℤ n) o v h.none_above (λ s c q r. sym (agree s c q r)) t i in
          omega (arith, ints, one, two),
    )
