-- The rest of a least dating is the least dating of the rest of the system, and the other way round.
use Rattle.std.proofs.Common.{ℕ, ◌+◌, ◌-◌, ◌<◌, ◌≤◌, ◌≡◌, List, true, false, cond, leb, length, get_or, map, refl, sym, ap, ◌∙◌, arith, ⊎_elim}
use Rattle.std.specs.Prelude.{All}
use Rattle.std.proofs.lemmas.Bool.{cases_lt}
use Rattle.std.proofs.lemmas.Bool.Decides.{nat_tests}
use Rattle.std.proofs.lemmas.List.{length-map, get_or-map}
use Rattle.std.proofs.lemmas.List.Elements.{All-map}
use Rattle.teg_model.specs.dioid.Dates.{IsAtMostDate}
use Rattle.teg_model.proofs.dioid_proofs.DateOrder.{at_most_refl, at_most_is, at_most_trans, same_by_at_most}
use Rattle.teg_net.specs.declared.entries.Place.{Place}
use Rattle.teg_net.specs.Changes.{place_with_tokens}
use Rattle.teg_model.specs.Systems.{System, available, available_in, IsFeasibleIn}
use Rattle.teg_model.proofs.DateFunctions.{Dating}
use Rattle.teg_model.proofs.TightLeast.{available_below}
use Rattle.teg_model.proofs.Tokens.{available_after, available_first, available_same}
use Rattle.state_laws.specs.Rests.{tokens_left, place_left, place_before, ArePaid, rest_of, IsFeasibleAfter, dating_left, continued, with_happened, HappenedInTime}
use Rattle.state_laws.specs.StateLaws.{LeastDatingsGoOn, RestsAreContinued, LeastDatingsAreLeastAfter, HappenedMayBeReleased}

-- what holds of each image of a list's elements holds of the elements so
pub all_unmap : {X : Type 0} {Y : Type 0} (P : Y → Type 0) (f : X → Y) (xs : List X) → All P (map f xs) → All (λ x. P (f x)) xs
all_unmap P f xs h i d l =
    let long : length (map f xs) ≡ length xs = length-map xs f in
    rw (get_or-map f xs i d (f d) l) at (h i (f d) (omega (arith, l, long)))

-- a place with the tokens that are left had those that it had
pub back : (count : ℕ → ℕ) (p : Place) → count p.to.index ≤ p.tokens + count p.from.index → place_before count (place_left count p) ≡ p
back count p h =
    let e : p.tokens + count p.from.index - count p.to.index + count p.to.index - count p.from.index ≡ p.tokens = omega (arith, h) in
    ap (λ n. place_with_tokens n p) e

-- dates of what happened
pub AgreesWith : (ℕ → ℕ) → Dating → Dating → Type 0
AgreesWith count date x = (t k : ℕ) → 1 ≤ k → k ≤ count t → x t k ≡ date t k

-- the token for firing k to come is available in the rest as it was in the whole
pub same_token : (s : System) (count : ℕ → ℕ) (date x : Dating) (p : Place) (k : ℕ) → count p.to.index ≤ p.tokens + count p.from.index → AgreesWith count date x → 1 ≤ k
    → available (rest_of s count date) (dating_left count x) (place_left count p) k ≡ available s x p (count p.to.index + k)
unfolding AgreesWith
same_token s count date x p k paid agrees o =
    let a : ℕ = count p.from.index in
    let b : ℕ = count p.to.index in
    ⊎_elim
    (λ (l : tokens_left count p < k).
    let index : b + k - p.tokens ≡ a + (k - tokens_left count p) = omega (arith, l, paid) in
    let more : p.tokens < b + k = omega (arith, l, paid) in
    let there : x p.from.index (b + k - p.tokens) ≡ x p.from.index (a + (k - tokens_left count p)) = ap (x p.from.index) index in
    available_after (rest_of s count date).initial (dating_left count x) (place_left count p) k (x p.from.index (a + (k - tokens_left count p))) l refl
    ∙ sym (available_after s.initial x p (b + k) (x p.from.index (a + (k - tokens_left count p))) more there))
    (λ (l : k ≤ tokens_left count p).
    available_first (rest_of s count date).initial (dating_left count x) (place_left count p) k l
    ∙ (ap (λ q. available_in s.initial date q (b + k)) (back count p paid)
    ∙ available_same s.initial date x p (b + k) (λ m. sym (agrees p.from.index (b + k - p.tokens) (omega (arith, m)) (omega (arith, l, paid, m))))))
    (cases_lt (tokens_left count p) k)

-- what is feasible after what happened is, from there on, feasible in the rest
pub feasible_left : (s : System) (count : ℕ → ℕ) (date x : Dating) → ArePaid count s.places → IsFeasibleAfter s count date x → IsFeasibleIn (rest_of s count date) (dating_left count x)
unfolding AgreesWith
feasible_left s count date x paid f = record {
  places = λ k o. All-map (λ q. IsAtMostDate (available (rest_of s count date) (dating_left count x) q k) (dating_left count x q.to.index k)) (place_left count) s.places (λ i d l.
      let p : Place = get_or s.places i d in
      rw (same_token s count date x p k (paid i d l) f.happened o) (f.places (count p.to.index + k) i d l (omega (arith, o))));
  releases = λ t k o. f.releases t (count t + k) (omega (arith, o));
}

-- ---- a dating of the rest, put behind what happened

pub continued_happened : (count : ℕ → ℕ) (date y : Dating) (t k : ℕ) → k ≤ count t → continued count date y t k ≡ date t k
continued_happened count date y t k l = let e : leb k (count t) ≡ true = grind (arith, nat_tests) in rw e refl

pub continued_later : (count : ℕ → ℕ) (date y : Dating) (t k : ℕ) → count t < k → continued count date y t k ≡ y t (k - count t)
continued_later count date y t k l = let e : leb k (count t) ≡ false = grind (arith, nat_tests) in rw e refl

pub continued_left : (count : ℕ → ℕ) (date y : Dating) (t k : ℕ) → 1 ≤ k → dating_left count (continued count date y) t k ≡ y t k
continued_left count date y t k o =
    let e : count t + k - count t ≡ k = omega arith in
    continued_later count date y t (count t + k) (omega (arith, o)) ∙ ap (y t) e

pub feasible_continued : (s : System) (count : ℕ → ℕ) (date y : Dating) → ArePaid count s.places → IsFeasibleIn (rest_of s count date) y → IsFeasibleAfter s count date (continued count date y)
unfolding AgreesWith
feasible_continued s count date y paid f =
    let w : Dating = continued count date y in
    let happened : AgreesWith count date w = λ t k o l. continued_happened count date y t k l in
    record {
      happened = happened;
      places = λ k i d l m.
          let p : Place = get_or s.places i d in
          let b : ℕ = count p.to.index in
          let j : ℕ = k - b in
          let o : 1 ≤ j = omega (arith, m) in
          let is : b + j ≡ k = omega (arith, m) in
          let rest : IsAtMostDate (available (rest_of s count date) y (place_left count p) j) (y p.to.index j) =
          all_unmap (λ q. IsAtMostDate (available (rest_of s count date) y q j) (y q.to.index j)) (place_left count) s.places (f.places j o) i d l in
          let same : available (rest_of s count date) (dating_left count w) (place_left count p) j ≡ available (rest_of s count date) y (place_left count p) j =
          available_same (rest_of s count date).initial (dating_left count w) y (place_left count p) j (λ n. continued_left count date y p.from.index (j - tokens_left count p) (omega (arith, n))) in
          let here : available s w p k ≡ available (rest_of s count date) y (place_left count p) j =
          ap (available s w p) (sym is) ∙ (sym (same_token s count date w p j (paid i d l) happened o) ∙ same) in
          rw (here, continued_later count date y p.to.index k m) rest;
      releases = λ t k m.
          let is : count t + (k - count t) ≡ k = omega (arith, m) in
          rw (continued_later count date y t k m) (rw is at (f.releases t (k - count t) (omega (arith, m))));
    }

pub goes_on : LeastDatingsGoOn
goes_on s count date x paid h = record {
  feasible = feasible_left s count date x paid h.feasible;
  least = λ y f t k o. rw (continued_left count date y t k o) at (h.least (continued count date y) (feasible_continued s count date y paid f) t (count t + k) (omega (arith, o)));
}

pub is_continued : RestsAreContinued
is_continued s count date y paid h = record {
  feasible = feasible_continued s count date y paid h.feasible;
  least = λ z f t k o.
      ⊎_elim
      (λ (m : count t < k).
      let is : count t + (k - count t) ≡ k = omega (arith, m) in
      rw (continued_later count date y t k m) (rw is at (h.least (dating_left count z) (feasible_left s count date z paid f) t (k - count t) (omega (arith, m)))))
      (λ (m : k ≤ count t). at_most_is (continued count date y t k) (z t k) (continued_happened count date y t k m ∙ sym (f.happened t k o m)))
      (cases_lt (count t) k);
}

-- ---- what happened in the whole system

-- up to what happened datings that agree have tokens available at the same dates
same_before : (s : System) (count : ℕ → ℕ) (x y : Dating) (p : Place) (k : ℕ) → count p.to.index ≤ p.tokens + count p.from.index → AgreesWith count x y → k ≤ count p.to.index
    → available s y p k ≡ available s x p k
unfolding AgreesWith
same_before s count x y p k paid agrees l = available_same s.initial y x p k (λ m. agrees p.from.index (k - p.tokens) (omega (arith, m)) (omega (arith, l, paid)))

pub own_after : LeastDatingsAreLeastAfter
unfolding AgreesWith
own_after s count x paid h = record {
  feasible = record {
    happened = λ t k o l. refl;
    places = λ k i d l m. h.feasible.places k (omega (arith, m)) i d l;
    releases = λ t k m. h.feasible.releases t k (omega (arith, m));
  };
  least = λ y f t k o.
      h.least y (record {
        places = λ j e i d l.
            let p : Place = get_or s.places i d in
            ⊎_elim
            (λ (m : count p.to.index < j). f.places j i d l m)
            (λ (m : j ≤ count p.to.index). rw (same_before s count x y p j (paid i d l) f.happened m, f.happened p.to.index j e m) (h.feasible.places j e i d l))
            (cases_lt (count p.to.index) j);
        releases = λ u j e.
            ⊎_elim
            (λ (m : count u < j). f.releases u j m)
            (λ (m : j ≤ count u). rw (f.happened u j e m) (h.feasible.releases u j e))
            (cases_lt (count u) j);
      }) t k o;
}

-- ---- what happened in time may be released

released_happened : (s : System) (count : ℕ → ℕ) (date : Dating) (t k : ℕ) → k ≤ count t → (with_happened s count date).release t k ≡ date t k
released_happened s count date t k l = let e : leb k (count t) ≡ true = grind (arith, nat_tests) in rw e refl

released_later : (s : System) (count : ℕ → ℕ) (date : Dating) (t k : ℕ) → count t < k → (with_happened s count date).release t k ≡ s.release t k
released_later s count date t k l = let e : leb k (count t) ≡ false = grind (arith, nat_tests) in rw e refl

-- what happened has its dates, and all else those of x
kept_or : (ℕ → ℕ) → Dating → Dating → Dating
kept_or count date x t k = cond (leb k (count t)) (date t k) (x t k)

kept_happened : (count : ℕ → ℕ) (date x : Dating) (t k : ℕ) → k ≤ count t → kept_or count date x t k ≡ date t k
unfolding kept_or
kept_happened count date x t k l = let e : leb k (count t) ≡ true = grind (arith, nat_tests) in rw e refl

kept_later : (count : ℕ → ℕ) (date x : Dating) (t k : ℕ) → count t < k → kept_or count date x t k ≡ x t k
unfolding kept_or
kept_later count date x t k l = let e : leb k (count t) ≡ false = grind (arith, nat_tests) in rw e refl

-- a dating with the dates of what happened in time, feasible after it, is feasible where it is released no earlier
feasible_released : (s : System) (count : ℕ → ℕ) (date y : Dating) → ArePaid count s.places → HappenedInTime s count date → IsFeasibleAfter s count date y
    → IsFeasibleIn (with_happened s count date) y
unfolding AgreesWith
feasible_released s count date y paid in_time f = record {
  places = λ k o i d l.
      let p : Place = get_or s.places i d in
      ⊎_elim
      (λ (m : count p.to.index < k). f.places k i d l m)
      (λ (m : k ≤ count p.to.index). rw (same_before s count date y p k (paid i d l) f.happened m, f.happened p.to.index k o m) (in_time k o i d l m))
      (cases_lt (count p.to.index) k);
  releases = λ t k o.
      ⊎_elim
      (λ (m : count t < k). rw (released_later s count date t k m) (f.releases t k m))
      (λ (m : k ≤ count t). rw (released_happened s count date t k m, f.happened t k o m) (at_most_refl (date t k)))
      (cases_lt (count t) k);
}

-- with the dates of what happened a feasible dating in which it is released no earlier is feasible after it
feasible_kept : (s : System) (count : ℕ → ℕ) (date x : Dating) → IsFeasibleIn (with_happened s count date) x → IsFeasibleAfter s count date (kept_or count date x)
feasible_kept s count date x f =
    let w : Dating = kept_or count date x in
    let below : (t k : ℕ) → 1 ≤ k → IsAtMostDate (w t k) (x t k) = λ t k o.
    ⊎_elim
    (λ (m : count t < k). at_most_is (w t k) (x t k) (kept_later count date x t k m))
    (λ (m : k ≤ count t). rw (kept_happened count date x t k m) (rw (released_happened s count date t k m) at (f.releases t k o)))
    (cases_lt (count t) k) in
    record {
      happened = λ t k o l. kept_happened count date x t k l;
      places = λ k i d l m.
          let p : Place = get_or s.places i d in
          rw (kept_later count date x p.to.index k m)
          (at_most_trans (available s w p k) (available s x p k) (x p.to.index k)
          (available_below s.initial w x p k (λ n. below p.from.index (k - p.tokens) (omega (arith, n))))
          (f.places k (omega (arith, m)) i d l));
      releases = λ t k m. rw (kept_later count date x t k m) (rw (released_later s count date t k m) at (f.releases t k (omega (arith, m))));
    }

pub may_be_released : HappenedMayBeReleased
may_be_released s count date x paid in_time h =
    let w : Dating = kept_or count date x in
    let after = feasible_kept s count date x h.feasible in
    let happened : (t k : ℕ) → 1 ≤ k → k ≤ count t → x t k ≡ date t k = λ t k o l.
    let low : IsAtMostDate (x t k) (date t k) = rw (kept_happened count date x t k l) at (h.least w (feasible_released s count date w paid in_time after) t k o) in
    let high : IsAtMostDate (date t k) (x t k) = rw (released_happened s count date t k l) at (h.feasible.releases t k o) in
    same_by_at_most (x t k) (date t k) low high in
    record {
      feasible = record {
        happened = happened;
        places = λ k i d l m. h.feasible.places k (omega (arith, m)) i d l;
        releases = λ t k m. rw (released_later s count date t k m) at (h.feasible.releases t k (omega (arith, m)));
      };
      least = λ y f t k o. h.least y (feasible_released s count date y paid in_time f) t k o;
    }
