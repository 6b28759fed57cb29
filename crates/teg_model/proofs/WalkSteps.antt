-- Walks put together, and what a feasible dating keeps along a walk.
use Rattle.std.proofs.Common.{ℕ, ◌+◌, ◌-◌, ◌<◌, ◌≤◌, ◌≡◌, List, [], ◌∷◌, ◌++◌, length, sym, ap, subst, arith}
use Rattle.std.proofs.lemmas.List.Sums.{sum_by-append, sum_by-cons}
use Rattle.dioid.specs.Dates.{IsAtMostDate, delayed}
use Rattle.dioid.proofs.DateOrder.{at_most_refl, at_most_trans, delayed_rises}
use Rattle.teg_net.specs.declared.entries.PlaceId.{PlaceId}
use Rattle.teg_net.specs.declared.entries.Place.{Place}
use Rattle.teg_net.specs.Nets.{NetLists}
use Rattle.teg_net.specs.Circuits.{no_place, place_at}
use Rattle.teg_model.specs.Systems.{available_in, IsFeasibleIn}
use Rattle.teg_model.specs.LiveRanks.{HasEndsInRange}
use Rattle.teg_model.specs.Datings.{system_with}
use Rattle.teg_net.specs.declared.walks.Step.{Step}
use Rattle.teg_net.specs.declared.walks.Step.TheVariants.{By, Next}
use Rattle.teg_net.specs.Walks.{Walks, step_time, walk_time}
use Rattle.teg_model.proofs.Delays.{delayed_twice, delayed_not}
use Rattle.teg_model.proofs.OfNet.{implicit_is, extended_has}
use Rattle.teg_model.proofs.Tokens.{available_after, implicit_gives}
use Rattle.teg_model.proofs.DateFunctions.{Dating, InitialDates}

pub walk_append : (net : NetLists) (xs ys : List Step) (a s b k c j : ℕ) → Walks net a s xs b k → Walks net b k ys c j → Walks net a s (xs ++ ys) c j
walk_append net [] ys a s b k c j w v = subst (λ z. Walks net z s ys c j) (sym w.0) (subst (λ z. Walks net b z ys c j) (sym w.1) v)
walk_append net (By p ∷ xs) ys a s b k c j w v = (w.0, w.1, walk_append net xs ys (place_at net p).to.index (s + (place_at net p).tokens) b k c j w.2 v)
walk_append net (Next ∷ xs) ys a s b k c j w v = walk_append net xs ys a (s + 1) b k c j w v

pub walk_time-append : (net : NetLists) (xs ys : List Step) → walk_time net (xs ++ ys) ≡ walk_time net xs + walk_time net ys
walk_time-append net xs ys = sum_by-append (step_time net) xs ys

-- what a dating keeps along each step
pub record Keeps (net : NetLists) (x : Dating) : Type 0 where
  pub by : (p : PlaceId) (s : ℕ) → p.index < length net.places → 1 ≤ s
      → IsAtMostDate (delayed (place_at net p).hold (x (place_at net p).from.index s)) (x (place_at net p).to.index (s + (place_at net p).tokens))
  pub next : (t s : ℕ) → t < length net.transitions → 1 ≤ s → IsAtMostDate (x t s) (x t (s + 1))

-- a feasible dating does so
pub feasible_keeps_in : (net : NetLists) (init : InitialDates) (release x : Dating) → IsFeasibleIn (system_with net init release) x → Keeps net x
feasible_keeps_in net init release x f = record {
  by = λ p s in' o.
      let place : Place = place_at net p in
      let back : (s + place.tokens) - place.tokens ≡ s = omega arith in
      let is = available_after init x place (s + place.tokens) (x place.from.index s) (omega arith) (ap (x place.from.index) back) in
      rw is at (extended_has net (λ q. IsAtMostDate (available_in init x q (s + place.tokens)) (x q.to.index (s + place.tokens)))
      (λ i m. f.places (s + place.tokens) (omega arith) i no_place m) p.index in');
  next = λ t s l o.
      let own = implicit_is net t l in
      rw (implicit_gives init x t s o) at (rw own.2 at (f.places (s + 1) (omega arith) own.0 no_place own.1));
}

-- and so along each walk
pub walk_below : (net : NetLists) (x : Dating) → HasEndsInRange net → Keeps net x → (steps : List Step) (a s b k : ℕ) → a < length net.transitions → 1 ≤ s → Walks net a s steps b k
    → IsAtMostDate (delayed (walk_time net steps) (x a s)) (x b k)
walk_below net x ok c [] a s b k l o w = rw (delayed_not (x a s), w.0, w.1) (at_most_refl (x b k))
walk_below net x ok c (By p ∷ steps) a s b k l o w =
    let place = place_at net p in
    let from : x place.from.index s ≡ x a s = ap (λ t. x t s) w.1 in
    let rest = walk_below net x ok c steps place.to.index (s + place.tokens) b k (ok p.index no_place w.0).1 (omega arith) w.2 in
    let here = rw from at (c.by p s w.0 o) in
    rw (sum_by-cons (step_time net) (By p) steps, delayed_twice place.hold (walk_time net steps) (x a s))
    (at_most_trans (delayed (walk_time net steps) (delayed place.hold (x a s))) (delayed (walk_time net steps) (x place.to.index (s + place.tokens))) (x b k)
    (delayed_rises (walk_time net steps) (delayed place.hold (x a s)) (x place.to.index (s + place.tokens)) here) rest)
walk_below net x ok c (Next ∷ steps) a s b k l o w =
    let same : walk_time net (Next ∷ steps) ≡ walk_time net steps = omega (arith, sum_by-cons (step_time net) Next steps) in
    rw same
    (at_most_trans (delayed (walk_time net steps) (x a s)) (delayed (walk_time net steps) (x a (s + 1))) (x b k)
    (delayed_rises (walk_time net steps) (x a s) (x a (s + 1)) (c.next a s l o))
    (walk_below net x ok c steps a (s + 1) b k l (omega arith) w))
