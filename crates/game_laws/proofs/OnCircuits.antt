-- A circuit as a net of its own: each firing takes as many of its tokens as it brings.
use Rattle.std.proofs.Common.{ℕ, ◌+◌, ◌≡◌, List, [], ◌∷◌, ◌++◌, cond, eqb, get_or, map, refl, sym, ap, ◌∙◌, arith}
use Rattle.std.specs.Prelude.{zero, suc, ◌≤◌, ◌<◌, sum_by, count_by, ◌==◌, length}
use Rattle.std.proofs.lemmas.List.Elements.{All-map}
use Rattle.std.proofs.lemmas.List.Sums.{sum_by-cons}
use Rattle.teg_net.specs.declared.entries.PlaceId.{PlaceId}
use Rattle.teg_net.specs.declared.entries.Place.{Place}
use Rattle.teg_net.specs.Nets.{NetLists, lists_of}
use Rattle.teg_net.specs.Circuits.{place_at, from_of, no_place, IsPathBetween, AreInRange, tokens_of}
use Rattle.teg_net.proofs.PathLaws.{IsPathBetween-in_range}
use Rattle.run_laws.specs.declared.fired.Fired.{Fired}
use Rattle.run_laws.specs.Runs.{next_number, token_date, IsThereBy, IsLegalAfter, IsLegalRun}
use Rattle.run_laws.specs.Earliest.{tokens_in, tokens_after}
use Rattle.run_laws.proofs.Counting.{tokens_moved}
use Rattle.run_laws.proofs.Prefixes.{along, legal_begins, legal_push}
use Rattle.game_laws.specs.TokensOnCircuits.{TokensOnCircuitsStay, PlacesHoldWithinCircuits}

-- the net of the places of a path alone
abbrev net_along : NetLists → List PlaceId → NetLists
net_along net ps = lists_of net.transitions (map (place_at net) ps) net.inputs

-- what may fire in the net may fire where fewer places ask for tokens
legal_along : (net : NetLists) (ps : List PlaceId) → AreInRange net ps → (run : List Fired) (f : Fired) → IsLegalAfter net run f → IsLegalAfter (net_along net ps) run f
legal_along net ps in' run f h = record {
  transition_in = h.transition_in;
  tokens = All-map (λ p. p.to.index ≡ f.transition.index → IsThereBy f.date (token_date run p (next_number run f.transition.index))) (place_at net) ps
      (λ i d l. h.tokens (get_or ps i d).index no_place (in' i d l));
  in_order = h.in_order;
  released = h.released;
}

-- the sum over places of a path, as places and by their numbers
sum_along : (net : NetLists) (ps : List PlaceId) (f : Place → ℕ) → sum_by f (map (place_at net) ps) ≡ sum_by (λ p. f (place_at net p)) ps
sum_along net [] f = refl
sum_along net (p ∷ ps) f =
    let one = sum_by-cons f (place_at net p) (map (place_at net) ps) in
    let two = sum_by-cons (λ q. f (place_at net q)) p ps in
    let rest = sum_along net ps f in
    omega (arith, one, two, rest)

-- 1 where the two numbers are one, else 0
abbrev if_same : ℕ → ℕ → ℕ
if_same s t = cond (eqb s t) 1 0

-- how often a path enters a transition and leaves it differs just at its ends
entered : (net : NetLists) (t : ℕ) (ps : List PlaceId) (a b : ℕ) → IsPathBetween net a ps b
    → count_by (λ p. p.to.index == t) (map (place_at net) ps) + if_same a t ≡ count_by (λ p. p.from.index == t) (map (place_at net) ps) + if_same b t
entered net t [] a b e = rw e refl
entered net t (p ∷ ps) a b w =
    let rest = entered net t ps (place_at net p).to.index b w.2 in
    let to = sum_by-cons (λ q. if_same q.to.index t) (place_at net p) (map (place_at net) ps) in
    let from = sum_by-cons (λ q. if_same q.from.index t) (place_at net p) (map (place_at net) ps) in
    let own : if_same (from_of net p) t ≡ if_same a t = ap (λ s. if_same s t) w.1 in
    omega (arith, rest, to, from, own)

none_fired : (ps : List Place) → sum_by (tokens_in []) ps ≡ sum_by (λ p. p.tokens) ps
none_fired [] = refl
none_fired (p ∷ ps) =
    let one = sum_by-cons (tokens_in []) p ps in
    let two = sum_by-cons (λ q. q.tokens) p ps in
    let rest = none_fired ps in
    omega (arith, one, two, rest)

pub tokens_stay : TokensOnCircuitsStay
tokens_stay net run legal ps c =
    let own : NetLists = net_along net ps in
    let a : ℕ = c.closed.0 in
    let in' = IsPathBetween-in_range net ps a a c.closed.1 in
    let stay : IsLegalRun own run × (tokens_after own run ≡ tokens_of net ps) =
    along net (λ r. IsLegalRun own r × (tokens_after own r ≡ tokens_of net ps))
    (legal_begins own, none_fired own.places ∙ sum_along net ps (λ p. p.tokens))
    (λ before f h g.
    let may = legal_along net ps in' before f g in
    let next = legal_push own before f h.0 may in
    let moved = tokens_moved own before f h.0 next in
    let even = entered net f.transition.index ps a a c.closed.1 in
    let same : tokens_after own (before ++ f ∷ []) ≡ tokens_of net ps = omega (arith, moved, even, h.1) in
    (next, same))
    run legal in
    sym (sum_along net ps (tokens_in run)) ∙ stay.1

-- no element of a list has more than all together
one_of : (f : PlaceId → ℕ) (ps : List PlaceId) (i : ℕ) (d : PlaceId) → i < length ps → f (get_or ps i d) ≤ sum_by f ps
one_of f [] i d l = absurd (omega (arith, l))
one_of f (p ∷ ps) zero d l = let e = sum_by-cons f p ps in omega (arith, e)
one_of f (p ∷ ps) (suc i) d l = let e = sum_by-cons f p ps in let r = one_of f ps i d (omega (arith, l)) in omega (arith, e, r)

pub places_within : PlacesHoldWithinCircuits
places_within net run legal ps c p h =
    let all = tokens_stay net run legal ps c in
    let own : tokens_in run (place_at net (get_or ps h.0 p)) ≤ sum_by (λ q. tokens_in run (place_at net q)) ps = one_of (λ q. tokens_in run (place_at net q)) ps h.0 p h.1 in
    rw (sym h.2) (omega (arith, own, all))
