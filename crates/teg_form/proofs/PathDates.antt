-- What paths say of dates: a dating keeps the time of each path, and a date that waits for a path's last place waits for the path.
use Rattle.std.proofs.Common.{ℕ, ◌+◌, ◌-◌, ◌<◌, ◌≤◌, ◌≡◌, List, [], ◌∷◌, length, sym, ap, subst, ◌∙◌, arith}
use Rattle.std.proofs.lemmas.List.Sums.{sum_by-cons}
use Rattle.std.proofs.lemmas.Int.{ints}
use Rattle.dioid.specs.declared.dates.Date.{Date}
use Rattle.dioid.specs.declared.dates.Date.TheVariants.{Early, At, Never}
use Rattle.dioid.specs.Dates.{IsAtMostDate, delayed}
use Rattle.dioid.proofs.DateOrder.{at_most_trans, at_most_is, delayed_rises}
use Rattle.teg_net.specs.declared.entries.PlaceId.{PlaceId}
use Rattle.teg_net.specs.declared.entries.Place.{Place}
use Rattle.teg_net.specs.Nets.{NetLists}
use Rattle.teg_net.specs.Circuits.{place_at, IsPathBetween, time_of, tokens_of}
use Rattle.teg_model.specs.Datings.{initial_date, available_at}
use Rattle.teg_model.proofs.Delays.{delayed_twice, delayed_not}
use Rattle.teg_model.proofs.Tokens.{available_after}
use Rattle.teg_model.proofs.WalkSteps.{Keeps}
use Rattle.teg_model.proofs.DateFunctions.{Dating}

-- more hold, a later date
pub delayed_more : (m n : ℕ) (d : Date) → m ≤ n → IsAtMostDate (delayed m d) (delayed n d)
delayed_more m n Early l = tt
delayed_more m n (At x) l = omega (arith, ints, l)
delayed_more m n Never l = tt

tokens_more : (net : NetLists) (p : PlaceId) (ps : List PlaceId) → tokens_of net (p ∷ ps) ≡ (place_at net p).tokens + tokens_of net ps
tokens_more net p ps = sum_by-cons (λ q. (place_at net q).tokens) p ps

time_more : (net : NetLists) (p : PlaceId) (ps : List PlaceId) → time_of net (p ∷ ps) ≡ (place_at net p).hold + time_of net ps
time_more net p ps = sum_by-cons (λ q. (place_at net q).hold) p ps

-- a dating that keeps each step keeps each path
pub path_keeps : (net : NetLists) (x : Dating) → Keeps net x → (ps : List PlaceId) (a b s : ℕ) → 1 ≤ s → IsPathBetween net a ps b
    → IsAtMostDate (delayed (time_of net ps) (x a s)) (x b (s + tokens_of net ps))
path_keeps net x c [] a b s o h =
    let none : s + 0 ≡ s = omega arith in
    at_most_is (delayed 0 (x a s)) (x b (s + 0)) (delayed_not (x a s) ∙ (ap (λ z. x z s) h ∙ ap (x b) (sym none)))
path_keeps net x c (p ∷ ps) a b s o h =
    let place : Place = place_at net p in
    let to : ℕ = place.to.index in
    let next : ℕ = s + place.tokens in
    let rest : IsAtMostDate (delayed (time_of net ps) (x to next)) (x b (next + tokens_of net ps)) = path_keeps net x c ps to b next (omega arith) h.2 in
    let here : IsAtMostDate (delayed place.hold (x a s)) (x to next) = subst (λ z. IsAtMostDate (delayed place.hold (x z s)) (x to next)) h.1 (c.by p s h.0 o) in
    let end : next + tokens_of net ps ≡ s + tokens_of net (p ∷ ps) = omega (arith, tokens_more net p ps) in
    let time : delayed (time_of net (p ∷ ps)) (x a s) ≡ delayed (time_of net ps) (delayed place.hold (x a s)) =
    ap (λ n. delayed n (x a s)) (time_more net p ps) ∙ delayed_twice place.hold (time_of net ps) (x a s) in
    let all : IsAtMostDate (delayed (time_of net ps) (delayed place.hold (x a s))) (x b (next + tokens_of net ps)) =
    at_most_trans (delayed (time_of net ps) (delayed place.hold (x a s))) (delayed (time_of net ps) (x to next)) (x b (next + tokens_of net ps))
    (delayed_rises (time_of net ps) (delayed place.hold (x a s)) (x to next) here) rest in
    subst (λ d. IsAtMostDate d (x b (s + tokens_of net (p ∷ ps)))) (sym time) (subst (λ n. IsAtMostDate (delayed (time_of net ps) (delayed place.hold (x a s))) (x b n)) end all)

-- z is not before the tokens that firing k of transition t takes from the net's own places
abbrev pub WaitsForPlaces : NetLists → Dating → ℕ → ℕ → Date → Type 0
WaitsForPlaces net x t k z = (p : PlaceId) → p.index < length net.places → (place_at net p).to.index ≡ t → IsAtMostDate (available_at x (place_at net p) k) z

-- then it is not before the time of any path to t
pub path_waits : (net : NetLists) (x : Dating) → Keeps net x → (t k : ℕ) (z : Date) → WaitsForPlaces net x t k z
    → (p : PlaceId) (ps : List PlaceId) (a s : ℕ) → 1 ≤ s → s + tokens_of net (p ∷ ps) ≡ k → IsPathBetween net a (p ∷ ps) t
    → IsAtMostDate (delayed (time_of net (p ∷ ps)) (x a s)) z
path_waits net x c t k z w p [] a s o e h =
    let place : Place = place_at net p in
    let tokens = tokens_more net p [] in
    let more : place.tokens < k = omega (arith, tokens, e) in
    let back : k - place.tokens ≡ s = omega (arith, tokens, e) in
    let from : x place.from.index (k - place.tokens) ≡ x a s = ap (x place.from.index) back ∙ ap (λ v. x v s) h.1 in
    let is = available_after initial_date x place k (x a s) more from in
    let hold : time_of net (p ∷ []) ≡ place.hold = omega (arith, time_more net p []) in
    subst (λ n. IsAtMostDate (delayed n (x a s)) z) (sym hold) (subst (λ d. IsAtMostDate d z) is (w p h.0 h.2))
path_waits net x c t k z w p (q ∷ ps) a s o e h =
    let place : Place = place_at net p in
    let to : ℕ = place.to.index in
    let next : ℕ = s + place.tokens in
    let rest : List PlaceId = q ∷ ps in
    let more = path_waits net x c t k z w q ps to next (omega arith) (omega (arith, tokens_more net p rest, e)) h.2 in
    let here : IsAtMostDate (delayed place.hold (x a s)) (x to next) = subst (λ v. IsAtMostDate (delayed place.hold (x v s)) (x to next)) h.1 (c.by p s h.0 o) in
    let time : delayed (time_of net (p ∷ rest)) (x a s) ≡ delayed (time_of net rest) (delayed place.hold (x a s)) =
    ap (λ n. delayed n (x a s)) (time_more net p rest) ∙ delayed_twice place.hold (time_of net rest) (x a s) in
    subst (λ d. IsAtMostDate d z) (sym time)
    (at_most_trans (delayed (time_of net rest) (delayed place.hold (x a s))) (delayed (time_of net rest) (x to next)) z
    (delayed_rises (time_of net rest) (delayed place.hold (x a s)) (x to next) here) more)
