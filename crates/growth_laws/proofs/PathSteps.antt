-- The walk along a path: a step for each place.
use Rattle.std.proofs.Common.{ℕ, ◌+◌, ◌≡◌, List, [], ◌∷◌, subst, arith}
use Rattle.std.proofs.lemmas.List.Sums.{sum_by-cons}
use Rattle.periodic_laws.specs.teg_net.declared.entries.PlaceId.{PlaceId}
use Rattle.periodic_laws.specs.teg_net.declared.walks.Step.{Step}
use Rattle.periodic_laws.specs.teg_net.declared.walks.Step.TheVariants.{By}
use Rattle.periodic_laws.specs.teg_net.Nets.{NetLists}
use Rattle.periodic_laws.specs.teg_net.Circuits.{place_at, IsPathBetween, time_of, tokens_of}
use Rattle.periodic_laws.specs.teg_net.Walks.{Walks, step_time, walk_time}

-- the steps of a path
abbrev pub path_steps : List PlaceId → List Step
path_steps [] = []
path_steps (p ∷ ps) = By p ∷ path_steps ps

pub path_walks : (net : NetLists) (ps : List PlaceId) (i s j : ℕ) → IsPathBetween net i ps j → Walks net i s (path_steps ps) j (s + tokens_of net ps)
path_walks net [] i s j h = (h, omega arith)
path_walks net (p ∷ ps) i s j h =
    let rest = path_walks net ps (place_at net p).to.index (s + (place_at net p).tokens) j h.2 in
    let sum = sum_by-cons (λ q. (place_at net q).tokens) p ps in
    let e : s + (place_at net p).tokens + tokens_of net ps ≡ s + tokens_of net (p ∷ ps) = omega (arith, sum) in
    (h.0, h.1, subst (λ n. Walks net (place_at net p).to.index (s + (place_at net p).tokens) (path_steps ps) j n) e rest)

pub path_time : (net : NetLists) (ps : List PlaceId) → walk_time net (path_steps ps) ≡ time_of net ps
path_time net [] = omega arith
path_time net (p ∷ ps) =
    let rest = path_time net ps in
    let one = sum_by-cons (step_time net) (By p) (path_steps ps) in
    let two = sum_by-cons (λ q. (place_at net q).hold) p ps in
    omega (arith, rest, one, two)
