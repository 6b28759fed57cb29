-- The path that a walk goes along, and how much of it may be off circuits.
use Rattle.std.proofs.Common.{ℕ, suc, ◌+◌, ◌*◌, ◌<◌, ◌≤◌, ◌≡◌, List, [], ◌∷◌, length, refl, arith}
use Rattle.std.specs.Prelude.{All}
use Rattle.std.proofs.lemmas.List.Sums.{sum_by-cons}
use Rattle.settled_laws.specs.teg_net.declared.entries.PlaceId.{PlaceId}
use Rattle.settled_laws.specs.teg_net.declared.walks.Step.{Step}
use Rattle.settled_laws.specs.teg_net.declared.walks.Step.TheVariants.{By, Next}
use Rattle.settled_laws.specs.teg_net.Nets.{NetLists, HasEndsInRange}
use Rattle.settled_laws.specs.teg_net.Circuits.{no_place, place_at, IsPathBetween, IsCircuit, time_of, tokens_of}
use Rattle.settled_laws.specs.teg_net.Walks.{Walks, step_time, walk_time}
use Rattle.teg_loops.specs.Loops.{IsStraight}
use Rattle.teg_loops.proofs.Ends.{ends_below}
use Rattle.teg_loops.proofs.Straight.{straight_short, loop_short}
use Rattle.teg_loops.proofs.Taking.{sum_most}
use Rattle.slope_laws.proofs.Sums.{le_times}

-- the places of a walk are a path, and the numbers rise by its tokens and one for each other step
pub record IsPathOf (net : NetLists) (steps : List Step) (a s b k : ℕ) : Type 0 where
  pub places : List PlaceId
  pub nexts : ℕ
  pub path : IsPathBetween net a places b
  pub time : walk_time net steps ≡ time_of net places
  pub number : k ≡ s + tokens_of net places + nexts

pub walk_path : (net : NetLists) (steps : List Step) (a s b k : ℕ) → Walks net a s steps b k → IsPathOf net steps a s b k
walk_path net [] a s b k w = record { places = []; nexts = 0; path = w.0; time = refl; number = omega (arith, w.1) }
walk_path net (By p ∷ steps) a s b k w =
    let rest = walk_path net steps (place_at net p).to.index (s + (place_at net p).tokens) b k w.2 in
    let here = sum_by-cons (step_time net) (By p) steps in
    let time = sum_by-cons (λ q. (place_at net q).hold) p rest.places in
    let tokens = sum_by-cons (λ q. (place_at net q).tokens) p rest.places in
    record {
      places = p ∷ rest.places;
      nexts = rest.nexts;
      path = (w.0, w.1, rest.path);
      time = omega (arith, rest.time, here, time);
      number = omega (arith, rest.number, tokens);
    }
walk_path net (Next ∷ steps) a s b k w =
    let rest = walk_path net steps a (s + 1) b k w in
    let here = sum_by-cons (step_time net) Next steps in
    record { places = rest.places; nexts = suc rest.nexts; path = rest.path; time = omega (arith, rest.time, here); number = omega (arith, rest.number) }

-- a straight path has few tokens, and takes little time
pub tokens_straight : (net : NetLists) (most : ℕ) (ps : List PlaceId) (a b : ℕ) → HasEndsInRange net → All (λ p. p.tokens ≤ most) net.places
    → b < length net.transitions → IsStraight net a ps b → tokens_of net ps ≤ length net.transitions * most
tokens_straight net most ps a b ends marks l h =
    let few = straight_short net (length net.transitions) ps a b (ends_below net ends) l h in
    let each = sum_most (λ q. (place_at net q).tokens) most net (λ id m. marks id.index no_place m) ps a b h.path in
    omega (arith, each, le_times most (length ps) (length net.transitions) (omega arith))

pub time_straight : (net : NetLists) (hold : ℕ) (ps : List PlaceId) (a b : ℕ) → HasEndsInRange net → All (λ p. p.hold ≤ hold) net.places
    → b < length net.transitions → IsStraight net a ps b → time_of net ps ≤ length net.transitions * hold
time_straight net hold ps a b ends holds l h =
    let few = straight_short net (length net.transitions) ps a b (ends_below net ends) l h in
    let each = sum_most (λ q. (place_at net q).hold) hold net (λ id m. holds id.index no_place m) ps a b h.path in
    omega (arith, each, le_times hold (length ps) (length net.transitions) (omega arith))

-- so does a circuit
pub tokens_round : (net : NetLists) (most : ℕ) (ps : List PlaceId) → HasEndsInRange net → All (λ p. p.tokens ≤ most) net.places
    → IsCircuit net ps → tokens_of net ps ≤ length net.transitions * most
tokens_round net most ps ends marks c =
    let few = loop_short net (length net.transitions) ps (ends_below net ends) c in
    let each = sum_most (λ q. (place_at net q).tokens) most net (λ id m. marks id.index no_place m) ps c.closed.0 c.closed.0 c.closed.1 in
    omega (arith, each, le_times most (length ps) (length net.transitions) few)
