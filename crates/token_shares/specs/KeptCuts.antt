-- Working definitions of circuits that are kept, and of what is known of numbers that begin alike.
use Rattle.std.specs.Prelude.{ℕ, ◌+◌, ◌*◌, ◌<◌, ◌≤◌, ◌≡◌, ◌==◌, if◌then◌else◌, List, [], ◌∷◌, ◌++◌, length, map, sum, sum_by, All}
use Rattle.teg_net.specs.declared.entries.PlaceId.{PlaceId}
use Rattle.teg_net.specs.Circuits.{IsCircuit, time_of, tokens_of}
use Rattle.teg_net.specs.Limits.{greatest_circuit_time, most_circuit_tokens, most_transitions}
use Rattle.teg_net.specs.Nets.{NetLists}
use Rattle.teg_net.specs.Ratios.{Fraction}
use Rattle.teg_check.specs.Ranks.{IsRanking}
use Rattle.teg_sizing.specs.ValueRounds.{IsTarget}
use Rattle.token_shares.specs.declared.cuts.Cut.{Cut}
use Rattle.token_shares.specs.BareNets.{HasNoDates}
use Rattle.token_shares.specs.TokenShares.{AreEnough, HasRoom}

-- 1 for the place itself, 0 for others
abbrev pub one_at : PlaceId → PlaceId → ℕ
one_at p q = if q.index == p.index then 1 else 0

-- how often the path passes the place
abbrev pub times_passed : PlaceId → List PlaceId → ℕ
times_passed p ps = sum_by (one_at p) ps

-- the further tokens of a path that passes each place so often
abbrev pub further_by : List ℕ → List ℕ → ℕ
further_by [] ds = 0
further_by (n ∷ passes) [] = 0
further_by (n ∷ passes) (d ∷ ds) = n * d + further_by passes ds

-- time, tokens and passages keep the limits of a circuit
pub record IsShortCut (c : Cut) : Type 0 where
  pub time : c.time ≤ greatest_circuit_time
  pub tokens : c.tokens ≤ most_circuit_tokens
  pub passes : All (λ n. n ≤ most_transitions) c.passes.items

-- some circuit of the net has this time and these tokens, and passes each place so often
pub record IsCut (net : NetLists) (places : List PlaceId) (c : Cut) : Type 0 where
  pub places_on : List PlaceId
  pub circuit : IsCircuit net places_on
  pub time : c.time ≡ time_of net places_on
  pub tokens : c.tokens ≡ tokens_of net places_on
  pub passes : c.passes.items ≡ map (λ p. times_passed p places_on) places
  pub short : IsShortCut c

-- what is asked: one to six places of a net without dates, which has these ranks, and a target
pub record AreAsked (net : NetLists) (ranks : List ℕ) (places : List PlaceId) (r : Fraction) : Type 0 where
  pub ranking : IsRanking net ranks
  pub no_dates : HasNoDates net
  pub some : 1 ≤ length places
  pub few : length places ≤ 6
  pub in_range : All (λ p. p.index < length net.places) places
  pub target : IsTarget r

-- these numbers are enough, and find room
abbrev pub AreShares : NetLists → Fraction → List PlaceId → List ℕ → Type 0
AreShares net r places ds = AreEnough net r places ds × HasRoom net places ds

-- no numbers that begin so and go on with so many tokens are
abbrev pub NoneGoesOn : NetLists → Fraction → List PlaceId → List ℕ → ℕ → Type 0
NoneGoesOn net r places begun rest = (ds : List ℕ) → sum ds ≡ rest → AreShares net r places (begun ++ ds) → ⊥

-- of those that go on with a number below this none are
abbrev pub NoneGoesOnBelow : NetLists → Fraction → List PlaceId → List ℕ → ℕ → ℕ → Type 0
NoneGoesOnBelow net r places begun rest next = (d : ℕ) (ds : List ℕ) → d < next → d + sum ds ≡ rest → AreShares net r places (begun ++ d ∷ ds) → ⊥
