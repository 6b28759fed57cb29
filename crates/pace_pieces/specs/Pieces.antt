-- The pace of a net as a function of one holding time, by pieces (chapter 2).
use Rattle.std.specs.Prelude.{ℕ, ◌+◌, ◌*◌, ◌≤◌, ◌≡◌, ◌==◌, if◌then◌else◌, List, [], ◌∷◌, All, Option, Some, None, sum_by}
use Rattle.teg_net.specs.declared.entries.PlaceId.{PlaceId}
use Rattle.teg_net.specs.Changes.{with_hold}
use Rattle.teg_net.specs.Circuits.{place_at, IsCircuit, time_of, tokens_of}
use Rattle.teg_net.specs.GreatestRatios.{IsGreatestRatio, HasNoCircuit, IsAnyPlace}
use Rattle.teg_net.specs.Limits.{greatest_hold, greatest_circuit_time, most_circuit_tokens}
use Rattle.teg_net.specs.Nets.{NetLists}
use Rattle.teg_net.specs.Ratios.{Fraction}
use Rattle.pace_pieces.specs.declared.lines.Line.{Line}
use Rattle.pace_pieces.specs.declared.pieces.Piece.{Piece}
use Rattle.pace_pieces.specs.declared.ranges.BestLine.{BestLine}

-- the time of the places without that of one of them
abbrev pub rest_of : NetLists → PlaceId → List PlaceId → ℕ
rest_of net place ps = sum_by (λ p. if p.index == place.index then 0 else (place_at net p).hold) ps

-- how often the places pass it
abbrev pub passes_of : PlaceId → List PlaceId → ℕ
passes_of place ps = sum_by (λ p. if p.index == place.index then 1 else 0) ps

-- the ratio of the line at a holding time
abbrev pub ratio_at : Line → ℕ → Fraction
ratio_at l h = record { time = l.base + l.passes * h; tokens = l.tokens }

-- time and tokens are those of a circuit within the limits of a net
pub record IsShortLine (l : Line) : Type 0 where
  pub some : 1 ≤ l.tokens
  pub few : l.tokens ≤ most_circuit_tokens
  pub time : (h : ℕ) → h ≤ greatest_hold → l.base + l.passes * h ≤ greatest_circuit_time

-- the line tells the tokens of the circuit, and its time at each holding time of the place
pub record IsLineOf (net : NetLists) (place : PlaceId) (l : Line) : Type 0 where
  pub circuit : IsCircuit net l.circuit.places.items
  pub tokens : tokens_of net l.circuit.places.items ≡ l.tokens
  pub time : (h : ℕ) → time_of (with_hold net place h) l.circuit.places.items ≡ l.base + l.passes * h
  pub short : IsShortLine l

-- at this holding time of the place the circuit of the line has the greatest ratio of the net
pub record IsBestAt (net : NetLists) (place : PlaceId) (hold : ℕ) (l : Line) : Type 0 where
  pub line : IsLineOf net place l
  pub greatest : IsGreatestRatio (with_hold net place hold) IsAnyPlace (ratio_at l hold)

-- there is such a line, or the net has no circuit
abbrev pub IsBestThere : NetLists → PlaceId → ℕ → Option BestLine → Type 0
IsBestThere net place hold None = HasNoCircuit net IsAnyPlace
IsBestThere net place hold (Some b) = (b.hold ≡ hold) × IsBestAt net place hold b.line

-- at the ends of a range of holding times the two lines do
pub record AreBestAtEnds (net : NetLists) (place : PlaceId) (left right : BestLine) : Type 0 where
  pub order : left.hold ≤ right.hold
  pub few : right.hold ≤ greatest_hold
  pub left_best : IsBestAt net place left.hold left.line
  pub right_best : IsBestAt net place right.hold right.line

-- at each holding time of the piece the net has the greatest ratio that its line tells
pub record IsPieceOf (net : NetLists) (place : PlaceId) (p : Piece) : Type 0 where
  pub line : IsLineOf net place p.line
  pub greatest : (h : ℕ) → p.from ≤ h → h ≤ p.to → IsGreatestRatio (with_hold net place h) IsAnyPlace (ratio_at p.line h)

-- that of a range of holding times
pub record IsRangeOf (net : NetLists) (place : PlaceId) (p : Piece) : Type 0 where
  pub order : p.from ≤ p.to
  pub few : p.to ≤ greatest_hold
  pub piece : IsPieceOf net place p

-- the pieces follow each other from one holding time up to before another
abbrev pub FollowOn : ℕ → List Piece → ℕ → Type 0
FollowOn low [] end = low ≡ end
FollowOn low (p ∷ ps) end = (p.from ≡ low) × (p.from ≤ p.to) × FollowOn (p.to + 1) ps end

-- they do, and each is a piece of the net
abbrev pub ArePieces : NetLists → PlaceId → ℕ → ℕ → List Piece → Type 0
ArePieces net place low end pieces = FollowOn low pieces end × All (IsPieceOf net place) pieces
