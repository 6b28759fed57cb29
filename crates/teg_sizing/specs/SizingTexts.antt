-- The text of an answer, and that it tells the answer.
use Rattle.std.specs.Prelude.{ℕ, ◌<◌, ◌≡◌, ◌^◌, List, [], ◌∷◌, ◌++◌, length, codes, Option, Some, None, ⊤}
use Rattle.std.specs.Fmt.{decimal}
use Rattle.teg_net.specs.declared.entries.PlaceId.{PlaceId}
use Rattle.teg_net.specs.Nets.{NetLists, IsNet}
use Rattle.teg_net.specs.Ratios.{Fraction}
use Rattle.teg_net.specs.Circuits.{AreInRange}
use Rattle.teg_text.specs.Lines.{phrase, written}
use Rattle.teg_text.specs.WordsOfNames.{circuit_line, name_of_place}
use Rattle.teg_text.specs.ValueWords.{AreBytes, label_word, ratio_word}
use Rattle.teg_sizing.specs.declared.sizing.Sizing.{Sizing}
use Rattle.teg_sizing.specs.declared.sizing.Sizing.TheVariants.{Enough, Impossible}

-- what an answer says: a number, and perhaps a circuit; or a circuit alone
pub data ToldSizing : Type 0 where
  EnoughTold : (extra : ℕ) (circuit : Option (List PlaceId)) → ToldSizing
  ImpossibleTold : (circuit : List PlaceId) → ToldSizing

-- an answer, as it is told
abbrev pub told_sizing : Sizing → ToldSizing
told_sizing (Enough extra None) = EnoughTold extra None
told_sizing (Enough extra (Some circuit)) = EnoughTold extra (Some circuit.places.items)
told_sizing (Impossible circuit) = ImpossibleTold circuit.places.items

-- the line that says how many further tokens are enough
abbrev pub enough_line : NetLists → PlaceId → Fraction → ℕ → List (List ℕ)
enough_line net p r extra = codes "size" ∷ name_of_place net p ∷ ratio_word r.time r.tokens ∷ codes "extra" ∷ decimal extra ∷ []

-- the line that says that no number of them is enough
abbrev pub impossible_line : NetLists → PlaceId → Fraction → List (List ℕ)
impossible_line net p r = codes "size" ∷ name_of_place net p ∷ ratio_word r.time r.tokens ∷ codes "impossible" ∷ []

-- the lines of an answer about a place and a target
abbrev pub sizing_lines : NetLists → PlaceId → Fraction → ToldSizing → List (List (List ℕ))
sizing_lines net p r (EnoughTold extra None) = enough_line net p r extra ∷ []
sizing_lines net p r (EnoughTold extra (Some circuit)) = enough_line net p r extra ∷ circuit_line net circuit ∷ []
sizing_lines net p r (ImpossibleTold circuit) = impossible_line net p r ∷ circuit_line net circuit ∷ []

-- that no place has this name
abbrev pub no_place_lines : List ℕ → List (List (List ℕ))
no_place_lines name = (phrase (codes "refused: no place") ++ label_word name ∷ []) ∷ []

-- the circuit that is told, where one is, is in the net
abbrev pub HasSizingCircuitIn : NetLists → ToldSizing → Type 0
HasSizingCircuitIn net (EnoughTold extra None) = ⊤
HasSizingCircuitIn net (EnoughTold extra (Some circuit)) = AreInRange net circuit
HasSizingCircuitIn net (ImpossibleTold circuit) = AreInRange net circuit

-- the number that is told has 64 bits
abbrev pub HasNumberIn : ToldSizing → Type 0
HasNumberIn (EnoughTold extra circuit) = extra < 2 ^ 64
HasNumberIn (ImpossibleTold circuit) = ⊤

-- an answer about a place of the net and a target of 64 bits
pub record IsSizingTold (net : NetLists) (p : PlaceId) (r : Fraction) (s : ToldSizing) : Type 0 where
  pub place : p.index < length net.places
  pub time : r.time < 2 ^ 64
  pub tokens : r.tokens < 2 ^ 64
  pub circuit : HasSizingCircuitIn net s
  pub number : HasNumberIn s

-- what is said of a net: an answer about a place and a target; or that no place has this name
pub data SaidSizing : Type 0 where
  SizingSaid : (p : PlaceId) (r : Fraction) (s : ToldSizing) → SaidSizing
  NoPlaceSaid : (name : List ℕ) → SaidSizing

-- the lines of what is said of a net: of an answer about a place, or that no place has this name
abbrev pub said_lines : NetLists → SaidSizing → List (List (List ℕ))
said_lines net (SizingSaid p r s) = sizing_lines net p r s
said_lines net (NoPlaceSaid name) = no_place_lines name

-- what is said is about the net, or of a name of bytes
abbrev pub IsSizingSaid : NetLists → SaidSizing → Type 0
IsSizingSaid net (SizingSaid p r s) = IsSizingTold net p r s
IsSizingSaid net (NoPlaceSaid name) = AreBytes name

-- whatever is said of one net: what has the same text is the same
abbrev pub TextsOfSizingsDiffer : Type 0
TextsOfSizingsDiffer = (net : NetLists) → IsNet net → (a b : SaidSizing) → IsSizingSaid net a → IsSizingSaid net b
    → written (said_lines net a) ≡ written (said_lines net b) → a ≡ b
