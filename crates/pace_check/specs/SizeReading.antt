-- Working definitions of how texts of numbers of tokens are read.
use Rattle.std.specs.Prelude.{ℕ, ◌<◌, ◌≤◌, ◌≡◌, ◌^◌, ◌∷◌, [], List, Option, Some, None, IfSome, length, slice_index_or}
use Rattle.teg_net.specs.declared.entries.PlaceId.{PlaceId}
use Rattle.teg_net.specs.Circuits.{AreInRange}
use Rattle.teg_net.specs.Nets.{NetLists}
use Rattle.teg_net.specs.Ratios.{Fraction}
use Rattle.teg_text.specs.Lines.{phrase, written}
use Rattle.teg_text.specs.WordsOfNames.{circuit_line}
use Rattle.teg_certificates.specs.Sizes.{IsEnough}
use Rattle.pace_check.specs.declared.sizes.ShownSize.{ShownSize}
use Rattle.pace_check.specs.ShownSizes.{IsAskedSize, IsShownSize, TellsEnoughBy, TellsImpossibleBy, enough_words, impossible_words}

-- what a text tells: a place, a target, the number that is enough, if one is, and a circuit, which is empty where none is told
pub record SizeWords : Type 0 where
  pub place : PlaceId
  pub target : Fraction
  pub extra : Option ℕ
  pub circuit : List PlaceId

-- what the first line tells
pub record FirstWords : Type 0 where
  pub place : PlaceId
  pub target : Fraction
  pub extra : Option ℕ

-- what a number, a place and a target tell together, where each is told
abbrev pub first_of : Option (Option ℕ) → Option PlaceId → Option Fraction → Option FirstWords
first_of None place target = None
first_of (Some extra) None target = None
first_of (Some extra) (Some place) None = None
first_of (Some extra) (Some place) (Some target) = Some (record { place = place; target = target; extra = extra })

-- what a first line and a circuit tell together, where each is told
abbrev pub size_of : Option FirstWords → Option (List PlaceId) → Option SizeWords
size_of None circuit = None
size_of (Some first) None = None
size_of (Some first) (Some circuit) = Some (record { place = first.place; target = first.target; extra = first.extra; circuit = circuit })

-- what is read of the words of a first line; where they are those of a number or a target that may be asked, it is that
pub record ReadsFirst (net : NetLists) (words : List (List ℕ)) (read : Option FirstWords) : Type 0 where
  pub enough : (place : PlaceId) (target : Fraction) (extra : ℕ) → IsAskedSize net place target → extra < 2 ^ 64 → words ≡ enough_words net place target extra
      → read ≡ Some (record { place = place; target = target; extra = Some extra })
  pub impossible : (place : PlaceId) (target : Fraction) → IsAskedSize net place target → words ≡ impossible_words net place target
      → read ≡ Some (record { place = place; target = target; extra = None })

-- the circuit that is read of the words of a second line: its places are of the net, and it is that of a circuit that is told
pub record ReadsCircuit (net : NetLists) (words : List (List ℕ)) (read : Option (List PlaceId)) : Type 0 where
  pub in_range : IfSome read (AreInRange net)
  pub told : (ps : List PlaceId) → AreInRange net ps → words ≡ circuit_line net ps → read ≡ Some ps

-- the same of lines; it is empty where there is no second
pub record ReadsSecond (net : NetLists) (lines : List (List ℕ)) (read : Option (List PlaceId)) : Type 0 where
  pub in_range : IfSome read (AreInRange net)
  pub empty : length lines < 2 → read ≡ Some []
  pub told : 2 ≤ length lines → (ps : List PlaceId) → AreInRange net ps → phrase (slice_index_or lines 1 []) ≡ circuit_line net ps → read ≡ Some ps

-- what is read of a text; where it is that of a number or a target that may be asked, with or without the line of a circuit, it is that
pub record ReadsSize (net : NetLists) (text : List ℕ) (read : Option SizeWords) : Type 0 where
  pub in_range : IfSome read (λ told. AreInRange net told.circuit)
  pub alone : (place : PlaceId) (target : Fraction) (extra : ℕ) → IsAskedSize net place target → extra < 2 ^ 64 → text ≡ written (enough_words net place target extra ∷ [])
      → read ≡ Some (record { place = place; target = target; extra = Some extra; circuit = [] })
  pub enough : (place : PlaceId) (target : Fraction) (extra : ℕ) (circuit : List PlaceId) → IsAskedSize net place target → extra < 2 ^ 64 → AreInRange net circuit
      → text ≡ written (enough_words net place target extra ∷ circuit_line net circuit ∷ [])
      → read ≡ Some (record { place = place; target = target; extra = Some extra; circuit = circuit })
  pub impossible : (place : PlaceId) (target : Fraction) (circuit : List PlaceId) → IsAskedSize net place target → AreInRange net circuit
      → text ≡ written (impossible_words net place target ∷ circuit_line net circuit ∷ [])
      → read ≡ Some (record { place = place; target = target; extra = None; circuit = circuit })

-- what is shown of a number that is told with this circuit; none just where it is not told so or not enough
abbrev pub ShowsEnoughBy : NetLists → List ℕ → PlaceId → Fraction → ℕ → List PlaceId → Option ShownSize → Type 0
ShowsEnoughBy net text place target extra circuit (Some shown) = IsShownSize net text shown
ShowsEnoughBy net text place target extra circuit None = TellsEnoughBy net text place target extra circuit → IsEnough net target place extra → ⊥

-- what is shown of a target that no number reaches, told with this circuit; none just where it is not told so
abbrev pub ShowsImpossibleBy : NetLists → List ℕ → PlaceId → Fraction → List PlaceId → Option ShownSize → Type 0
ShowsImpossibleBy net text place target circuit (Some shown) = IsShownSize net text shown
ShowsImpossibleBy net text place target circuit None = TellsImpossibleBy net text place target circuit → ⊥
