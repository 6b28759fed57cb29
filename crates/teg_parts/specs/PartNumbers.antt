-- Working definitions of the numbering: components get the numbers of their parts in order.
use Rattle.std.specs.Prelude.{ℕ, ◌+◌, ◌<◌, ◌≤◌, ◌≡◌, ◌≢◌, List, Bool, true, false, length, Option, Some, None, is_none, count_by, slice_index_or}
use Rattle.teg_net.specs.declared.entries.PlaceId.{PlaceId}
use Rattle.teg_net.specs.Nets.{NetLists}
use Rattle.teg_net.specs.Circuits.{from_of}
use Rattle.teg_net.specs.Parts.{Reaches, to_of, IsPlaceOfPart}

-- the component of a transition
abbrev pub component_at : List ℕ → ℕ → ℕ
component_at components t = slice_index_or components t 0

-- the number of a transition's part, if it has one
abbrev pub part_number : List (Option ℕ) → ℕ → Option ℕ
part_number numbers t = slice_index_or numbers t None

-- the place enters the component from another one that has no number
pub record BlocksComponent (net : NetLists) (components : List ℕ) (numbers : List (Option ℕ)) (component : ℕ) (p : PlaceId) : Type 0 where
  pub in_range : p.index < length net.places
  pub enters : component_at components (to_of net p) ≡ component
  pub other : component_at components (from_of net p) ≢ component
  pub unnumbered : part_number numbers (from_of net p) ≡ None

-- for each component whether some place blocks it
pub record AreBlocked (net : NetLists) (components : List ℕ) (numbers : List (Option ℕ)) (blocked : List Bool) : Type 0 where
  pub count : length blocked ≡ length components
  pub sound : (c : ℕ) → slice_index_or blocked c false ≡ true → (p : PlaceId) × BlocksComponent net components numbers c p
  pub complete : (c : ℕ) (p : PlaceId) → BlocksComponent net components numbers c p → slice_index_or blocked c false ≡ true

-- a transition without a number whose component no place blocks
pub record IsFree (net : NetLists) (components : List ℕ) (numbers : List (Option ℕ)) (t : ℕ) : Type 0 where
  pub in_range : t < length components
  pub unnumbered : part_number numbers t ≡ None
  pub unblocked : (p : PlaceId) → BlocksComponent net components numbers (component_at components t) p → ⊥

-- the lowest numbered of them
pub record IsFirstFree (net : NetLists) (components : List ℕ) (numbers : List (Option ℕ)) (t : ℕ) : Type 0 where
  pub free : IsFree net components numbers t
  pub first : (u : ℕ) → u < t → IsFree net components numbers u → ⊥

-- how many transitions have no number
abbrev pub without : List (Option ℕ) → ℕ
without numbers = count_by is_none numbers

-- the transitions of the component have the number, and the others what they had
pub record IsGiven (components : List ℕ) (old new : List (Option ℕ)) (component number : ℕ) : Type 0 where
  pub given : (t : ℕ) → t < length components → component_at components t ≡ component → part_number new t ≡ Some number
  pub kept : (t : ℕ) → component_at components t ≢ component → part_number new t ≡ part_number old t
  pub fewer : (t : ℕ) → t < length components → component_at components t ≡ component → part_number old t ≡ None → without new + 1 ≤ without old

-- the transition has no number up to j
abbrev pub IsAfter : List (Option ℕ) → ℕ → ℕ → Type 0
IsAfter numbers j u = (i : ℕ) → part_number numbers u ≡ Some i → j < i

-- each transition of another component that reaches this one has a number below j
abbrev pub MayBy : NetLists → List ℕ → List (Option ℕ) → ℕ → ℕ → Type 0
MayBy net components numbers j u =
    (w : ℕ) → w < length components → Reaches net w u → component_at components w ≢ component_at components u → (i : ℕ) × (part_number numbers w ≡ Some i) × (i < j)

-- transition t has number j, and each later one that may take j is higher
pub record IsFirstOfPart (net : NetLists) (components : List ℕ) (numbers : List (Option ℕ)) (j t : ℕ) : Type 0 where
  pub here : part_number numbers t ≡ Some j
  pub lower : (u : ℕ) → u < length components → IsAfter numbers j u → MayBy net components numbers j u → t < u

-- the numbers below k are given in order
pub record ArePartsNumbered (net : NetLists) (components : List ℕ) (numbers : List (Option ℕ)) (k : ℕ) : Type 0 where
  pub count : length numbers ≡ length components
  pub same : (t u : ℕ) → t < length components → u < length components → component_at components t ≡ component_at components u → part_number numbers t ≡ part_number numbers u
  pub apart : (t u j : ℕ) → part_number numbers t ≡ Some j → part_number numbers u ≡ Some j → component_at components t ≡ component_at components u
  pub below : (t j : ℕ) → part_number numbers t ≡ Some j → j < k
  pub taken : (j : ℕ) → j < k → (t : ℕ) × IsFirstOfPart net components numbers j t
  pub upstream : (p : PlaceId) (j : ℕ) → p.index < length net.places → part_number numbers (to_of net p) ≡ Some j → (i : ℕ) × (part_number numbers (from_of net p) ≡ Some i) × (i ≤ j)

-- each transition has a number
abbrev pub AllNumbered : List (Option ℕ) → Type 0
AllNumbered numbers = (t : ℕ) → t < length numbers → part_number numbers t ≢ None

-- the numbers as a list of their own
pub record AreNumbersListed (numbers : List (Option ℕ)) (plain : List ℕ) : Type 0 where
  pub count : length plain ≡ length numbers
  pub same : (t : ℕ) → t < length numbers → part_number numbers t ≡ Some (slice_index_or plain t 0)

-- the numbers of the parts, in order, with the number of parts
pub record AreInOrderOf (net : NetLists) (components part_of : List ℕ) (k : ℕ) : Type 0 where
  pub numbers : List (Option ℕ)
  pub numbered : ArePartsNumbered net components numbers k
  pub told : AreNumbersListed numbers part_of

-- for each part whether some place has both ends in it
pub record AreInnerMarks (net : NetLists) (part_of : List ℕ) (inner : List Bool) : Type 0 where
  pub sound : (k : ℕ) → slice_index_or inner k false ≡ true → (q : PlaceId) × IsPlaceOfPart net part_of k q
  pub complete : (k : ℕ) (q : PlaceId) → IsPlaceOfPart net part_of k q → slice_index_or inner k false ≡ true

-- a transition without a number whose component is not marked as blocked
pub record IsOpenFor (components : List ℕ) (numbers : List (Option ℕ)) (blocked : List Bool) (t : ℕ) : Type 0 where
  pub in_range : t < length components
  pub unnumbered : part_number numbers t ≡ None
  pub unmarked : slice_index_or blocked (component_at components t) false ≡ false

-- the first of them
pub record IsFirstOpen (components : List ℕ) (numbers : List (Option ℕ)) (blocked : List Bool) (t : ℕ) : Type 0 where
  pub is_open : IsOpenFor components numbers blocked t
  pub first : (u : ℕ) → u < t → IsOpenFor components numbers blocked u → ⊥
