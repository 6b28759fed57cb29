-- The standard form of a net: the greatest times of its paths without tokens, and of those whose first place alone has tokens
-- (chapter 2, the explicit form).
use Rattle.std.specs.Prelude.{ℕ, ◌<◌, ◌≤◌, ◌≡◌, ◌≢◌, ◌⊎◌, List, ◌∷◌, All, Any, AllPairs}
use Rattle.teg_net.specs.declared.entries.PlaceId.{PlaceId}
use Rattle.teg_net.specs.Nets.{NetLists}
use Rattle.teg_net.specs.Circuits.{place_at, IsPathBetween, time_of, tokens_of}
use Rattle.teg_form.specs.declared.stars.StarEntry.{StarEntry}
use Rattle.teg_form.specs.declared.entries.Entry.{Entry}

-- the two lists of a form
pub record FormLists : Type 0 where
  pub stars : List StarEntry
  pub entries : List Entry

-- some path without tokens leads from a to b in this time
pub record IsTimeOfFreePath (net : NetLists) (a b time : ℕ) : Type 0 where
  pub places : List PlaceId
  pub path : IsPathBetween net a places b
  pub no_tokens : tokens_of net places ≡ 0
  pub is : time ≡ time_of net places

-- some path whose first place has so many tokens, and whose others have none, leads from a to b in this time
pub record IsTimeOfMarkedPath (net : NetLists) (a b tokens time : ℕ) : Type 0 where
  pub first : PlaceId
  pub others : List PlaceId
  pub path : IsPathBetween net a (first ∷ others) b
  pub first_tokens : (place_at net first).tokens ≡ tokens
  pub no_tokens : tokens_of net others ≡ 0
  pub is : time ≡ time_of net (first ∷ others)

-- the time is one of these, and none is greater
pub record IsGreatestTime (IsTime : ℕ → Type 0) (time : ℕ) : Type 0 where
  pub reached : IsTime time
  pub greatest : (other : ℕ) → IsTime other → other ≤ time

-- between two different transitions, the greatest time of a path without tokens
pub record IsStarEntry (net : NetLists) (e : StarEntry) : Type 0 where
  pub different : e.to.index ≢ e.from.index
  pub time : IsGreatestTime (IsTimeOfFreePath net e.from.index e.to.index) e.time

-- the first stands before the second: by to, then from
abbrev pub IsStarBefore : StarEntry → StarEntry → Type 0
IsStarBefore e f = (e.to.index < f.to.index) ⊎ ((e.to.index ≡ f.to.index) × (e.from.index < f.from.index))

-- all star entries of the net and no others, sorted
pub record AreStars (net : NetLists) (stars : List StarEntry) : Type 0 where
  pub known : All (IsStarEntry net) stars
  pub all : (a b time : ℕ) → b ≢ a → IsTimeOfFreePath net a b time → Any (λ e. (e.to.index ≡ b) × (e.from.index ≡ a)) stars
  pub sorted : AllPairs IsStarBefore stars

-- for at least one token, the greatest time of a path whose first place has so many tokens, and whose others have none
pub record IsEntry (net : NetLists) (e : Entry) : Type 0 where
  pub marked : 1 ≤ e.tokens
  pub time : IsGreatestTime (IsTimeOfMarkedPath net e.from.index e.to.index e.tokens) e.time

-- the first stands before the second: by to, from, tokens
abbrev pub IsEntryBefore : Entry → Entry → Type 0
IsEntryBefore e f =
    (e.to.index < f.to.index)
    ⊎ ((e.to.index ≡ f.to.index) × ((e.from.index < f.from.index) ⊎ ((e.from.index ≡ f.from.index) × (e.tokens < f.tokens))))

-- all entries of the net and no others, sorted
pub record AreEntries (net : NetLists) (entries : List Entry) : Type 0 where
  pub known : All (IsEntry net) entries
  pub all : (a b tokens time : ℕ) → 1 ≤ tokens → IsTimeOfMarkedPath net a b tokens time
      → Any (λ e. (e.to.index ≡ b) × (e.from.index ≡ a) × (e.tokens ≡ tokens)) entries
  pub sorted : AllPairs IsEntryBefore entries

-- the standard form of the net
pub record IsStandardFormOf (net : NetLists) (form : FormLists) : Type 0 where
  pub stars : AreStars net form.stars
  pub entries : AreEntries net form.entries
