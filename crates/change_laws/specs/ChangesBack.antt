-- Changes of a net that are changed back (chapter 2).
use Rattle.std.specs.Prelude.{ℕ, ◌<◌, ◌≤◌, ◌≡◌, length}
use Rattle.teg_net.specs.declared.entries.PlaceId.{PlaceId}
use Rattle.teg_net.specs.Changes.{MayHaveTokens, with_hold, with_tokens}
use Rattle.teg_net.specs.Circuits.{place_at}
use Rattle.teg_net.specs.Limits.{greatest_hold}
use Rattle.teg_net.specs.Nets.{NetLists, IsNet}

-- a holding time and then the place's own lead back to the net, and its own may be set
pub record HoldGoesBack (net : NetLists) (id : PlaceId) (hold : ℕ) : Type 0 where
  pub same : with_hold (with_hold net id hold) id (place_at net id).hold ≡ net
  pub keeps : IsNet net → (place_at net id).hold ≤ greatest_hold

-- a number of tokens and then the place's own lead back to the net, and its own may be set
pub record TokensGoBackTo (net : NetLists) (id : PlaceId) (tokens : ℕ) : Type 0 where
  pub same : with_tokens (with_tokens net id tokens) id (place_at net id).tokens ≡ net
  pub keeps : IsNet net → MayHaveTokens (place_at (with_tokens net id tokens) id) (place_at net id).tokens

-- a holding time that is changed back leaves the net as it was
abbrev pub HoldsGoBack : Type 0
HoldsGoBack = (net : NetLists) (id : PlaceId) (hold : ℕ) → id.index < length net.places → HoldGoesBack net id hold

-- a number of tokens that is changed back leaves the net as it was
abbrev pub TokensGoBack : Type 0
TokensGoBack = (net : NetLists) (id : PlaceId) (tokens : ℕ) → id.index < length net.places → TokensGoBackTo net id tokens
