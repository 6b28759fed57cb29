-- What a game keeps, and for which net it stands.
use Rattle.std.specs.Prelude.{ℕ, ◌<◌, ◌≡◌, ◌==◌, List, [], Option, Some, None, length, All, count_by, slice_get, slice_index_or}
use Rattle.teg_net.specs.declared.entries.PlaceId.{PlaceId}
use Rattle.teg_net.specs.declared.entries.InputList.{InputList}
use Rattle.teg_net.specs.declared.places_of.PlaceEnd.TheVariants.{To}
use Rattle.teg_net.specs.Nets.{NetLists, IsNet}
use Rattle.teg_net.specs.PlaceLists.{ArePlacesOf}
use Rattle.teg_net.specs.Inputs.{list_of_input}
use Rattle.run_laws.specs.declared.fired.Fired.{Fired}
use Rattle.run_laws.specs.Runs.{dates_of_transition, IsLegalRun}
use Rattle.run_laws.specs.Earliest.{tokens_after}
use Rattle.teg_replay.specs.Longest.{ListsLongestAt}

-- a run, and how many transitions its columns of dates are kept for
pub record Past : Type 0 where
  pub width : ℕ
  pub run : List Fired

-- the columns are the dates of the firings of each transition
pub record AreDateColumns (run : List Fired) (columns : List (List ℕ)) : Type 0 where
  pub same : (t : ℕ) → t < length columns → slice_index_or columns t [] ≡ dates_of_transition run t
  pub known : All (λ f. f.transition.index < length columns) run

-- of each transition the places that lead into it, those of them that are held longest, how many leave it, and where its input list
-- stands
pub record PlaceEnds : Type 0 where
  pub into : List (List PlaceId)
  pub longest : List (List PlaceId)
  pub leaving : List ℕ
  pub lists : List (Option ℕ)

-- the list that stands there, if one does
abbrev pub input_list_at : List InputList → Option ℕ → Option InputList
input_list_at lists None = None
input_list_at lists (Some position) = slice_get lists position

-- the ends of the net's places, and its input lists
pub record AreEnds (net : NetLists) (ends : PlaceEnds) : Type 0 where
  pub into : ArePlacesOf net To ends.into
  pub longest_width : length ends.longest ≡ length net.transitions
  pub longest : (t : ℕ) → t < length net.transitions → ListsLongestAt net t (slice_index_or ends.longest t [])
  pub leaving_width : length ends.leaving ≡ length net.transitions
  pub leaving : (t : ℕ) → t < length net.transitions → slice_index_or ends.leaving t 0 ≡ count_by (λ p. p.from.index == t) net.places
  pub lists_width : length ends.lists ≡ length net.transitions
  pub lists : (t : ℕ) → t < length net.transitions → input_list_at net.inputs (slice_index_or ends.lists t None) ≡ list_of_input net t

-- a game as contracts see it: the run so far, with what it keeps beside it for its net
pub record GameState : Type 0 where
  pub run : List Fired
  pub width : ℕ
  pub ends : PlaceEnds
  pub tokens : ℕ

-- the game stands for the net: its run is a legal one, and what it keeps beside it is that of the net
pub record IsGameOf (net : NetLists) (game : GameState) : Type 0 where
  pub rules : IsNet net
  pub legal : IsLegalRun net game.run
  pub width : game.width ≡ length net.transitions
  pub ends : AreEnds net game.ends
  pub tokens : game.tokens ≡ tokens_after net game.run
