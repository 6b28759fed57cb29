-- The gains of the linear system of places, and its least solution: they are told by lists alone (chapter 5).
use Rattle.std.specs.Prelude.{ℕ, pos, zero, suc, ◌+◌, ◌-◌, List, [], ◌∷◌, Option, Some, None, length, eqb, cond, ◌&&◌}
use Rattle.series_ops.specs.dioid.declared.dates.Date.{Date}
use Rattle.series_ops.specs.dioid.declared.dates.Date.TheVariants.{Early, At}
use Rattle.dioid_matrix.specs.MatrixStars.{star_of}
use Rattle.dioid_matrix.specs.Sums.{dot}
use Rattle.series_ops.specs.series_laws.SeriesForms.{Form, canonical_of}
use Rattle.series_ops.specs.declared.gains.Gain.{Gain}
use Rattle.series_ops.specs.Gains.{gain_of, gain_zero, gain_sum}
use Rattle.settled_laws.specs.teg_net.declared.entries.Again.{Again}
use Rattle.settled_laws.specs.teg_net.declared.entries.InputList.{InputList}
use Rattle.settled_laws.specs.teg_net.declared.entries.Place.{Place}
use Rattle.settled_laws.specs.teg_net.Nets.{NetLists}
use Rattle.settled_laws.specs.teg_net.Inputs.{list_of_input}
use Rattle.settled_laws.specs.teg_model.Systems.{System}
use Rattle.settled_laws.specs.teg_model.Datings.{at_input, listed_releases, system_of}
use Rattle.periodic_laws.specs.Equations.{gains, gain_stars, stair}

-- ---- the coefficients

-- the gain of a stair
abbrev pub stair_gain : ℕ → Date → Gain
stair_gain c d = gain_of (canonical_of (stair c d) c 1)

-- the monomial of a place from j to i
unfoldable pub place_gain : Place → ℕ → ℕ → Gain
place_gain p i j = cond (eqb p.to.index i && eqb p.from.index j) (stair_gain p.tokens (At (pos p.hold))) gain_zero

-- the entry: the sum over the places from j to i
unfoldable pub entry_of_places : List Place → ℕ → ℕ → Gain
entry_of_places [] i j = gain_zero
entry_of_places (p ∷ ps) i j = gain_sum (place_gain p i j) (entry_of_places ps i j)

-- the first m tokens of a place
unfoldable pub tokens_gain : (ℕ → Date) → ℕ → Gain
tokens_gain dates zero = gain_zero
tokens_gain dates (suc m) = gain_sum (tokens_gain dates m) (stair_gain m (dates (m + 1)))

-- the initial tokens of a place into i
unfoldable pub start_place : (Place → ℕ → Date) → Place → ℕ → Gain
start_place initial p i = cond (eqb p.to.index i) (tokens_gain (initial p) p.tokens) gain_zero

-- the initial tokens of all places into i
unfoldable pub start_of_places : (Place → ℕ → Date) → List Place → ℕ → Gain
start_of_places initial [] i = gain_zero
start_of_places initial (p ∷ ps) i = gain_sum (start_place initial p i) (start_of_places initial ps i)

-- the right side: the initial tokens and the release
unfoldable pub right_side : (Place → ℕ → Date) → List Place → (ℕ → Gain) → ℕ → Gain
right_side initial ps releases i = gain_sum (start_of_places initial ps i) (releases i)

-- the product of the star of the entries and the right side
unfoldable pub column : ℕ → System → (ℕ → Gain) → ℕ → Gain
column count s releases i = dot gains count (star_of gains gain_stars count (entry_of_places s.places) i) (right_side s.initial s.places releases)

-- ---- the releases of a net

-- the number of shifts after which a list repeats; one that ends is Never past its end
abbrev pub turn_of_list : Option Again → ℕ
turn_of_list None = 1
turn_of_list (Some a) = a.every

-- the shift from which a list repeats
abbrev pub begin_of_list : ℕ → Option Again → ℕ
begin_of_list long None = long
begin_of_list long (Some a) = long - a.every

-- the number of shifts after which the list of an input repeats, 1 where there is none
abbrev pub period_of_list : Option InputList → ℕ
period_of_list None = 1
period_of_list (Some l) = turn_of_list l.again

-- the shift from which its releases repeat, 0 where it has no list
abbrev pub begin_of : Option InputList → ℕ
begin_of None = 0
begin_of (Some l) = begin_of_list (length l.dates) l.again

-- the releases of a transition by the input lists of the net
unfoldable pub release_gain : NetLists → ℕ → Gain
release_gain net t = gain_of (canonical_of (λ k. at_input net t (listed_releases net t (k + 1)) Early) (begin_of (list_of_input net t)) (period_of_list (list_of_input net t)))

-- the form of the least dates of a transition: shift k stands for firing k + 1
abbrev pub dates_form : NetLists → ℕ → Form
dates_form net t = (column (length net.transitions) (system_of net (listed_releases net)) (release_gain net) t).series
