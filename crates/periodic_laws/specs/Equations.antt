-- The linear system of places over gains: shift k of a series stands for firing k + 1 (chapter 5).
use Rattle.std.specs.Prelude.{◌≡◌, ℕ, zero, suc, pos, ◌+◌, List, [], ◌∷◌, true, eqb, ltb, cond, ◌&&◌}
use Rattle.series_ops.specs.dioid.declared.dates.Date.{Date}
use Rattle.series_ops.specs.dioid.declared.dates.Date.TheVariants.{Early}
use Rattle.series_ops.specs.dioid.declared.algebra.Dioid.{Ghosts as DioidOf}
use Rattle.series_ops.specs.dioid.declared.algebra.Kleene.{Ghosts as KleeneOf}
use Rattle.settled_laws.specs.teg_net.declared.entries.Place.{Place}
use Rattle.series_ops.specs.dioid.Dates.{later_of}
use Rattle.settled_laws.specs.teg_model.Systems.{System}
use Rattle.series_ops.specs.series_laws.SeriesForms.{value_at, monomial_at}
use Rattle.series_ops.specs.declared.gains.Gain.{Gain}
use Rattle.series_ops.specs.Gains.{IsCanonicalGain, gain_zero, gain_one, gain_sum, gain_product, gain_star, GainSumFits, ProductFits, StarFits}

-- ---- the model of gains, in the words of their implementation

-- gains as a dioid
abbrev pub gains : DioidOf Gain
gains = record {
  TAKES_MEMORY = true;
  is_element = IsCanonicalGain;
  zero = gain_zero;
  one = gain_one;
  sum = gain_sum;
  product = gain_product;
  sum_fits = GainSumFits;
  product_fits = ProductFits;
}

-- the star of gains
abbrev pub gain_stars : KleeneOf Gain
gain_stars = record { star = gain_star; star_fits = StarFits }

-- ---- the coefficients as functions of a shift

-- Early below the shift c, and the date d from there on
abbrev pub stair : ℕ → Date → ℕ → Date
stair c d k = cond (ltb k c) Early d

-- what a place adds to the entry for firings of i that wait for firings of j: the monomial of its tokens and its hold
abbrev pub entry_of_place : Place → ℕ → ℕ → ℕ → Date
entry_of_place p i j k = cond (eqb p.to.index i && eqb p.from.index j) (monomial_at p.tokens (pos p.hold) k) Early

-- the entry: the sum over the places from j to i, Early where there is none
abbrev pub entry_at : List Place → ℕ → ℕ → ℕ → Date
entry_at [] i j k = Early
entry_at (p ∷ ps) i j k = later_of (entry_of_place p i j k) (entry_at ps i j k)

-- the first m tokens of a place: the latest date of those that are taken up to shift k
abbrev pub tokens_at : (ℕ → Date) → ℕ → ℕ → Date
tokens_at dates zero k = Early
tokens_at dates (suc m) k = later_of (tokens_at dates m k) (stair m (dates (m + 1)) k)

-- what the initial tokens of a place add to the right side for i
abbrev pub start_place_at : (Place → ℕ → Date) → Place → ℕ → ℕ → Date
start_place_at initial p i k = cond (eqb p.to.index i) (tokens_at (initial p) p.tokens k) Early

-- what the initial tokens of the places into i add to the right side for i
abbrev pub start_at : (Place → ℕ → Date) → List Place → ℕ → ℕ → Date
start_at initial [] i k = Early
start_at initial (p ∷ ps) i k = later_of (start_place_at initial p i k) (start_at initial ps i k)

-- the gains of the linear system of a system of places: an entry for each two transitions, and the right side of the initial
-- tokens and the releases
pub record AreCoefficients (s : System) (entries : ℕ → ℕ → Gain) (right : ℕ → Gain) : Type 0 where
  pub entries_are : (i j : ℕ) → IsCanonicalGain (entries i j)
  pub entry_values : (i j k : ℕ) → value_at (entries i j).series k ≡ entry_at s.places i j k
  pub right_are : (i : ℕ) → IsCanonicalGain (right i)
  pub right_values : (i k : ℕ) → value_at (right i).series k ≡ later_of (start_at s.initial s.places i k) (s.release i (k + 1))
