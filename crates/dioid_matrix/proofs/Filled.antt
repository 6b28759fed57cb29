-- A list of elements each of which fits and has its value.
use Rattle.std.specs.Prelude.{◌≡◌, ◌<◌, ℕ, List, length, get_or}
use Rattle.dioid.specs.declared.algebra.Dioid.{Ghosts as DioidOf}

module _ {M : Type 0} (d : DioidOf M) where
  -- each place fits and has its value, an element
  pub record HoldsEach (count : ℕ) (fits : ℕ → Type 0) (value : ℕ → M) (r : List M) : Type 0 where
    pub len : length r ≡ count
    pub values : (k : ℕ) → k < count → get_or r k d.zero ≡ value k
    pub elements : (k : ℕ) → k < count → d.is_element (get_or r k d.zero)
    pub fit : (k : ℕ) → k < count → fits k
