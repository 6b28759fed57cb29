-- Delays of which no two are of one departure, as entries without two of one key.
use Rattle.std.proofs.Common.{ℕ, ◌≡◌, ◌≢◌, List, ap, ◌∙◌}
use Rattle.std.specs.Prelude.{AllPairs, Any}
use Rattle.delay_laws.specs.declared.table.Delay.{Delay}

-- the departure that is delayed
abbrev pub departure : Delay → ℕ × ℕ
departure d = (d.transition.index, d.number)

-- what stands past the end of the delays
abbrev pub no_delay : Delay
no_delay = record { row = 0; transition = record { index = 0 }; number = 0; by = 0 }

abbrev pub AreOfApartDepartures : List Delay → Type 0
AreOfApartDepartures ds = AllPairs (λ c d. c.transition.index ≡ d.transition.index → c.number ≢ d.number) ds

same_departure : (c d : Delay) → c.transition.index ≡ d.transition.index → c.number ≡ d.number → departure c ≡ departure d
same_departure c d e f = ap (λ (i : ℕ). (i, c.number)) e ∙ ap (λ (k : ℕ). (d.transition.index, k)) f

pub apart_keys : (ds : List Delay) → AreOfApartDepartures ds → AllPairs (λ c d. departure c ≢ departure d) ds
apart_keys ds h i j d l m e = h i j d l m (ap (λ (k : ℕ × ℕ). k.0) e) (ap (λ (k : ℕ × ℕ). k.1) e)

-- a delay of this departure, by its key and back
pub any_key : (ds : List Delay) (e : Delay) → Any (λ d. (d.transition.index ≡ e.transition.index) × (d.number ≡ e.number)) ds → Any (λ d. departure d ≡ departure e) ds
any_key ds e (k, x, l, is, same) = (k, x, l, is, same_departure x e same.0 same.1)

pub any_departure : (ds : List Delay) (e : Delay) → Any (λ d. departure d ≡ departure e) ds → Any (λ d. (d.transition.index ≡ e.transition.index) × (d.number ≡ e.number)) ds
any_departure ds e (k, x, l, is, same) = (k, x, l, is, (ap (λ (z : ℕ × ℕ). z.0) same, ap (λ (z : ℕ × ℕ). z.1) same))
