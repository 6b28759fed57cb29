-- What a system has still to do after some of its firings happened: the rest of the system, which is a system again (chapter 2).
use Rattle.std.specs.Prelude.{ℕ, ◌+◌, ◌-◌, ◌<◌, ◌≤◌, ◌≡◌, List, All, map, nat_le, if◌then◌else◌}
use Rattle.teg_model.specs.dioid.declared.dates.Date.{Date}
use Rattle.teg_model.specs.dioid.Dates.{IsAtMostDate}
use Rattle.teg_net.specs.declared.entries.Place.{Place}
use Rattle.teg_net.specs.Changes.{place_with_tokens}
use Rattle.teg_model.specs.Systems.{System, available, available_in}

-- the tokens that are left in the place where each transition t fired `count t` times
abbrev pub tokens_left : (ℕ → ℕ) → Place → ℕ
tokens_left count p = p.tokens + count p.from.index - count p.to.index

-- the place with the tokens that are left in it
abbrev pub place_left : (ℕ → ℕ) → Place → Place
place_left count p = place_with_tokens (tokens_left count p) p

-- the place as it was before, with the tokens that it then had
abbrev pub place_before : (ℕ → ℕ) → Place → Place
place_before count p = place_with_tokens (p.tokens + count p.to.index - count p.from.index) p

-- no place gave more tokens than it had and got
abbrev pub ArePaid : (ℕ → ℕ) → List Place → Type 0
ArePaid count places = All (λ p. count p.to.index ≤ p.tokens + count p.from.index) places

-- the rest of the system after the firings up to `count t` of each transition t, at these dates: the tokens that are left, each
-- available as it was for the firing that takes it, and the releases of the firings to come, numbered from 1 on
abbrev pub rest_of : System → (ℕ → ℕ) → (ℕ → ℕ → Date) → System
rest_of s count date = record {
  places = map (place_left count) s.places;
  initial = λ p k. available_in s.initial date (place_before count p) (count p.to.index + k);
  release = λ t k. s.release t (count t + k);
}

-- what happened has its dates, and no firing to come is before its release, nor before the tokens that it takes are available
pub record IsFeasibleAfter (s : System) (count : ℕ → ℕ) (date x : ℕ → ℕ → Date) : Type 0 where
  pub happened : (t k : ℕ) → 1 ≤ k → k ≤ count t → x t k ≡ date t k
  pub places : (k : ℕ) → All (λ p. count p.to.index < k → IsAtMostDate (available s x p k) (x p.to.index k)) s.places
  pub releases : (t k : ℕ) → count t < k → IsAtMostDate (s.release t k) (x t k)

-- feasible after what happened, and at most every such dating
pub record IsLeastAfter (s : System) (count : ℕ → ℕ) (date x : ℕ → ℕ → Date) : Type 0 where
  pub feasible : IsFeasibleAfter s count date x
  pub least : (y : ℕ → ℕ → Date) → IsFeasibleAfter s count date y → (t k : ℕ) → 1 ≤ k → IsAtMostDate (x t k) (y t k)

-- the dating from the firings to come on, numbered from 1 on
abbrev pub dating_left : (ℕ → ℕ) → (ℕ → ℕ → Date) → ℕ → ℕ → Date
dating_left count x t k = x t (count t + k)

-- the dates of what happened, and then those of the firings to come
abbrev pub continued : (ℕ → ℕ) → (ℕ → ℕ → Date) → (ℕ → ℕ → Date) → ℕ → ℕ → Date
continued count date y t k = if nat_le k (count t) then date t k else y t (k - count t)

-- the system in which no firing that happened is released before it did
abbrev pub with_happened : System → (ℕ → ℕ) → (ℕ → ℕ → Date) → System
with_happened s count date = record {
  places = s.places;
  initial = s.initial;
  release = λ t k. if nat_le k (count t) then date t k else s.release t k;
}

-- no firing that happened came before the tokens that it took were available
abbrev pub HappenedInTime : System → (ℕ → ℕ) → (ℕ → ℕ → Date) → Type 0
HappenedInTime s count date = (k : ℕ) → 1 ≤ k → All (λ p. k ≤ count p.to.index → IsAtMostDate (available s date p k) (date p.to.index k)) s.places
