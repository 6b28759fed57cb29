-- Lists of numbers in order: what comes first, and that all are below their end.
use Rattle.std.proofs.Common.{ℕ, ◌+◌, ◌-◌, ◌<◌, ◌≤◌, ◌≡◌, refl, List, [], ◌∷◌, length, zero, suc, arith}
use Rattle.std.specs.Prelude.{All, map}
use Rattle.std.specs.List.{range_with_len}
use Rattle.std.proofs.lemmas.List.Elements.{All-cons}
use Rattle.teg_net.specs.declared.entries.PlaceId.{PlaceId}
use Rattle.teg_net.specs.declared.entries.TransitionId.{TransitionId}
use Rattle.net_ids.specs.Ids.{place_ids_between, place_number, transition_ids_between, transition_number}

-- where some are left, the first comes and the others are left, fewer than before
pub more_transitions : (a b : ℕ) → a < b → transition_ids_between a b ≡ transition_number a ∷ transition_ids_between (a + 1) b
more_transitions a b l = let e : b - a ≡ suc (b - (a + 1)) = omega (arith, l) in rw e refl

pub more_places : (a b : ℕ) → a < b → place_ids_between a b ≡ place_number a ∷ place_ids_between (a + 1) b
more_places a b l = let e : b - a ≡ suc (b - (a + 1)) = omega (arith, l) in rw e refl

pub fewer_transitions : (a b : ℕ) → a < b → length (transition_ids_between (a + 1) b) < length (transition_ids_between a b)
fewer_transitions a b l = let e = more_transitions a b l in rw e (omega arith)

pub fewer_places : (a b : ℕ) → a < b → length (place_ids_between (a + 1) b) < length (place_ids_between a b)
fewer_places a b l = let e = more_places a b l in rw e (omega arith)

-- and else none
pub no_transitions : (a b : ℕ) → b ≤ a → transition_ids_between a b ≡ []
no_transitions a b l = let e : b - a ≡ 0 = omega (arith, l) in rw e refl

pub no_places : (a b : ℕ) → b ≤ a → place_ids_between a b ≡ []
no_places a b l = let e : b - a ≡ 0 = omega (arith, l) in rw e refl

-- all are below their end
transitions_from : (a n b : ℕ) → a + n ≤ b → All (λ (t : TransitionId). t.index < b) (map transition_number (range_with_len a n))
transitions_from a zero b l = λ k d h. absurd (omega (arith, h))
transitions_from a (suc n) b l =
    All-cons (λ (t : TransitionId). t.index < b) (transition_number a) (map transition_number (range_with_len (a + 1) n)) (omega (arith, l)) (transitions_from (a + 1) n b (omega (arith, l)))

pub transitions_below : (b : ℕ) → All (λ (t : TransitionId). t.index < b) (transition_ids_between 0 b)
transitions_below b = transitions_from 0 (b - 0) b (omega arith)

places_from : (a n b : ℕ) → a + n ≤ b → All (λ (p : PlaceId). p.index < b) (map place_number (range_with_len a n))
places_from a zero b l = λ k d h. absurd (omega (arith, h))
places_from a (suc n) b l =
    All-cons (λ (p : PlaceId). p.index < b) (place_number a) (map place_number (range_with_len (a + 1) n)) (omega (arith, l)) (places_from (a + 1) n b (omega (arith, l)))

pub places_below : (b : ℕ) → All (λ (p : PlaceId). p.index < b) (place_ids_between 0 b)
places_below b = places_from 0 (b - 0) b (omega arith)
