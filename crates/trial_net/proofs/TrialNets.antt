-- The line of machines: how long it is, and what holds of each of its places.
use Rattle.std.proofs.Common.{◌≡◌, ℕ, zero, suc, ◌+◌, ◌-◌, ◌<◌, ◌≤◌, ◌++◌, map, length, All, arith}
use Rattle.std.specs.List.{range_with_len}
use Rattle.std.proofs.lemmas.List.FromFn.{length-map-range_with_len}
use Rattle.std.proofs.lemmas.List.Elements.{All-nil, All-cons, All-append}
use Rattle.teg_net.specs.declared.entries.Place.{Place}
use Rattle.trial_net.specs.Trials.{machine, own_place, feed_place, card_place, trial}

-- ---- lists over numbers

all_over : {X : Type 0} (P : X → Type 0) (f : ℕ → X) (a n : ℕ) → ((i : ℕ) → a ≤ i → i < a + n → P (f i)) → All P (map f (range_with_len a n))
all_over P f a zero h = All-nil P
all_over P f a (suc n) h =
    All-cons P (f a) (map f (range_with_len (a + 1) n)) (h a (omega arith) (omega arith)) (all_over P f (a + 1) n (λ i l m. h i (omega arith) (omega arith)))

-- how many transitions it has
pub width : (machines : ℕ) → length (trial machines).transitions ≡ machines
width machines = length-map-range_with_len machine 1 machines

-- what holds of each kind of place
pub each_place : (P : Place → Type 0) (machines : ℕ) →
    ((i : ℕ) → 1 ≤ i → i ≤ machines → P (own_place i)) → ((i : ℕ) → 1 ≤ i → i + 1 ≤ machines → P (feed_place i)) → ((i : ℕ) → 1 ≤ i → i + 1 ≤ machines → P (card_place i)) →
    All P (trial machines).places
each_place P machines own feed card =
    let n = machines - 1 in
    All-append P (map own_place (range_with_len 1 machines)) (map feed_place (range_with_len 1 n) ++ map card_place (range_with_len 1 n))
    (all_over P own_place 1 machines (λ i l m. own i l (omega arith)))
    (All-append P (map feed_place (range_with_len 1 n)) (map card_place (range_with_len 1 n))
    (all_over P feed_place 1 n (λ i l m. feed i l (omega arith)))
    (all_over P card_place 1 n (λ i l m. card i l (omega arith))))
