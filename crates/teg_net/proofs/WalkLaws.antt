-- Walks taken apart: a first step, and the rest.
use Rattle.std.proofs.Common.{ℕ, zero, suc, ◌+◌, ◌<◌, ◌≤◌, ◌≡◌, List, [], ◌∷◌, length, get_or, drop, refl, sym, subst, arith, drop-cons, add-one}
use Rattle.std.proofs.lemmas.List.{drop_all}
use Rattle.std.specs.Prelude.{All}
use Rattle.teg_net.specs.declared.walks.Step.{Step}
use Rattle.teg_net.specs.declared.walks.Step.TheVariants.{By, Next}
use Rattle.teg_net.specs.declared.walks.Walk.{Walk}
use Rattle.teg_net.specs.Limits.{greatest_firing_number}
use Rattle.teg_net.specs.Nets.{NetLists}
use Rattle.teg_net.specs.Circuits.{place_at}
use Rattle.teg_net.specs.Walks.{Walks, WalksWithin, numbers_of, IsWalk, IsStepOf}

abbrev AreSmall : List ℕ → Type 0
AreSmall ns = All (λ n. n ≤ greatest_firing_number) ns

small_more : (n : ℕ) (ns : List ℕ) → n ≤ greatest_firing_number → AreSmall ns → AreSmall (n ∷ ns)
small_more n ns l h zero d m = l
small_more n ns l h (suc i) d m = h i d (omega arith)

small_rest : (n : ℕ) (ns : List ℕ) → AreSmall (n ∷ ns) → AreSmall ns
small_rest n ns h i d m = h (suc i) d (omega arith)

small_first : (net : NetLists) (n : ℕ) (steps : List Step) → AreSmall (numbers_of net n steps) → n ≤ greatest_firing_number
small_first net n [] h = h 0 0 (omega arith)
small_first net n (By p ∷ steps) h = h 0 0 (omega arith)
small_first net n (Next ∷ steps) h = h 0 0 (omega arith)

-- the first step taken off
first_off :
    (net : NetLists) (step : Step) (rest : List Step) (a s b k c n : ℕ) → WalksWithin net a s (step ∷ []) b k → WalksWithin net a s (step ∷ rest) c n → WalksWithin net b k rest c n
first_off net (By p) rest a s b k c n h w =
    let numbers = small_rest s (numbers_of net (s + (place_at net p).tokens) rest) w.1 in
    subst
    (λ y. WalksWithin net b y rest c n)
    h.0.2.1
    (subst (λ z. WalksWithin net z (s + (place_at net p).tokens) rest c n) h.0.2.0 (w.0.2, numbers))
first_off net Next rest a s b k c n h w =
    let numbers = small_rest s (numbers_of net (s + 1) rest) w.1 in
    subst (λ y. WalksWithin net b y rest c n) h.0.1 (subst (λ z. WalksWithin net z (s + 1) rest c n) h.0.0 (w.0, numbers))

-- a first step put on
first_on :
    (net : NetLists) (step : Step) (rest : List Step) (a s b k c n : ℕ) → WalksWithin net a s (step ∷ []) b k → WalksWithin net b k rest c n → WalksWithin net a s (step ∷ rest) c n
first_on net (By p) rest a s b k c n h w =
    let at : WalksWithin net (place_at net p).to.index (s + (place_at net p).tokens) rest c n =
    subst
    (λ y. WalksWithin net (place_at net p).to.index y rest c n)
    (sym h.0.2.1)
    (subst (λ z. WalksWithin net z k rest c n) (sym h.0.2.0) w)
    in
    ((h.0.0, h.0.1, at.0), small_more s (numbers_of net (s + (place_at net p).tokens) rest) (h.1 0 0 (omega arith)) at.1)
first_on net Next rest a s b k c n h w =
    let at : WalksWithin net a (s + 1) rest c n =
    subst (λ y. WalksWithin net a y rest c n) (sym h.0.1) (subst (λ z. WalksWithin net z k rest c n) (sym h.0.0) w)
    in
    (at.0, small_more s (numbers_of net (s + 1) rest) (h.1 0 0 (omega arith)) at.1)

-- where the first step leads nowhere, no steps do that begin with it
first_none :
    (net : NetLists) (step : Step) (rest : List Step) (a s : ℕ) → s ≤ greatest_firing_number
    → ((b k : ℕ) → WalksWithin net a s (step ∷ []) b k → ⊥) → (c n : ℕ) → WalksWithin net a s (step ∷ rest) c n → ⊥
first_none net (By p) rest a s l none c n w =
    let to : ℕ = s + (place_at net p).tokens in
    let small : to ≤ greatest_firing_number = small_first net to rest (small_rest s (numbers_of net to rest) w.1) in
    none (place_at net p).to.index to ((w.0.0, w.0.1, (refl, refl)), small_more s (to ∷ []) l (small_more to [] small (λ i d m. absurd (omega arith))))
first_none net Next rest a s l none c n w =
    let small : s + 1 ≤ greatest_firing_number = small_first net (s + 1) rest (small_rest s (numbers_of net (s + 1) rest) w.1) in
    none a (s + 1) ((refl, refl), small_more s ((s + 1) ∷ []) l (small_more (s + 1) [] small (λ i d m. absurd (omega arith))))

first_small : (net : NetLists) (step : Step) (a s b k : ℕ) → WalksWithin net a s (step ∷ []) b k → k ≤ greatest_firing_number
first_small net (By p) a s b k h = subst (λ n. n ≤ greatest_firing_number) h.0.2.1 (h.1 1 0 (omega arith))
first_small net Next a s b k h = subst (λ n. n ≤ greatest_firing_number) h.0.1 (h.1 1 0 (omega arith))

-- after the first i steps from firing s of a, the rest goes on from firing n of at
pub record IsWalkLeft (net : NetLists) (steps : List Step) (a s i at n : ℕ) : Type 0 where
  pub small : n ≤ greatest_firing_number
  pub forth : (b k : ℕ) → WalksWithin net a s steps b k → WalksWithin net at n (drop i steps) b k
  pub back : (b k : ℕ) → WalksWithin net at n (drop i steps) b k → WalksWithin net a s steps b k

pub IsWalkLeft-more :
    (net : NetLists) (steps : List Step) (a s i at n b k : ℕ) (d : Step) → IsWalkLeft net steps a s i at n → i < length steps
    → WalksWithin net at n (get_or steps i d ∷ []) b k → IsWalkLeft net steps a s (i + 1) b k
IsWalkLeft-more net steps a s i at n b k d h l w =
    let step : Step = get_or steps i d in
    let rest : List Step = drop (i + 1) steps in
    let cut : drop i steps ≡ step ∷ rest = rw add-one (drop-cons steps i d l) in
    record {
      small = first_small net step at n b k w;
      forth = λ c m v. first_off net step rest at n b k c m w (subst (λ z. WalksWithin net at n z c m) cut (h.forth c m v));
      back = λ c m v. h.back c m (subst (λ z. WalksWithin net at n z c m) (sym cut) (first_on net step rest at n b k c m w v));
    }

pub IsWalkLeft-none :
    (net : NetLists) (steps : List Step) (a s i at n : ℕ) (d : Step) → IsWalkLeft net steps a s i at n → i < length steps
    → ((b k : ℕ) → WalksWithin net at n (get_or steps i d ∷ []) b k → ⊥) → (b k : ℕ) → WalksWithin net a s steps b k → ⊥
IsWalkLeft-none net steps a s i at n d h l none b k w =
    let step : Step = get_or steps i d in
    let rest : List Step = drop (i + 1) steps in
    let cut : drop i steps ≡ step ∷ rest = rw add-one (drop-cons steps i d l) in
    first_none net step rest at n h.small none b k (subst (λ z. WalksWithin net at n z b k) cut (h.forth b k w))

pub IsWalkLeft-end : (net : NetLists) (steps : List Step) (a s i at n : ℕ) → IsWalkLeft net steps a s i at n → length steps ≤ i → WalksWithin net a s steps at n
IsWalkLeft-end net steps a s i at n h l =
    let none : drop i steps ≡ [] = drop_all i steps l in
    h.back at n (subst (λ z. WalksWithin net at n z at n) (sym none) ((refl, refl), small_more n [] h.small (λ j d m. absurd (omega arith))))

-- the numbers of a walk are within their limit from its start to its end
pub IsWalk-start : (net : NetLists) (w : Walk) → IsWalk net w → w.number ≤ greatest_firing_number
IsWalk-start net w h = small_first net w.number w.steps.items h.numbers

pub WalksWithin-end : (net : NetLists) (steps : List Step) (a s b k : ℕ) → WalksWithin net a s steps b k → k ≤ greatest_firing_number
WalksWithin-end net [] a s b k h = subst (λ n. n ≤ greatest_firing_number) h.0.1 (h.1 0 0 (omega arith))
WalksWithin-end net (By p ∷ steps) a s b k h =
    WalksWithin-end net steps (place_at net p).to.index (s + (place_at net p).tokens) b k (h.0.2, small_rest s (numbers_of net (s + (place_at net p).tokens) steps) h.1)
WalksWithin-end net (Next ∷ steps) a s b k h = WalksWithin-end net steps a (s + 1) b k (h.0, small_rest s (numbers_of net (s + 1) steps) h.1)

-- each place on a walk is one of the net
pub Walks-steps : (net : NetLists) (steps : List Step) (a s b k : ℕ) → Walks net a s steps b k → All (IsStepOf net) steps
Walks-steps net [] a s b k h i d l = absurd (omega arith)
Walks-steps net (By p ∷ steps) a s b k h zero d l = h.0
Walks-steps net (By p ∷ steps) a s b k h (suc i) d l = Walks-steps net steps (place_at net p).to.index (s + (place_at net p).tokens) b k h.2 i d (omega arith)
Walks-steps net (Next ∷ steps) a s b k h zero d l = tt
Walks-steps net (Next ∷ steps) a s b k h (suc i) d l = Walks-steps net steps a (s + 1) b k h i d (omega arith)
