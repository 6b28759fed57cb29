-- The counters of a least dating are the least of the tokens and the releases.
use Rattle.std.proofs.Common.{ℕ, zero, suc, ◌+◌, ◌-◌, ◌<◌, ◌≤◌, ◌≡◌, Option, Some, None, true, false, length, get_or, refl, arith, ⊎_elim}
use Rattle.std.specs.Prelude.{pos, negsuc, nat_le, All}
use Rattle.std.proofs.lemmas.Bool.{cases_lt, cases_Bool}
use Rattle.std.proofs.lemmas.Bool.Decides.{nat_tests}
use Rattle.std.proofs.lemmas.Int.{ints}
use Rattle.std.proofs.lemmas.List.{get_or_default, get_or_past}
use Rattle.teg_model.specs.dioid.declared.dates.Date.{Date}
use Rattle.teg_model.specs.dioid.declared.dates.Date.TheVariants.{Early, At, Never}
use Rattle.teg_model.specs.dioid.Dates.{IsAtMostDate, delayed}
use Rattle.teg_model.proofs.dioid_proofs.DateOrder.{at_most_trans, delayed_rises}
use Rattle.teg_model.specs.teg_net.declared.entries.Place.{Place}
use Rattle.teg_model.specs.teg_net.Nets.{NetLists, IsInput}
use Rattle.teg_model.specs.teg_net.Circuits.{no_place}
use Rattle.teg_model.specs.teg_net.ReadyDates.{ready_date}
use Rattle.teg_model.specs.Datings.{implicit_place, available_at, initial_date}
use Rattle.teg_model.specs.LeastDatings.{IsTight}
use Rattle.teg_model.proofs.DateFunctions.{Dating}
use Rattle.teg_model.proofs.OfNet.{all_extended_in}
use Rattle.teg_model.proofs.Tokens.{available_after, available_first, implicit_after, place_keeps, not_before_zero}
use Rattle.counter_laws.specs.Counters.{IsUpTo, and_more, tokens_by, AreReadyBy, IsUpToLeast}
use Rattle.counter_laws.proofs.Lowered.{wait_for_no_more}
use Rattle.dating_laws.proofs.SlowerNets.{climb}
use Rattle.counter_laws.specs.CounterEquations.{AreCounted, CountersAreLeastOfTokens}

abbrev pub Counts : Type 0
Counts = ℕ → ℕ → Option ℕ

-- ---- counts

pub up_to_lower : (j k : ℕ) (o : Option ℕ) → j ≤ k → IsUpTo k o → IsUpTo j o
up_to_lower j k None l h = tt
up_to_lower j k (Some n) l h = omega (arith, l, h)

more_up : (m k : ℕ) (o : Option ℕ) → IsUpTo (k - m) o → IsUpTo k (and_more m o)
more_up m k None h = tt
more_up m k (Some n) h = omega (arith, h)

few_up : (m k : ℕ) (o : Option ℕ) → k ≤ m → IsUpTo k (and_more m o)
few_up m k None h = tt
few_up m k (Some n) h = omega (arith, h)

less_up : (m k : ℕ) (o : Option ℕ) → IsUpTo k (and_more m o) → IsUpTo (k - m) o
less_up m k None h = tt
less_up m k (Some n) h = omega (arith, h)

-- firing k finds its token in the place by the date: an initial one, or that of a firing counted up to a hold before
abbrev IsCounted : Counts → Place → ℕ → ℕ → Type 0
IsCounted c p d k = p.tokens < k → (p.hold ≤ d) × IsUpTo (k - p.tokens) (c p.from.index (d - p.hold))

tokens_up : (c : Counts) (p : Place) (d k : ℕ) → IsCounted c p d k → IsUpTo k (tokens_by c p d)
tokens_up c p d k h =
    let o : Option ℕ = c p.from.index (d - p.hold) in
    ⊎_elim
    (λ (l : p.tokens < k).
    let at = h l in
    let in' = at.0 in
    let test : nat_le p.hold d ≡ true = grind (arith, nat_tests) in
    rw test (more_up p.tokens k o at.1))
    (λ (l : k ≤ p.tokens).
    ⊎_elim
    (λ (test : nat_le p.hold d ≡ true). rw test (few_up p.tokens k o l))
    (λ (test : nat_le p.hold d ≡ false). rw test l)
    (cases_Bool (nat_le p.hold d)))
    (cases_lt p.tokens k)

pub tokens_from : (c : Counts) (p : Place) (d k : ℕ) → IsUpTo k (tokens_by c p d) → IsCounted c p d k
tokens_from c p d k h = λ l.
    ⊎_elim
    (λ (test : nat_le p.hold d ≡ true). let in' : p.hold ≤ d = grind (arith, nat_tests) in (in', less_up p.tokens k (c p.from.index (d - p.hold)) (rw test at h)))
    (λ (test : nat_le p.hold d ≡ false). let few : k ≤ p.tokens = rw test at h in absurd (omega (arith, few, l)))
    (cases_Bool (nat_le p.hold d))

-- ---- dates

held_back : (h d : ℕ) (a : Date) → IsAtMostDate (At (pos 0)) a → IsAtMostDate (delayed h a) (At (pos d)) → (h ≤ d) × IsAtMostDate a (At (pos (d - h)))
held_back h d Early first l = absurd first
held_back h d (At (pos z)) first l =
    let some : z + h ≤ d = omega (arith, ints, l) in
    let low : z ≤ d - h = omega (arith, some) in
    (omega (arith, some), omega (arith, ints, low))
held_back h d (At (negsuc z)) first l = absurd (omega (arith, ints, first))
held_back h d Never first l = absurd l

pub held_on : (h d : ℕ) (a : Date) → h ≤ d → IsAtMostDate a (At (pos (d - h))) → IsAtMostDate (delayed h a) (At (pos d))
held_on h d a l low =
    let there : IsAtMostDate (delayed h (At (pos (d - h)))) (At (pos d)) = omega (arith, ints, l) in
    at_most_trans (delayed h a) (delayed h (At (pos (d - h)))) (At (pos d)) (delayed_rises h a (At (pos (d - h))) low) there

pub ready_at_zero : (p : Place) (k d : ℕ) → length p.ready ≡ 0 → IsAtMostDate (initial_date p k) (At (pos d))
ready_at_zero p k d e =
    let zero' : ready_date p k ≡ 0 = get_or_past p.ready (k - 1) 0 (omega (arith, e)) in
    omega (arith, ints, zero')

-- the token of the implicit place comes with the firing before
pub own_token : (x : Dating) (s k d : ℕ) → 1 ≤ k → ((j : ℕ) → suc j ≡ k → 1 ≤ j → IsAtMostDate (x s j) (At (pos d))) → IsAtMostDate (available_at x (implicit_place s) k) (At (pos d))
own_token x s zero d o before = absurd (omega (arith, o))
own_token x s (suc zero) d o before = ready_at_zero (implicit_place s) 1 d refl
own_token x s (suc (suc j)) d o before = rw (implicit_after initial_date x s j) (before (suc j) refl (omega arith))

-- a firing comes by the date where the one before it and all that it takes do
comes_by : (net : NetLists) (u x : Dating) → IsTight net u x → (t d k : ℕ) → t < length net.transitions → 1 ≤ k
    → All (λ p. p.to.index ≡ t → AreReadyBy p d k) net.places
    → All (λ p. p.to.index ≡ t → p.tokens < k → (p.hold ≤ d) × IsAtMostDate (x p.from.index (k - p.tokens)) (At (pos (d - p.hold)))) net.places
    → ((j : ℕ) → suc j ≡ k → 1 ≤ j → IsAtMostDate (x t j) (At (pos d)))
    → (IsInput net t → IsAtMostDate (u t k) (At (pos d)))
    → IsAtMostDate (x t k) (At (pos d))
comes_by net u x tight t d k l o ready tokens before released =
    tight.tight t k (At (pos d)) l o
    (all_extended_in net (λ p. p.to.index ≡ t → IsAtMostDate (available_at x p k) (At (pos d)))
    (λ i e m to.
    let p : Place = get_or net.places i e in
    ⊎_elim
    (λ (q : p.tokens < k).
    let at = tokens i e m to q in
    let a : Date = x p.from.index (k - p.tokens) in
    rw (available_after initial_date x p k a q refl) (held_on p.hold d a at.0 at.1))
    (λ (q : k ≤ p.tokens).
    let in' : ready_date p k ≤ d = ready i e m to k o (omega arith) q in
    rw (available_first initial_date x p k q) (omega (arith, ints, in')))
    (cases_lt p.tokens k))
    (λ s m to. own_token x s k d o (λ j e one. rw to (before j e one))))
    released

-- ---- the equations

module _ (net : NetLists) (u x : Dating) (r c : Counts) (h : AreCounted net u x r c) where
  -- what a count of firings keeps within
  within : (t d k : ℕ) → t < length net.transitions → 1 ≤ k → IsAtMostDate (x t k) (At (pos d)) → IsUpToLeast net r c t d k
  within t d k l o low = record {
    tokens = λ i e m to.
        let p : Place = get_or net.places i no_place in
        let from_in = (h.ends i no_place m).0 in
        let same : get_or net.places i e ≡ p = get_or_default net.places i e no_place m in
        let into : p.to.index ≡ t = rw same at to in
        let keeps : IsAtMostDate (available_at x p k) (x t k) = rw into at (place_keeps net u x h.least.feasible k o i m) in
        let by : IsAtMostDate (available_at x p k) (At (pos d)) = at_most_trans (available_at x p k) (x t k) (At (pos d)) keeps low in
        rw same
        (tokens_up c p d k (λ q.
        let j : ℕ = k - p.tokens in
        let a : Date = x p.from.index j in
        let first = not_before_zero net u x h.least.feasible p.from.index j from_in (omega (arith, q)) in
        let back = held_back p.hold d a first (rw (available_after initial_date x p k a q refl) at by) in
        (back.0, (h.firings p.from.index from_in (d - p.hold) j (omega (arith, q))).0 back.1)));
    ready = λ i e m to j one up first.
        let p : Place = get_or net.places i no_place in
        let same : get_or net.places i e ≡ p = get_or_default net.places i e no_place m in
        let into : p.to.index ≡ t = rw same at to in
        let within' : j ≤ p.tokens = rw same at first in
        let last : j + (k - j) ≡ k = omega (arith, up) in
        let rises : IsAtMostDate (x t j) (x t k) = rw last at (climb net u x h.least.feasible t j l one (k - j)) in
        let keeps : IsAtMostDate (available_at x p j) (x t j) = rw into at (place_keeps net u x h.least.feasible j one i m) in
        let token : IsAtMostDate (At (pos (ready_date p j))) (x t j) = rw (available_first initial_date x p j within') at keeps in
        let by : IsAtMostDate (At (pos (ready_date p j))) (At (pos d)) =
        at_most_trans (At (pos (ready_date p j))) (x t j) (At (pos d)) token (at_most_trans (x t j) (x t k) (At (pos d)) rises low) in
        rw same (omega (arith, ints, by));
    released = λ i. (h.releases t i d k o).0 (at_most_trans (u t k) (x t k) (At (pos d)) (h.least.feasible.inputs t k o i) low);
  }

  -- what keeps within the least of counts that come by their dates comes by its date
  comes_with : IsTight net u x → (other : Counts) (t d k : ℕ) → t < length net.transitions → 1 ≤ k → IsUpToLeast net r other t d k
      → All (λ p. p.to.index ≡ t → p.tokens < k → p.hold ≤ d → IsUpTo (k - p.tokens) (other p.from.index (d - p.hold))
      → IsAtMostDate (x p.from.index (k - p.tokens)) (At (pos (d - p.hold)))) net.places
      → ((j : ℕ) → suc j ≡ k → 1 ≤ j → IsAtMostDate (x t j) (At (pos d)))
      → IsAtMostDate (x t k) (At (pos d))
  comes_with tight other t d k l o up come before =
      comes_by net u x tight t d k l o up.ready
      (λ i e m to q. let at = tokens_from other (get_or net.places i e) d k (up.tokens i e m to) q in (at.0, come i e m to q at.0 at.1))
      before
      (λ i. (h.releases t i d k o).1 (up.released i))

  lower_least : (t d j k : ℕ) → j ≤ k → IsUpToLeast net r c t d k → IsUpToLeast net r c t d j
  lower_least t d j k l up = record {
    tokens = λ i e m to. up_to_lower j k (tokens_by c (get_or net.places i e) d) l (up.tokens i e m to);
    ready = λ i e m to token one last. up.ready i e m to token one (omega (arith, l, last));
    released = λ i. up_to_lower j k (r t d) l (up.released i);
  }

  reached : IsTight net u x → (t d k : ℕ) → t < length net.transitions → 1 ≤ k → IsUpToLeast net r c t d k → IsAtMostDate (x t k) (At (pos d))
  reached tight t d zero l o up = absurd (omega (arith, o))
  reached tight t d (suc n) l o up =
      comes_with tight c t d (suc n) l o up
      (λ i e m to q held w. (h.firings (get_or net.places i e).from.index
      (h.ends i e m).0 (d - (get_or net.places i e).hold) (suc n - (get_or net.places i e).tokens) (omega (arith, q))).1 w)
      (λ j e one. let same : j ≡ n = omega (arith, e) in rw same (reached tight t d n l (omega (arith, one, same)) (lower_least t d n (suc n) (omega arith) up)))

pub least_of_tokens : CountersAreLeastOfTokens
least_of_tokens net u x r c h t d k l o =
    let tight = wait_for_no_more net u x h.least in (
      λ up. within net u x r c h t d k l o ((h.firings t l d k o).1 up),
      λ up. (h.firings t l d k o).0 (reached net u x r c h tight t d k l o up),
    )
