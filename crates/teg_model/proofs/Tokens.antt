-- When the tokens of places are available.
use Rattle.std.proofs.Common.{ℕ, zero, suc, ◌+◌, ◌-◌, ◌<◌, ◌≤◌, ◌≡◌, true, false, ltb, length, get_or, refl, sym, ap, ◌∙◌, arith, ⊎_elim}
use Rattle.std.specs.Prelude.{pos}
use Rattle.std.proofs.lemmas.Bool.{cases_lt}
use Rattle.std.proofs.lemmas.Bool.Decides.{nat_tests}
use Rattle.dioid.specs.declared.dates.Date.{Date}
use Rattle.dioid.specs.declared.dates.Date.TheVariants.{At}
use Rattle.dioid.specs.Dates.{IsAtMostDate, delayed}
use Rattle.dioid.proofs.DateOrder.{at_most_trans}
use Rattle.teg_net.specs.declared.entries.Place.{Place}
use Rattle.teg_net.specs.Nets.{NetLists}
use Rattle.teg_net.specs.Circuits.{no_place}
use Rattle.teg_model.specs.Systems.{available_in}
use Rattle.teg_model.specs.Datings.{implicit_place, available_at, IsFeasibleUnder}
use Rattle.teg_model.proofs.Delays.{delayed_not}
use Rattle.teg_model.proofs.OfNet.{implicit_is, extended_has}
use Rattle.teg_model.proofs.DateFunctions.{Dating, InitialDates}

-- a token of an earlier firing comes after its hold
pub available_after : (init : InitialDates) (x : Dating) (p : Place) (k : ℕ) (d : Date) → p.tokens < k → x p.from.index (k - p.tokens) ≡ d → available_in init x p k ≡ delayed p.hold d
available_after init x p k d l e =
    let test : ltb p.tokens k ≡ true = grind (arith, nat_tests) in
    rw (test, e) refl

-- an initial token is there from its date on
pub available_first : (init : InitialDates) (x : Dating) (p : Place) (k : ℕ) → k ≤ p.tokens → available_in init x p k ≡ init p k
available_first init x p k l = let e : ltb p.tokens k ≡ false = grind (arith, nat_tests) in rw e refl

-- the token of the implicit place comes with the firing before
pub implicit_after : (init : InitialDates) (x : Dating) (t k : ℕ) → available_in init x (implicit_place t) (suc (suc k)) ≡ x t (suc k)
implicit_after init x t k =
    let e : suc (suc k) - 1 ≡ suc k = omega arith in
    available_after init x (implicit_place t) (suc (suc k)) (x t (suc k)) (omega arith) (ap (x t) e) ∙ delayed_not (x t (suc k))

pub implicit_gives : (init : InitialDates) (x : Dating) (t s : ℕ) → 1 ≤ s → available_in init x (implicit_place t) (s + 1) ≡ x t s
implicit_gives init x t s o =
    let back : s + 1 - 1 ≡ s = omega arith in
    available_after init x (implicit_place t) (s + 1) (x t s) (omega arith) (ap (x t) back) ∙ delayed_not (x t s)

-- what a feasible dating keeps of each place
pub place_keeps : (net : NetLists) (u x : Dating) → IsFeasibleUnder net u x → (k : ℕ) → 1 ≤ k → (q : ℕ) → q < length net.places
    → IsAtMostDate (available_at x (get_or net.places q no_place) k) (x (get_or net.places q no_place).to.index k)
place_keeps net u x f k o q l = extended_has net (λ p. IsAtMostDate (available_at x p k) (x p.to.index k)) (λ i m. f.places k o i no_place m) q l

pub implicit_keeps : (net : NetLists) (u x : Dating) → IsFeasibleUnder net u x → (t k : ℕ) → t < length net.transitions → 1 ≤ k → IsAtMostDate (available_at x (implicit_place t) k) (x t k)
implicit_keeps net u x f t k l o =
    let own = implicit_is net t l in
    rw own.2 at (f.places k o own.0 no_place own.1)

-- its dates never fall
pub dates_climb : (net : NetLists) (u x : Dating) → IsFeasibleUnder net u x → (t k : ℕ) → t < length net.transitions → 1 ≤ k → IsAtMostDate (x t k) (x t (k + 1))
dates_climb net u x f t k l o =
    let two : suc (suc (k - 1)) ≡ k + 1 = omega arith in
    let one : suc (k - 1) ≡ k = omega arith in
    rw (two, one) at (rw implicit_after at (implicit_keeps net u x f t (suc (suc (k - 1))) l (omega arith)))

-- and are not before 0
pub not_before_zero : (net : NetLists) (u x : Dating) → IsFeasibleUnder net u x → (t k : ℕ) → t < length net.transitions → 1 ≤ k → IsAtMostDate (At (pos 0)) (x t k)
not_before_zero net u x f t zero l o = absurd (omega arith)
not_before_zero net u x f t (suc zero) l o = implicit_keeps net u x f t 1 l o
not_before_zero net u x f t (suc (suc k)) l o =
    at_most_trans (At (pos 0)) (x t (suc k)) (x t (suc (suc k)))
    (not_before_zero net u x f t (suc k) l (omega arith))
    (rw implicit_after at (implicit_keeps net u x f t (suc (suc k)) l (omega arith)))

-- datings that agree where a token comes from have it available at the same date
pub available_same : (init : InitialDates) (x y : Dating) (p : Place) (k : ℕ)
    → (p.tokens < k → x p.from.index (k - p.tokens) ≡ y p.from.index (k - p.tokens)) → available_in init x p k ≡ available_in init y p k
available_same init x y p k h =
    ⊎_elim
    (λ (l : p.tokens < k). available_after init x p k (y p.from.index (k - p.tokens)) l (h l) ∙ sym (available_after init y p k (y p.from.index (k - p.tokens)) l refl))
    (λ (l : k ≤ p.tokens). available_first init x p k l ∙ sym (available_first init y p k l))
    (cases_lt p.tokens k)
