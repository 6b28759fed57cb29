-- The steps of any form of a feasible dating rise along the places.
use Rattle.std.proofs.Common.{ℕ, ℤ, zero, suc, pos, ◌+◌, ◌-◌, ◌<◌, ◌≤◌, ◌≡◌, true, ltb, length, get_or, refl, sym, ap, ◌∙◌, arith, ⊎_elim, inl, inr, ◌+ℤ◌, ◌-ℤ◌}
use Rattle.std.specs.Prelude.{negsuc, ◌≤ℤ◌, All, ◌⊎◌}
use Rattle.std.proofs.lemmas.Bool.Decides.{nat_tests}
use Rattle.std.proofs.lemmas.Int.{ints, by_lt_z}
use Rattle.teg_model.specs.dioid.declared.dates.Date.{Date}
use Rattle.teg_model.specs.dioid.declared.dates.Date.TheVariants.{Early, At, Never}
use Rattle.teg_model.specs.dioid.Dates.{IsAtMostDate, delayed, move}
use Rattle.teg_model.proofs.dioid_proofs.DateOrder.{at_least_never}
use Rattle.teg_model.specs.teg_net.declared.entries.Place.{Place}
use Rattle.teg_model.specs.teg_net.Circuits.{no_place}
use Rattle.teg_model.specs.Systems.{System, available, IsFeasibleIn}
use Rattle.teg_model.proofs.DateFunctions.{Dating}
use Rattle.settled_laws.proofs.Everywhere.{Repeats, Climbing, IsRising}
use Rattle.settled_laws.proofs.Settling.{available_again}
use Rattle.settled_laws.proofs.Tails.{never_past, early_past}

-- a date that falls behind at each period is overtaken
overtaken : (s : System) (x : Dating) (after period most : ℕ) (step : ℕ → ℤ) → IsFeasibleIn s x → Repeats x after period step → (i : ℕ)
    → i < length s.places → (get_or s.places i no_place).tokens ≤ most
    → (step (get_or s.places i no_place).to.index +ℤ pos 1) ≤ℤ step (get_or s.places i no_place).from.index
    → (n k : ℕ) (a b : ℤ) → after + most < k → available s x (get_or s.places i no_place) k ≡ At a → x (get_or s.places i no_place).to.index k ≡ At b → b ≤ℤ (a +ℤ pos n) → ⊥
overtaken s x after period most step f h i within few steep zero k a b l ea eb gap =
    let p : Place = get_or s.places i no_place in
    let ea2 : available s x p (k + period) ≡ At (a +ℤ step p.from.index) = available_again s x after period most step h p k few l ∙ ap (move (step p.from.index)) ea in
    let eb2 : x p.to.index (k + period) ≡ At (b +ℤ step p.to.index) = h.again p.to.index k (omega arith) ∙ ap (move (step p.to.index)) eb in
    let up : (a +ℤ step p.from.index) ≤ℤ (b +ℤ step p.to.index) = rw (ea2, eb2) at (f.places (k + period) (omega arith) i no_place within) in
    omega (arith, ints)
overtaken s x after period most step f h i within few steep (suc n) k a b l ea eb gap =
    let p : Place = get_or s.places i no_place in
    let ea2 : available s x p (k + period) ≡ At (a +ℤ step p.from.index) = available_again s x after period most step h p k few l ∙ ap (move (step p.from.index)) ea in
    let eb2 : x p.to.index (k + period) ≡ At (b +ℤ step p.to.index) = h.again p.to.index k (omega arith) ∙ ap (move (step p.to.index)) eb in
    overtaken s x after period most step f h i within few steep n (k + period) (a +ℤ step p.from.index) (b +ℤ step p.to.index) (omega arith) ea2 eb2 (omega (arith, ints))

-- a natural number that is not below the whole number
above : (z : ℤ) → (n : ℕ) × (z ≤ℤ pos n)
above (pos n) = (n, omega (arith, ints))
above (negsuc n) = (0, omega (arith, ints))

le_or_not : (a b : ℤ) → (a ≤ℤ b) ⊎ ((b +ℤ pos 1) ≤ℤ a)
le_or_not a b = by_lt_z b a (λ l. inr (omega (arith, ints))) (λ l. inl l)

kind : (d : Date) → (d ≡ Early) ⊎ ((d ≡ Never) ⊎ ((a : ℤ) × (d ≡ At a)))
kind Early = inl refl
kind (At a) = inr (inr (a, refl))
kind Never = inr (inl refl)

delayed_early : (h : ℕ) (d : Date) → delayed h d ≡ Early → d ≡ Early
delayed_early h Early e = refl
delayed_early h (At x) e = absurd (cc)
delayed_early h Never e = absurd (cc)

-- the complete half: along each place the steps of any form rise
pub form_is_rising :
    (s : System) (x : Dating) (after period most : ℕ) (step : ℕ → ℤ) → IsFeasibleIn s x → Climbing x → All (λ p. p.tokens ≤ most) s.places → Repeats x after period step
    → (i : ℕ) → i < length s.places → IsRising x after step (get_or s.places i no_place)
form_is_rising s x after period most step f c tokens h i within =
    let p : Place = get_or s.places i no_place in
    let few : p.tokens ≤ most = tokens i no_place within in
    let k : ℕ = suc (after + most) in
    let now : ltb p.tokens k ≡ true = grind (arith, nat_tests) in
    let is : available s x p k ≡ delayed p.hold (x p.from.index (k - p.tokens)) = rw now refl in
    let up : IsAtMostDate (available s x p k) (x p.to.index k) = f.places k (omega arith) i no_place within in
    ⊎_elim
    (λ (e : available s x p k ≡ Early). inr (inr (early_past x after period step c h p.from.index (k - p.tokens) (delayed_early p.hold (x p.from.index (k - p.tokens)) (sym is ∙ e)) (omega arith))))
    (λ (e : (available s x p k ≡ Never) ⊎ ((a : ℤ) × (available s x p k ≡ At a))).
    ⊎_elim
    (λ (n : available s x p k ≡ Never). inr (inl (never_past x after period step c h p.to.index k (at_least_never (x p.to.index k) (rw n at up)) (omega arith))))
    (λ (a : (a : ℤ) × (available s x p k ≡ At a)).
    ⊎_elim
    (λ (q : x p.to.index k ≡ Early). absurd (rw (a.1, q) at up))
    (λ (q : (x p.to.index k ≡ Never) ⊎ ((b : ℤ) × (x p.to.index k ≡ At b))).
    ⊎_elim
    (λ (n : x p.to.index k ≡ Never). inr (inl (never_past x after period step c h p.to.index k n (omega arith))))
    (λ (b : (b : ℤ) × (x p.to.index k ≡ At b)).
    ⊎_elim
    (λ (l : step p.from.index ≤ℤ step p.to.index). inl l)
    (λ (l : (step p.to.index +ℤ pos 1) ≤ℤ step p.from.index).
    let n = above (b.0 -ℤ a.0) in
    absurd (overtaken s x after period most step f h i within few l n.0 k a.0 b.0 (omega arith) a.1 b.1 (omega (arith, ints, n.1))))
    (le_or_not (step p.from.index) (step p.to.index)))
    q)
    (kind (x p.to.index k)))
    e)
    (kind (available s x p k))
