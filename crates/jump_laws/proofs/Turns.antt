-- Dates that move by a step in each turn, and dates in order that stay so some turns on.
use Rattle.std.proofs.Common.{ℕ, ℤ, zero, suc, pos, ◌+◌, ◌-◌, ◌*◌, ◌/◌, ◌<◌, ◌≤◌, ◌≡◌, ◌+ℤ◌, ◌-ℤ◌, refl, sym, ap, ◌∙◌, arith, ⊎_elim}
use Rattle.std.specs.Prelude.{◌*ℤ◌, ◌≤ℤ◌, ◌<ℤ◌, ◌⊎◌, ◌↔◌}
use lib.IntN.{suc_ℤ-*ℤ, zero-*ℤ}
use Rattle.std.proofs.lemmas.Int.{ints, by_lt_z}
use Rattle.std.proofs.Math.Nat.{le-div_iff_mul-le}
use Rattle.dioid.specs.declared.dates.Date.{Date}
use Rattle.dioid.specs.declared.dates.Date.TheVariants.{Early, At, Never}
use Rattle.dioid.specs.Dates.{IsAtMostDate, move}
use Rattle.jump_laws.specs.Jumps.{TurnsAreReadOff}
use Rattle.dioid.proofs.DateOrder.{never_last}
use Rattle.dioid.proofs.Moves.{at_inj, move_zero, move_move, move_rises}

-- one turn more is one step more
pub one_more : (j : ℕ) (s : ℤ) → pos (suc j) *ℤ s ≡ (pos j *ℤ s) +ℤ s
one_more j s = suc_ℤ-*ℤ (pos j) s

-- a step of a residue is that some turns on
pub step_on : (turn : ℕ) (s : ℕ → ℤ) → ((k : ℕ) → s (k + turn) ≡ s k) → (k j : ℕ) → s (k + j * turn) ≡ s k
step_on turn s h k zero =
    let is : k + 0 * turn ≡ k = grind arith in
    ap s is
step_on turn s h k (suc j) =
    let is : k + suc j * turn ≡ (k + j * turn) + turn = grind arith in
    ap s is ∙ (h (k + j * turn) ∙ step_on turn s h k j)

-- the date some turns on is moved by as many steps
pub turns_on : (d : ℕ → Date) (after turn last : ℕ) (s : ℕ → ℤ) → ((k : ℕ) → s (k + turn) ≡ s k)
    → ((k : ℕ) → after < k → k + turn ≤ last → d (k + turn) ≡ move (s k) (d k))
    → (k j : ℕ) → after < k → k + j * turn ≤ last → d (k + j * turn) ≡ move (pos j *ℤ s k) (d k)
turns_on d after turn last s h moves k zero l m =
    let is : k + 0 * turn ≡ k = grind arith in
    rw (is, zero-*ℤ (s k)) (sym (move_zero (d k)))
turns_on d after turn last s h moves k (suc j) l m =
    let is : k + suc j * turn ≡ (k + j * turn) + turn = grind arith in
    let fits : (k + j * turn) + turn ≤ last = omega (arith, is, m) in
    let before = turns_on d after turn last s h moves k j l (omega (arith, fits)) in
    ap d is
    ∙ (moves (k + j * turn) (omega (arith, l)) fits
    ∙ (ap (λ z. move z (d (k + j * turn))) (step_on turn s h k j)
    ∙ (ap (move (s k)) before
    ∙ (move_move (pos j *ℤ s k) (s k) (d k) ∙ ap (λ z. move z (d k)) (sym (one_more j (s k)))))))

-- so many times the lesser number is at most as many times the greater
times_rise : (f g : ℤ) → f ≤ℤ g → (j : ℕ) → (pos j *ℤ f) ≤ℤ (pos j *ℤ g)
times_rise f g l zero = rw (zero-*ℤ f, zero-*ℤ g) (omega (arith, ints))
times_rise f g l (suc j) =
    let before = times_rise f g l j in
    rw (one_more j f, one_more j g) (omega (arith, ints, before, l))

-- what they are apart grows
times_part : (f g : ℤ) → g ≤ℤ f → (j d : ℕ) → ((pos j *ℤ f) -ℤ (pos j *ℤ g)) ≤ℤ ((pos (d + j) *ℤ f) -ℤ (pos (d + j) *ℤ g))
times_part f g l j zero = omega (arith, ints)
times_part f g l j (suc d) =
    let before = times_part f g l j d in
    let is : suc d + j ≡ suc (d + j) = omega arith in
    rw (is, one_more (d + j) f, one_more (d + j) g) (omega (arith, ints, before, l))

-- numbers in order that are so some turns on are so before
order_between : (a b f g : ℤ) (j q : ℕ) → j ≤ q → a ≤ℤ b → (a +ℤ (pos q *ℤ f)) ≤ℤ (b +ℤ (pos q *ℤ g)) → (a +ℤ (pos j *ℤ f)) ≤ℤ (b +ℤ (pos j *ℤ g))
order_between a b f g j q l first end =
    by_lt_z f g
    (λ (r : f <ℤ g).
    let more = times_rise f g (omega (arith, ints, r)) j in
    omega (arith, ints, more, first))
    (λ (r : g ≤ℤ f).
    let is : (q - j) + j ≡ q = omega (arith, l) in
    let apart = rw is at (times_part f g r j (q - j)) in
    omega (arith, ints, apart, end))

-- so dates
pub between_turns : (a b : Date) (f g : ℤ) (j q : ℕ) → j ≤ q → IsAtMostDate a b → IsAtMostDate (move (pos q *ℤ f) a) (move (pos q *ℤ g) b)
    → IsAtMostDate (move (pos j *ℤ f) a) (move (pos j *ℤ g) b)
between_turns Early b f g j q l first end = tt
between_turns (At s) Early f g j q l first end = absurd first
between_turns (At s) (At t) f g j q l first end = order_between s t f g j q l first end
between_turns (At s) Never f g j q l first end = tt
between_turns Never Early f g j q l first end = absurd first
between_turns Never (At t) f g j q l first end = absurd first
between_turns Never Never f g j q l first end = tt

-- the greater number makes the greater move, in one turn or more
greater_parts : (f g : ℤ) (q : ℕ) → f <ℤ g → 1 ≤ q → (pos q *ℤ f) <ℤ (pos q *ℤ g)
greater_parts f g zero l o = absurd (omega (arith, o))
greater_parts f g (suc q) l o =
    let before = times_rise f g (omega (arith, ints, l)) q in
    rw (one_more q f, one_more q g) (omega (arith, ints, before, l))

-- steps that bring two numbers in order to one, and leave them in order some turns on, are equal
same_step : (a b f g : ℤ) (q : ℕ) → 1 ≤ q → a ≤ℤ b → b +ℤ g ≡ a +ℤ f → ((a +ℤ f) +ℤ (pos q *ℤ f)) ≤ℤ ((b +ℤ g) +ℤ (pos q *ℤ g)) → f ≡ g
same_step a b f g q o first one end =
    by_lt_z g f
    (λ (r : g <ℤ f).
    let parts = greater_parts g f q r o in
    absurd (omega (arith, ints, parts, one, end)))
    (λ (r : f ≤ℤ g). omega (arith, ints, r, first, one))

-- dates in order that one turn brings together, and that are in order some turns on, stay together
met_on : (a b : Date) (f g : ℤ) (j q : ℕ) → 1 ≤ q → IsAtMostDate a b → move g b ≡ move f a
    → IsAtMostDate (move (pos q *ℤ f) (move f a)) (move (pos q *ℤ g) (move g b)) → move (pos j *ℤ g) (move g b) ≡ move (pos j *ℤ f) (move f a)
met_on Early b f g j q o first one end = ap (move (pos j *ℤ g)) one
met_on (At s) Early f g j q o first one end = absurd first
met_on (At s) (At t) f g j q o first one end =
    let met : t +ℤ g ≡ s +ℤ f = at_inj _ _ one in
    let same : f ≡ g = same_step s t f g q o first met end in
    ap (move (pos j *ℤ g)) one ∙ ap (λ z. move (pos j *ℤ z) (move f (At s))) (sym same)
met_on (At s) Never f g j q o first one end = absurd (cc)
met_on Never b f g j q o first one end = ap (move (pos j *ℤ g)) one

pub together_on : (a b d e : Date) (f g : ℤ) (j q : ℕ) → 1 ≤ q → IsAtMostDate a b → d ≡ move f a → e ≡ move g b → e ≡ d
    → IsAtMostDate (move (pos q *ℤ f) d) (move (pos q *ℤ g) e) → move (pos j *ℤ g) e ≡ move (pos j *ℤ f) d
together_on a b d e f g j q o first d_is e_is met end =
    let at_end : IsAtMostDate (move (pos q *ℤ f) (move f a)) (move (pos q *ℤ g) (move g b)) = rw (d_is, e_is) at end in
    ap (move (pos j *ℤ g)) e_is ∙ (met_on a b f g j q o first (sym e_is ∙ (met ∙ d_is)) at_end ∙ sym (ap (move (pos j *ℤ f)) d_is))

-- where the step does not fall, or a date is no number, they are in order at each turn
pub none_falls_on : (a b : Date) (f g : ℤ) (q : ℕ) → IsAtMostDate a b → (a ≡ Early) ⊎ ((b ≡ Never) ⊎ (f ≤ℤ g)) → IsAtMostDate (move (pos q *ℤ f) a) (move (pos q *ℤ g) b)
none_falls_on a b f g q l h =
    ⊎_elim
    (λ (e : a ≡ Early). rw e tt)
    (λ (c : (b ≡ Never) ⊎ (f ≤ℤ g)).
    ⊎_elim
    (λ (e : b ≡ Never). rw e (never_last (move (pos q *ℤ f) a)))
    (λ (r : f ≤ℤ g). move_rises (pos q *ℤ f) (pos q *ℤ g) a b (times_rise f g r q) l)
    c)
    h

-- so many times a step and a gain
times_more : (step : ℤ) (gain j : ℕ) → pos j *ℤ (step +ℤ pos gain) ≡ (pos j *ℤ step) +ℤ pos (j * gain)
times_more step gain zero =
    let none : 0 * gain ≡ 0 = grind arith in
    rw (zero-*ℤ (step +ℤ pos gain), zero-*ℤ step, none) refl
times_more step gain (suc j) =
    let before = times_more step gain j in
    let more : suc j * gain ≡ j * gain + gain = grind arith in
    rw (one_more j (step +ℤ pos gain), one_more j step) (omega (arith, ints, before, more))

pub turns_read : TurnsAreReadOff
turns_read token step slack gain turns some =
    let is = times_more step gain turns in
    let fits : (turns ≤ slack / gain) ↔ (turns * gain ≤ slack) = le-div_iff_mul-le some in (
      λ l. let there : (token +ℤ ((pos turns *ℤ step) +ℤ pos (turns * gain))) ≤ℤ ((token +ℤ pos slack) +ℤ (pos turns *ℤ step)) = rw is at l in
          fits.1 (omega (arith, ints, there)),
      λ l. let few = fits.0 l in rw is (omega (arith, ints, few)),
    )
