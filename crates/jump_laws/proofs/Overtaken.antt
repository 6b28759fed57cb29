-- Before an overtaking no form has begun: dates that go on by a form move by their turns for ever.
use Rattle.std.proofs.Common.{ℕ, ℤ, zero, suc, pos, ◌+◌, ◌-◌, ◌*◌, ◌/◌, ◌<◌, ◌≤◌, ◌≡◌, sym, ap, ◌∙◌, arith, ⊎_elim, inl, inr}
use Rattle.std.specs.Prelude.{◌*ℤ◌, ◌⊎◌}
use Rattle.std.proofs.lemmas.Bool.{cases_lt}
use Rattle.dioid.specs.declared.dates.Date.{Date}
use Rattle.dioid.specs.declared.dates.Date.TheVariants.{Early, Never}
use Rattle.dioid.specs.Dates.{move}
use Rattle.dioid.proofs.Moves.{move_swap, same_move}
use Rattle.settled_laws.proofs.Telling.{back_in}
use Rattle.jump_laws.specs.Jumps.{MovesTo, FormsComeAfterJumps, FormsComeAfterJumpsIn}
use Rattle.jump_laws.proofs.Turns.{step_on, turns_on}
use Rattle.jump_laws.proofs.InNets.{jumps_end}
use Rattle.jump_laws.proofs.InSystems.{jumps_end_in}

-- a period on they move by the step of the number a period before
period_on : (d : ℕ → Date) (turn begin period : ℕ) (by s : ℤ) → ((k : ℕ) → begin < k → d (k + period) ≡ move by (d k))
    → (k : ℕ) → begin + period < k → d ((k - period) + turn) ≡ move s (d (k - period)) → d (k + turn) ≡ move s (d k)
period_on d turn begin period by s form k a before =
    let is : (k - period) + period ≡ k = omega (arith, a) in
    let on : ((k - period) + turn) + period ≡ k + turn = omega (arith, a) in
    let here : d k ≡ move by (d (k - period)) = ap d (sym is) ∙ form (k - period) (omega (arith, a)) in
    ap d (sym on)
    ∙ (form ((k - period) + turn) (omega (arith, a))
    ∙ (ap (move by) before ∙ (move_swap by s (d (k - period)) ∙ ap (move s) (sym here))))

turns_for_ever : (d : ℕ → Date) (after turn last begin period : ℕ) (by : ℤ) (s : ℕ → ℤ) → 1 ≤ turn → 1 ≤ period → ((k : ℕ) → s (k + turn) ≡ s k)
    → MovesTo d after turn last s → ((k : ℕ) → begin < k → d (k + period) ≡ move by (d k))
    → begin + period + turn + turn ≤ last → after + period + turn + turn ≤ last → (n k : ℕ) → k ≤ n → after < k → d (k + turn) ≡ move (s k) (d k)
turns_for_ever d after turn last begin period by s one some residues moves form early late zero k m a = absurd (omega (arith, m, a))
turns_for_ever d after turn last begin period by s one some residues moves form early late (suc n) k m a =
    let before : (i : ℕ) → i ≤ n → after < i → d (i + turn) ≡ move (s i) (d i) = turns_for_ever d after turn last begin period by s one some residues moves form early late n in
    ⊎_elim
    (λ (far : last < k + turn).
    let own : d (k + turn) ≡ move (s (k - period)) (d k) =
    period_on d turn begin period by (s (k - period)) form k (omega (arith, far, early)) (before (k - period) (omega (arith, m, some, far, early)) (omega (arith, far, late))) in
    let whole : (last - turn - turn) + turn ≡ last - turn = omega (arith, early) in
    let j : ℕ = (k - ((last - turn - turn) + turn) - 1) / turn + 1 in
    let found = back_in (last - turn - turn) turn k one (omega (arith, far, whole)) in
    let i : ℕ = k - j * turn in
    let low : last - turn - turn < i = found.0 in
    let high : i + turn ≤ last = omega (arith, found.1, whole, early) in
    let is : i + j * turn ≡ k = found.2 in
    let there : (i - period) + j * turn ≡ k - period = omega (arith, is, low, early) in
    let first : s k ≡ s i = ap s (sym is) ∙ step_on turn s residues i j in
    let second : s (k - period) ≡ s (i - period) = ap s (sym there) ∙ step_on turn s residues (i - period) j in
    let by_turn : d (i + turn) ≡ move (s i) (d i) = moves i (omega (arith, low, late)) high in
    let by_form : d (i + turn) ≡ move (s (i - period)) (d i) =
    period_on d turn begin period by (s (i - period)) form i (omega (arith, low, early)) (moves (i - period) (omega (arith, low, late)) (omega (arith, high))) in
    let up_to : d (i + j * turn) ≡ move (pos j *ℤ s i) (d i) =
    turns_on d after turn k s residues (λ c b f. before c (omega (arith, f, m, one)) b) i j (omega (arith, low, late)) (omega (arith, is)) in
    let here : d k ≡ move (pos j *ℤ s i) (d i) = ap d (sym is) ∙ up_to in
    ⊎_elim
    (λ (e : s i ≡ s (i - period)). own ∙ ap (λ z. move z (d k)) (second ∙ (sym e ∙ sym first)))
    (λ (e : (d i ≡ Early) ⊎ (d i ≡ Never)).
    ⊎_elim
    (λ (v : d i ≡ Early). let v' : d k ≡ Early = here ∙ ap (move (pos j *ℤ s i)) v in own ∙ (ap (move (s (k - period))) v' ∙ sym (ap (move (s k)) v')))
    (λ (v : d i ≡ Never). let v' : d k ≡ Never = here ∙ ap (move (pos j *ℤ s i)) v in own ∙ (ap (move (s (k - period))) v' ∙ sym (ap (move (s k)) v')))
    e)
    (same_move (s i) (s (i - period)) (d i) (sym by_turn ∙ by_form)))
    (λ (near : k + turn ≤ last). moves k a near)
    (cases_lt last (k + turn))

pub come_after : FormsComeAfterJumps
come_after net ends u x f after turn last turns step w late begin period by form =
    ⊎_elim
    (λ (q : last < begin + period + turn + turn). inl q)
    (λ (q : begin + period + turn + turn ≤ last).
    ⊎_elim
    (λ (p : last < after + period + turn + turn). inr p)
    (λ (p : after + period + turn + turn ≤ last).
    absurd (late (jumps_end net ends u x f after turn last turns step w
    (λ t l k a m. turns_for_ever (x t) after turn last begin period (by t) (step t) w.at_least_one form.at_least_one (w.residues t) (w.moves t l)
    (λ i b. form.again t i l b) q p k k (omega arith) a))))
    (cases_lt last (after + period + turn + turn)))
    (cases_lt last (begin + period + turn + turn))

pub come_after_in : FormsComeAfterJumpsIn
come_after_in s x f after turn last turns step w late begin period by some form =
    ⊎_elim
    (λ (q : last < begin + period + turn + turn). inl q)
    (λ (q : begin + period + turn + turn ≤ last).
    ⊎_elim
    (λ (p : last < after + period + turn + turn). inr p)
    (λ (p : after + period + turn + turn ≤ last).
    absurd (late (jumps_end_in s x f after turn last turns step w
    (λ t k a m. turns_for_ever (x t) after turn last begin period (by t) (step t) w.at_least_one some (w.residues t) (w.moves t)
    (λ i b. form t i b) q p k k (omega arith) a))))
    (cases_lt last (after + period + turn + turn)))
    (cases_lt last (begin + period + turn + turn))
