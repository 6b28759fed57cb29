use Rattle.std.proofs.Common.{◌≡◌, ap, sym, ◌∙◌, subst, arith, ◌+◌, ◌-◌, ◌<◌, ◌≤◌, ◌-ℤ◌, ℕ, ℤ, List, length, get_or, FitsSigned, to_z, of_z}
use Rattle.std.specs.Int.{w128}
use Rattle.std.proofs.lemmas.Int.{to_z-of_z}
use Rattle.dioid.specs.declared.dates.Date.{Date}
use Rattle.dioid.specs.declared.dates.Date.TheVariants.{Early}
use Rattle.series_laws.specs.SeriesForms.{form_with, gap}
use Rattle.series_laws.proofs.FormValues.{value_in}
use Rattle.series_form.proofs.FirstPart.{V}
use Rattle.series_form.proofs.Listed.{gain_fits, whole_gain}
use Rattle.series_form.proofs.shorten.PeriodicList.gain_of.Goals as goal

listed : (l : List Date) (n : ℕ) (x : ℤ) (turn : ℕ) → 0 < n → n ≤ length l → turn < n
    → gap (V l n x (length l - n)) (V l n x (length l - n + turn)) ≡ gap (get_or l (length l - n) Early) (get_or l (length l - n + turn) Early)
listed l n x turn pos_n fits w =
    ap (λ (z : Date). gap z (V l n x (length l - n + turn))) (value_in (form_with l n x) (length l - n) (omega arith))
    ∙ ap (gap (get_or l (length l - n) Early)) (value_in (form_with l n x) (length l - n + turn) (omega arith))

pub gap_of-requires : goal.gap_of-requires
gap_of-requires c =
    let l : List Date = c.self.inside.values.now in
    let n : ℕ = c.self.inside.period in
    let x : ℤ = c.self.inside.step in
    let h = c.self.invariant in
    subst (λ (z : ℤ). FitsSigned w128 z) (listed l n x c.args.turn h.positive h.fits c.if-turn-self.true)
    (gain_fits l n x h.positive h.fits c.args.turn (omega arith) h.rising h.step_fits).0

pub returns-then-turn-self-clause-gain : goal.returns-then-turn-self-clause-gain
returns-then-turn-self-clause-gain c =
    let l : List Date = c.self.inside.values.now in
    let n : ℕ = c.self.inside.period in
    let x : ℤ = c.self.inside.step in
    let h = c.self.invariant in
    rw (← c.self.view_is) (to_z-of_z w128 c.gap_of.result (record { sfits = c.gap_of.type_inv })
    ∙ c.gap_of.ensures ∙ sym (listed l n x c.args.turn h.positive h.fits c.if-turn-self.true))

pub returns-then-turn-self-clause-rest : goal.returns-then-turn-self-clause-rest
returns-then-turn-self-clause-rest c =
    let l : List Date = c.self.inside.values.now in
    let n : ℕ = c.self.inside.period in
    let x : ℤ = c.self.inside.step in
    let h = c.self.invariant in
    let e : to_z w128 (of_z w128 c.gap_of.result) ≡ gap (V l n x (length l - n)) (V l n x (length l - n + c.args.turn)) =
    to_z-of_z w128 c.gap_of.result (record { sfits = c.gap_of.type_inv }) ∙ c.gap_of.ensures
    ∙ sym (listed l n x c.args.turn h.positive h.fits c.if-turn-self.true) in
    rw (← c.self.view_is) (subst (λ (z : ℤ). FitsSigned w128 (x -ℤ z)) (sym e)
    (gain_fits l n x h.positive h.fits c.args.turn (omega arith) h.rising h.step_fits).1)

pub returns-in-At-clause-gain : goal.returns-in-At-clause-gain
returns-in-At-clause-gain c =
    let l : List Date = c.self.inside.values.now in
    let n : ℕ = c.self.inside.period in
    let x : ℤ = c.self.inside.step in
    let h = c.self.invariant in
    let turn : c.args.turn ≤ n = rw (← c.self.view_is) at c.requires in
    let e : n ≡ c.args.turn = omega arith in
    rw (← c.self.view_is) (to_z-of_z w128 x h.step_fits
    ∙ whole_gain l n x h.positive h.fits c.in-At.field-0 c.in-At.is
    ∙ ap (λ (z : ℕ). gap (V l n x (length l - n)) (V l n x (length l - n + z))) e)
