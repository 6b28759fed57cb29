use Rattle.std.proofs.Common.{◌≡◌, ◌≤◌, ◌-◌, ◌∙◌, ℕ, ℤ, List, ap, sym, subst, arith, length, to_z, of_z}
use Rattle.std.specs.Int.{w128}
use Rattle.std.specs.Int.RustNames.{unsigned_abs}
use Rattle.std.proofs.lemmas.Int.{to_z-of_z}
use Rattle.dioid.specs.Dates.{later_of, date_product}
use Rattle.dioid.specs.declared.dates.Date.{Date}
use Rattle.dioid.specs.declared.dates.Date.TheVariants.{At}
use Rattle.series_laws.specs.SeriesForms.{form_with, table}
use Rattle.series_form.specs.SeriesLimits.{greatest_value_ahead, greatest_part_product}
use Rattle.series_form.proofs.DateNumbers.{moderate_fits}
use Rattle.series_ops.specs.ListFunctions.{value_listed}
use Rattle.series_ops.specs.Pieces.{window, ArePieceSums}
use Rattle.series_ops.specs.Splits.{tail_product}
use Rattle.series_ops.proofs.SplitLaws.{tail_begun, tail_carried}
use Rattle.series_ops.proofs.splits.Tail.next_sum.Goals as goal

pub greatest_at-here-requires : goal.greatest_at-here-requires
greatest_at-here-requires c =
    let l : List Date = c.self.inside.values.now in
    let n : ℕ = c.self.inside.period in
    let fits = c.self.invariant.fits in
    let from : c.span.result.from ≡ length l - n = rw (← c.self.view_is) at c.span.ensures.from in
    let count : c.span.result.count ≡ n = rw (← c.self.view_is) at c.span.ensures.count in
    let known : ArePieceSums c.args.known.now l c.args.second.now (length l - n) n = rw (← c.self.view_is) at c.requires.known in
    record { first = omega arith; second = c.requires.second; known = rw (from, count) known }

pub added-requires-clause-first : goal.added-requires-clause-first
added-requires-clause-first c =
    let low : unsigned_abs c.self.inside.step ≤ greatest_value_ahead = c.self.invariant.step in
    let same : to_z w128 (of_z w128 c.self.inside.step) ≡ c.self.inside.step = to_z-of_z w128 c.self.inside.step (moderate_fits c.self.inside.step (omega arith)) in
    subst (λ (z : ℤ). unsigned_abs z ≤ greatest_part_product) (sym same) (omega arith)

pub returns-then-shift-self : goal.returns-then-shift-self
returns-then-shift-self c =
    let l : List Date = c.self.inside.values.now in
    let n : ℕ = c.self.inside.period in
    let x : ℤ = c.self.inside.step in
    let k : ℕ = length c.args.tails.now in
    let from : c.span.result.from ≡ length l - n = rw (← c.self.view_is) at c.span.ensures.from in
    let count : c.span.result.count ≡ n = rw (← c.self.view_is) at c.span.ensures.count in
    let here : c.greatest_at-here.result ≡ window (value_listed l) (value_listed c.args.second.now) (length l - n) n k = rw (from, count) at c.greatest_at-here.ensures.value in
    rw (← c.self.view_is) (here ∙ tail_begun (form_with l n x) (value_listed c.args.second.now) k c.self.invariant.fits c.if-shift-self.true)

pub returns : goal.returns
returns c =
    let l : List Date = c.self.inside.values.now in
    let n : ℕ = c.self.inside.period in
    let x : ℤ = c.self.inside.step in
    let k : ℕ = length c.args.tails.now in
    let t : ℕ → Date = value_listed c.args.second.now in
    let low : unsigned_abs x ≤ greatest_value_ahead = c.self.invariant.step in
    let from : c.span.result.from ≡ length l - n = rw (← c.self.view_is) at c.span.ensures.from in
    let count : c.span.result.count ≡ n = rw (← c.self.view_is) at c.span.ensures.count in
    let here : c.greatest_at-here.result ≡ window (value_listed l) t (length l - n) n k = rw (from, count) at c.greatest_at-here.ensures.value in
    let tails : c.args.tails.now ≡ table (tail_product (form_with l n x) t) k = rw (← c.self.view_is) at c.requires.tails in
    let before : c.added.result ≡ date_product (At x) (value_listed c.args.tails.now (k - n)) =
    c.added.ensures ∙ ap (λ (z : ℤ). date_product (At z) (value_listed c.args.tails.now (k - n))) (to_z-of_z w128 x (moderate_fits x (omega arith))) in
    rw (← c.self.view_is) (c.later.ensures.value ∙ ap (λ (z : Date). later_of z c.added.result) here
    ∙ ap (later_of (window (value_listed l) t (length l - n) n k)) before
    ∙ tail_carried (form_with l n x) t k c.args.tails.now c.self.invariant.positive c.self.invariant.fits tails c.if-shift-self.false)
