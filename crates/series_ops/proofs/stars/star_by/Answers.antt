use Rattle.std.proofs.Common.{◌≡◌, ℕ, ℤ, refl, ◌≤◌, ◌+◌, ◌∙◌, ap, sym, subst, arith, suc, pos, List, [], ◌∷◌, ◌++◌, length, to_z, of_z}
use Rattle.std.specs.Int.{w128}
use Rattle.std.specs.Prelude.{IfOk}
use Rattle.std.specs.Int.RustNames.{unsigned_abs}
use Rattle.dioid.specs.Dates.{later_of}
use Rattle.dioid.specs.declared.dates.Date.{Date}
use Rattle.dioid.specs.declared.dates.Date.TheVariants.{At}
use Rattle.series_laws.specs.SeriesForms.{Form, form_with, size_of, repeat_start, table, value_at}
use Rattle.series_laws.proofs.FormValues.{table_length}
use Rattle.series_form.specs.NumberBounds.{IsMagnitudeUpTo, IsSeries}
use Rattle.series_form.proofs.Finished.{table_push}
use Rattle.series_ops.specs.ListFunctions.{value_listed, later_part}
use Rattle.series_ops.specs.Splits.{tail_product, IsTailed}
use Rattle.series_laws.specs.StarOf.{parts_star}
use Rattle.series_form.specs.SeriesLimits.{greatest_listed, greatest_value}
use Rattle.series_ops.specs.Pieces.{IsPieceBegun}
use Rattle.series_ops.proofs.BegunLaws.{begun_none, begun_pushed}
use Rattle.series_ops.proofs.PieceLaws.{own_table}
use Rattle.series_ops.proofs.SplitLaws.{passed_form}
use Rattle.series_ops.proofs.StarValues.{star_moderate, later_fits, later_tails, later_carried, later_tails_up, later_up, star_next}
use Rattle.series_ops.proofs.stars.star_by.Goals as goal

pub loop-shift-init : goal.loop-shift-init
loop-shift-init c = (
  c.in_ok-push.ensures ∙ ap (λ (z : List Date). z ++ (At (pos 0) ∷ [])) c.new-cells.ensures,
  c.new-tails.ensures.items,
  begun_none c.args.rest.now _ (repeat_start c.args.first.now) c.nothing_begun-begun.result.count
      c.nothing_begun-begun.result.sums.items c.nothing_begun-begun.ensures.count c.nothing_begun-begun.ensures.sums,
)

-- the form of the tail
form_of : (f : Form) (rest : List Date) (tail : Form) (n : ℕ) (x : ℤ) → IsSeries f → n ≡ f.period → x ≡ f.step → tail ≡ form_with rest n (to_z w128 (of_z w128 x))
    → tail ≡ form_with rest f.period f.step
form_of f rest tail n x h en ex e = e ∙ passed_form f rest n x h en ex

pub new-tail-requires : goal.new-tail-requires
new-tail-requires c =
    let f = c.args.first.now in
    subst (λ (z : Form). IsTailed z) (sym (passed_form f c.args.rest.now c.period.result c.step.result c.step.ensures.series c.period.ensures.value c.step.ensures.value))
    (record {
      positive = c.step.ensures.series.canonical.form.period_positive;
      fits = later_fits f c.step.ensures.series c.args.rest.now c.requires.rest;
      step = let low : unsigned_abs f.step ≤ greatest_value = c.step.ensures.series.small.step in omega arith;
    })

pub next_sum-last-requires : goal.next_sum-last-requires
next_sum-last-requires c =
    let f = c.args.first.now in
    let form : c.new-tail.result ≡ form_with c.args.rest.now f.period f.step =
    form_of f c.args.rest.now c.new-tail.result c.period.result c.step.result c.step.ensures.series c.period.ensures.value c.step.ensures.value c.new-tail.ensures in
    let more = c.loop-shift-test.true in
    let short = c.requires.need in
    let stars : c.loop-shift.cells ≡ table (parts_star (value_at f)) (c.loop-shift.shift + 1) = c.loop-shift.invariant.0 in
    let size : length c.loop-shift.cells ≡ c.loop-shift.shift + 1 = ap length stars ∙ table_length (parts_star (value_at f)) (c.loop-shift.shift + 1) in
    let tails : c.as_slice.result.now ≡ table (tail_product (form_with c.args.rest.now f.period f.step) (parts_star (value_at f))) c.loop-shift.shift =
    c.as_slice.ensures.value ∙ c.loop-shift.invariant.1 in
    let long : length c.as_slice.result.now ≡ c.loop-shift.shift =
    ap length tails ∙ table_length (tail_product (form_with c.args.rest.now f.period f.step) (parts_star (value_at f))) c.loop-shift.shift in
    record {
      second = omega arith;
      known = refl;
      tails_bound = later_tails_up f c.step.ensures.series c.args.rest.now c.requires.rest c.loop-shift.shift c.as_slice.result.now (omega arith) tails;
      tails = subst (λ (z : Form). c.as_slice.result.now ≡ table (tail_product z (value_listed c.loop-shift.cells)) (length c.as_slice.result.now)) (sym form)
          (later_carried f c.step.ensures.series c.args.rest.now c.requires.rest c.loop-shift.shift c.loop-shift.cells c.as_slice.result.now stars tails
          ∙ ap (table (tail_product (form_with c.args.rest.now f.period f.step) (value_listed c.loop-shift.cells))) (sym long));
    }

pub renewed-requires : goal.renewed-requires
renewed-requires c =
    let f = c.args.first.now in
    let whole : length c.args.rest.now ≡ size_of f = ap length c.requires.rest ∙ table_length (later_part (value_at f)) (size_of f) in
    let here : c.start.result ≡ repeat_start f = c.start.ensures.value in
    let size : length c.loop-shift.cells ≡ c.loop-shift.shift + 1 = ap length c.loop-shift.invariant.0 ∙ table_length (parts_star (value_at f)) (c.loop-shift.shift + 1) in
    let short = c.period.ensures.series.short in
    let some = c.period.ensures.series.canonical.form.period_positive in
    let own = c.period.ensures.value in
    let need = c.requires.need in
    let more = c.loop-shift-test.true in
    record {
      span = record {
        fits = omega arith;
        short = omega arith;
        period = let same = c.period-2.ensures.value in omega arith;
        values = later_up f c.period.ensures.series c.args.rest.now c.requires.rest;
      };
      first_places = refl;
      long = omega arith;
      old = subst (λ (z : ℕ). IsPieceBegun c.loop-shift.begun.count c.loop-shift.begun.sums.items c.args.rest.now c.loop-shift.cells z) (sym here) c.loop-shift.invariant.2;
    }

pub greatest_begun-requires : goal.greatest_begun-requires
greatest_begun-requires c =
    let f = c.args.first.now in
    let whole : length c.args.rest.now ≡ size_of f = ap length c.requires.rest ∙ table_length (later_part (value_at f)) (size_of f) in
    let here : c.start.result ≡ repeat_start f = c.start.ensures.value in
    let size : length c.loop-shift.cells ≡ c.loop-shift.shift + 1 = ap length c.loop-shift.invariant.0 ∙ table_length (parts_star (value_at f)) (c.loop-shift.shift + 1) in
    record { first = omega arith; second = omega arith; begun = c.in_ok-more.ensures }

pub push-requires-in-loop-shift-2 : goal.push-requires-in-loop-shift-2
push-requires-in-loop-shift-2 c =
    let f = c.args.first.now in
    let more = c.loop-shift-test.true in
    let short = c.requires.need in
    let following : suc c.loop-shift.shift ≡ c.loop-shift.shift + 1 = omega arith in
    let form : c.new-tail.result ≡ form_with c.args.rest.now f.period f.step =
    form_of f c.args.rest.now c.new-tail.result c.period.result c.step.result c.step.ensures.series c.period.ensures.value c.step.ensures.value c.new-tail.ensures in
    let long : length c.as_slice.result.now ≡ c.loop-shift.shift =
    ap length (c.as_slice.ensures.value ∙ c.loop-shift.invariant.1) ∙ table_length (tail_product (form_with c.args.rest.now f.period f.step) (parts_star (value_at f))) c.loop-shift.shift in
    let tail : c.next_sum-last.result ≡ tail_product (form_with c.args.rest.now f.period f.step) (value_listed c.loop-shift.cells) c.loop-shift.shift =
    c.next_sum-last.ensures ∙ ap (λ (z : Form). tail_product z (value_listed c.loop-shift.cells) (length c.as_slice.result.now)) form
    ∙ ap (tail_product (form_with c.args.rest.now f.period f.step) (value_listed c.loop-shift.cells)) long in
    let next : c.later-next.result ≡ parts_star (value_at f) (c.loop-shift.shift + 1) =
    c.later-next.ensures.value ∙ ap (later_of (At (pos 0))) (c.later-best.ensures.value ∙ ap (λ (z : Date). later_of z c.next_sum-last.result) c.greatest_begun.ensures)
    ∙ star_next f c.period.ensures.series c.args.rest.now c.requires.rest c.loop-shift.shift c.start.result
    c.loop-shift.cells c.next_sum-last.result c.loop-shift.invariant.0 c.start.ensures.value tail
    ∙ ap (parts_star (value_at f)) following in
    subst (λ (z : Date). IsMagnitudeUpTo greatest_listed z) (sym next) (star_moderate f c.period.ensures.series (c.loop-shift.shift + 1) (omega arith))

pub loop-shift-preserved : goal.loop-shift-preserved
loop-shift-preserved c =
    let f = c.args.first.now in
    let following : suc c.loop-shift.shift ≡ c.loop-shift.shift + 1 = omega arith in
    let form : c.new-tail.result ≡ form_with c.args.rest.now f.period f.step =
    form_of f c.args.rest.now c.new-tail.result c.period.result c.step.result c.step.ensures.series c.period.ensures.value c.step.ensures.value c.new-tail.ensures in
    let long : length c.as_slice.result.now ≡ c.loop-shift.shift =
    ap length (c.as_slice.ensures.value ∙ c.loop-shift.invariant.1) ∙ table_length (tail_product (form_with c.args.rest.now f.period f.step) (parts_star (value_at f))) c.loop-shift.shift in
    let tail : c.next_sum-last.result ≡ tail_product (form_with c.args.rest.now f.period f.step) (value_listed c.loop-shift.cells) c.loop-shift.shift =
    c.next_sum-last.ensures ∙ ap (λ (z : Form). tail_product z (value_listed c.loop-shift.cells) (length c.as_slice.result.now)) form
    ∙ ap (tail_product (form_with c.args.rest.now f.period f.step) (value_listed c.loop-shift.cells)) long in
    let next : c.later-next.result ≡ parts_star (value_at f) (c.loop-shift.shift + 1) =
    c.later-next.ensures.value ∙ ap (later_of (At (pos 0))) (c.later-best.ensures.value ∙ ap (λ (z : Date). later_of z c.next_sum-last.result) c.greatest_begun.ensures)
    ∙ star_next f c.period.ensures.series c.args.rest.now c.requires.rest c.loop-shift.shift c.start.result
    c.loop-shift.cells c.next_sum-last.result c.loop-shift.invariant.0 c.start.ensures.value tail
    ∙ ap (parts_star (value_at f)) following in (
      c.in_ok-push-3.ensures ∙ table_push (parts_star (value_at f)) (c.loop-shift.shift + 1) c.loop-shift.cells _ c.loop-shift.invariant.0 next,
      c.in_ok-push-2.ensures.items ∙ table_push (tail_product (form_with c.args.rest.now f.period f.step)
          (parts_star (value_at f))) c.loop-shift.shift c.loop-shift.tails.items _ c.loop-shift.invariant.1
          (tail ∙ later_tails f c.period.ensures.series c.args.rest.now c.requires.rest c.loop-shift.shift c.loop-shift.cells c.loop-shift.invariant.0 c.loop-shift.shift (omega arith)),
      begun_pushed c.in_ok-more.more.count c.in_ok-more.more.sums.items c.args.rest.now c.loop-shift.cells _ (repeat_start f) _
          (subst (λ (z : ℕ). IsPieceBegun c.in_ok-more.more.count c.in_ok-more.more.sums.items c.args.rest.now c.loop-shift.cells z)
          c.start.ensures.value c.in_ok-more.ensures) c.in_ok-push-3.ensures,
    )

pub returns : goal.returns
returns c =
    let f = c.args.first.now in
    let last : c.loop-shift.shift ≡ c.args.need = omega arith in
    let stars : c.loop-shift.cells ≡ table (parts_star (value_at f)) (c.args.need + 1) = c.loop-shift.invariant.0 ∙ ap (λ (n : ℕ). table (parts_star (value_at f)) (n + 1)) last in
    let size : length c.loop-shift.cells ≡ c.args.need + 1 = ap length stars ∙ table_length (parts_star (value_at f)) (c.args.need + 1) in
    let whole : table (value_listed c.loop-shift.cells) (c.args.need + 1) ≡ table (parts_star (value_at f)) (c.args.need + 1) =
    ap (table (value_listed c.loop-shift.cells)) (sym size) ∙ sym (own_table c.loop-shift.cells) ∙ stars in
    subst (λ (z : List Date). IfOk c.dates_of.result (λ values. values.items ≡ z)) whole c.dates_of.ensures.value
