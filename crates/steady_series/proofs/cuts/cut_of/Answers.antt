use Rattle.std.proofs.Common.{rules, ◌≡◌, ◌/◌, ℕ, length, ap, arith, sym, ◌∙◌, to_z, of_z}
use Rattle.std.specs.Int.{w128}
use Rattle.std.proofs.lemmas.Int.{ints}
use Rattle.std.proofs.Math.Nat.{div-one}
use Rattle.dioid.specs.declared.dates.Date.TheVariants.{At}
use Rattle.series_laws.specs.Periodic.{times}
use Rattle.series_laws.specs.SeriesForms.{size_of}
use Rattle.steady_series.proofs.cuts.cut_of.Goals as goal

pub returns : goal.returns
returns c =
    let f = c.args.first.now in
    let g = c.args.second.now in
    let single : g.period ≡ 1 = omega (arith, c.period.ensures.value, c.if-period-ne1.false) in
    let long : length c.values.result.now ≡ size_of g = ap length c.values.ensures.value in
    let turns : c.period-3.result / g.period ≡ f.period = ap (λ (n : ℕ). c.period-3.result / n) single ∙ div-one c.period-3.result ∙ c.period-3.ensures.value in
    let rise : c.gain_over.result ≡ times f.period g.step = c.gain_over.ensures.value ∙ ap (λ (n : ℕ). times n g.step) turns in
    let lead : to_z w128 (of_z w128 c.in_ok-lead.lead) ≡ c.in_ok-lead.lead = search rules in
    let drop : to_z w128 (of_z w128 c.in_ok-drop.drop) ≡ c.in_ok-drop.drop = search rules in
    let level : to_z w128 (of_z w128 c.in_ok-level.level) ≡ c.in_ok-level.level = search rules in
    let less = c.in_ok-level.ensures in
    record {
      first = c.tail.ensures.series;
      second = c.values.ensures.series;
      single = single;
      room = omega (arith, long, c.if-values-period-gt20001.false, c.period-2.ensures.value);
      slow = omega (arith, ints, rise, c.if-step-gain_over.false, c.step.ensures.value);
      tail = c.in-At.field-0;
      is_tail = sym c.tail.ensures.value ∙ c.in-At.is;
      lead = c.in_ok-lead.lead;
      drop = c.in_ok-drop.drop;
      place = c.in_ok-place.place;
      before = omega (arith, c.max-count.ensures);
      early = omega (arith, c.if-count-start.false, c.start.ensures.value);
      attained = c.in_ok-place.ensures.attained ∙ ap At (omega (arith, ints, lead));
      is_drop = c.in_ok-drop.ensures;
      under = λ i z begun within there. let low = c.count_above.ensures.under i z (omega (arith, begun, c.max-count.ensures)) within there in omega (arith, ints, low, level, lead, drop, less);
    }
