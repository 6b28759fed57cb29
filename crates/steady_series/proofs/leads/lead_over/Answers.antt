use Rattle.std.proofs.Common.{arith, subst, sym, ap, length, ◌≡◌, ◌∙◌}
use Rattle.series_laws.specs.SeriesForms.{size_of}
use Rattle.steady_series.specs.Leads.{IsLeadTo}
use Rattle.steady_series.proofs.SteadyLefts.{lead_of_all, number_is, some_map, steady_period}
use Rattle.steady_series.proofs.leads.lead_over.Goals as goal

pub lead_in_list-requires : goal.lead_in_list-requires
lead_in_list-requires c =
    let long : length c.values.result.now ≡ size_of c.args.second.now = ap length c.values.ensures.value in
    record { single = steady_period c.args.second.now c.values.ensures.series.canonical.form (omega (arith, long, c.if-values-ne1.false)) }

pub returns-clause-lead : goal.returns-clause-lead
returns-clause-lead c =
    let f = c.args.first.now in
    let g = c.args.second.now in
    let first = c.tail.ensures.series in
    let second = c.tail-2.ensures.series in
    let long : length c.values.result.now ≡ size_of g = ap length c.values.ensures.value in
    let one : size_of g ≡ 1 = omega (arith, long, c.if-values-ne1.false) in
    let s = number_is c.tail.result (c.is_number.ensures c.if-not-is_number.false) in
    let t = number_is c.tail-2.result (c.is_number-2.ensures c.if-not-is_number-2.false) in
    let gentle = c.gains_no_more.ensures c.if-not-gains_no_more.false in
    some_map c.within_range.result
    (λ told same. lead_of_all f g first.canonical.form second.canonical.form first.short one s.0 t.0 told (sym c.tail.ensures.value ∙ s.1) (sym c.tail-2.ensures.value ∙ t.1) gentle
    (subst (IsLeadTo f g.step (size_of f)) same c.lead_in_list.ensures))
    c.within_range.ensures.same
