use Rattle.std.proofs.Common.{rules, ◌≡◌, ◌∙◌, sym, ap, arith, length, to_z, of_z, ◌+ℤ◌}
use Rattle.std.specs.Int.{w128}
use Rattle.std.specs.Prelude.{ℤ}
use Rattle.forever_laws.specs.series_laws.Periodic.{times}
use Rattle.forever_laws.specs.series_laws.SeriesForms.{repeat_start, size_of}
use Rattle.teg_forever.proofs.SteadyLeads.{lead_of_list}
use Rattle.teg_forever.proofs.steady.lead_over.Goals as goal

pub gains_no_more-requires : goal.gains_no_more-requires
gains_no_more-requires c = let long : length c.values.result.now ≡ size_of c.args.second.now = ap length c.values.ensures.value in omega (arith, long, c.if-values-ne1.false)

pub returns-clause-lead : goal.returns-clause-lead
returns-clause-lead c =
    let f = c.args.list.now in
    let g = c.args.second.now in
    let long : length c.values.result.now ≡ size_of g = ap length c.values.ensures.value in
    let one : size_of g ≡ 1 = omega (arith, long, c.if-values-ne1.false) in
    let same : to_z w128 (of_z w128 c.in_ok-lead.lead) ≡ c.in_ok-lead.lead = search rules in
    let s : ℤ = c.in_ok-tail_lead.field-0 +ℤ times (repeat_start f) g.step in
    rw same
    (lead_of_list f g c.gains_no_more.ensures.list c.values.ensures.series one s c.in-At.field-0 c.in_ok-lead.lead c.in_ok-tail_lead.ensures (sym c.tail.ensures.value ∙ c.in-At.is)
    (c.gains_no_more.ensures.slow c.if-not-gains_no_more.false) c.in_ok-lead.ensures)
