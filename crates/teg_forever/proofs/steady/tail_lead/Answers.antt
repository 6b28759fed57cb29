use Rattle.std.proofs.Common.{rules, ◌≡◌, ◌∙◌, sym, to_z, of_z}
use Rattle.std.specs.Int.{w128}
use Rattle.std.proofs.lemmas.Int.{to_z-of_z}
use Rattle.teg_forever.proofs.SteadyLeads.{tail_told}
use Rattle.teg_forever.proofs.steady.tail_lead.Goals as goal

pub returns-in-At : goal.returns-in-At
returns-in-At c =
    let f = c.args.list.now in
    let g = c.args.second.now in
    let gained : to_z w128 (of_z w128 c.gain_over.result) ≡ c.gain_over.result = to_z-of_z w128 c.gain_over.result (record { sfits = c.gain_over.type_inv }) in
    let date : to_z w128 (of_z w128 c.in-At.date) ≡ c.in-At.date = search rules in
    tail_told f g c.gain_over.ensures.series.canonical.form c.requires c.start-start.result c.start-start.ensures.value c.in-At.date c.gain_over.result
    (sym c.value.ensures ∙ c.in-At.is) c.gain_over.ensures.value c.later_by.result (rw (gained, date) at c.later_by.ensures)
