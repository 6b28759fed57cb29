use Rattle.std.proofs.Common.{rules, ◌≡◌, ◌∙◌, ◌+◌, ◌+ℤ◌, ℤ, sym, ap, subst, arith, to_z, of_z}
use Rattle.std.specs.Int.{w128}
use Rattle.std.specs.Prelude.{ℕ}
use Rattle.std.proofs.lemmas.Int.{to_z-of_z}
use Rattle.forever_laws.specs.series_laws.Periodic.{times}
use Rattle.forever_laws.specs.series_laws.SeriesForms.{size_of}
use Rattle.steady_series.specs.Leads.{IsLeadBelow}
use Rattle.teg_forever.proofs.SteadyLeads.{gained_on, lead_begun, lead_on}
use Rattle.teg_forever.proofs.steady.lead_in_list.Goals as goal

pub loop-place-init : goal.loop-place-init
loop-place-init c =
    let tail : to_z w128 (of_z w128 c.args.tail) ≡ c.args.tail = search rules in
    record { lead = rw tail (lead_begun c.args.list.now c.args.second.now.step c.args.tail c.requires.tail); gained = search rules }

pub loop-place-preserved : goal.loop-place-preserved
loop-place-preserved c =
    let f = c.args.list.now in
    let step = c.args.second.now.step in
    let place = c.loop-place.place in
    let lead : ℤ = to_z w128 c.loop-place.lead-bits in
    let gained : ℤ = to_z w128 c.loop-place.gained-bits in
    let more : to_z w128 (of_z w128 c.in_ok-lead.lead) ≡ c.in_ok-lead.lead = search rules in
    let sum : to_z w128 (of_z w128 c.in_ok-gained.gained) ≡ c.in_ok-gained.gained = search rules in
    let told : to_z w128 (of_z w128 c.step-step.result) ≡ c.step-step.result = to_z-of_z w128 c.step-step.result (record { sfits = c.step-step.type_inv }) in
    let steps : c.in_ok-gained.gained ≡ times (place + 1) step =
    c.in_ok-gained.ensures ∙ ap (λ (z : ℤ). gained +ℤ z) (told ∙ c.step-step.ensures.value) ∙ gained_on place step gained c.loop-place.invariant.gained in
    record {
      lead = rw more (lead_on f step place lead c.value.result gained c.in_ok-lead.lead c.loop-place.invariant.lead (sym c.value.ensures) c.loop-place.invariant.gained c.in_ok-lead.ensures);
      gained = sum ∙ steps;
    }

pub returns : goal.returns
returns c =
    let f = c.args.list.now in
    let whole : c.loop-place.place ≡ size_of f = omega (arith, c.loop-place-test.false, c.size-place-end.ensures.value) in
    subst (λ (n : ℕ). IsLeadBelow f c.args.second.now.step n (to_z w128 c.loop-place.lead-bits)) whole c.loop-place.invariant.lead
