use Rattle.std.proofs.Common.{◌<◌, ◌≡◌, List, length, get_or, sym, ap, subst, ◌∙◌, arith}
use Rattle.std.specs.Int.{◌∣◌}
use Rattle.std.proofs.lemmas.List.{get_or_default}
use Rattle.teg_net.specs.declared.entries.Place.{Place}
use Rattle.teg_net.specs.Circuits.{no_place}
use Rattle.own_periods.specs.OwnRows.{LeadsIn, period_in}
use Rattle.own_periods.proofs.Lists.{all_push}
use Rattle.own_periods.proofs.meets.leading_places.Goals as goal
use Rattle.own_periods.proofs.meets.leading_places.Goals.{then-leads_in+in_ok-push, else-leads_in}

pub loop-index-preserved : goal.loop-index-preserved
loop-index-preserved c =
    let owns = c.args.of.now.owns.now in
    let t = c.args.transition.index in
    let places = c.places-places.result.now in
    let value : places ≡ c.args.of.now.net.now.places = c.places-places.ensures.value in
    let index = c.loop-index.index in
    let there : index < length places = omega (arith, c.loop-index-test.true) in
    let item = c.index-places-index.result in
    let same : get_or c.args.of.now.net.now.places index no_place ≡ item =
    subst (λ ps. get_or ps index no_place ≡ item) value (get_or_default places index no_place item there ∙ sym c.index-places-index.is) in
    elim c.if-leads_in.branch [
      | then-leads_in+in_ok-push w ↦
          let yes = w.if-leads_in.true in
          let leads : LeadsIn c.args.of.now.net.now owns t index = record {
            within = subst (λ (ps : List Place). index < length ps) value there;
            ends = ap (λ (p : Place). p.to.index) same ∙ c.leads_in.ensures.end yes;
            divides = subst (λ (p : Place). period_in owns p.from.index ∣ period_in owns t) (sym same) (c.leads_in.ensures.divides yes);
          } in
          rw (w.found-is, w.in_ok-push.ensures.items)
          (all_push (LeadsIn c.args.of.now.net.now owns t) c.loop-index.found.items index c.loop-index.invariant leads)
      | else-leads_in w ↦ rw w.found-is c.loop-index.invariant
    ]
