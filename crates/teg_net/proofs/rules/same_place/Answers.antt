use Rattle.std.proofs.Common.{sym, subst}
use Rattle.std.proofs.lemmas.List.{take_all}
use Rattle.teg_net.specs.declared.entries.Place.{Place}
use Rattle.teg_net.specs.NetFaults.{ArePlacesApart}
use Rattle.teg_net.proofs.Distinct.{not_both}
use Rattle.teg_net.proofs.NetFaultLaws.{repeat_apart}
use Rattle.teg_net.proofs.rules.same_place.Goals as goal

pub loop-index-preserved : goal.loop-index-preserved
loop-index-preserved c =
    let read = c.index-places-index.result in
    repeat_apart (λ (x : Place). x.name) c.args.places.now c.loop-index.index read c.as_str.result.now c.loop-index-test.true c.index-places-index.is (sym c.as_str.ensures.text)
    (λ any. not_both c.any_place_named.result c.if-any_place_named.false (c.any_place_named.ensures.1 any)) c.loop-index.invariant

pub returns-clause-none : goal.returns-clause-none
returns-clause-none c = subst ArePlacesApart (take_all c.loop-index.index c.args.places.now c.loop-index-test.false) c.loop-index.invariant
