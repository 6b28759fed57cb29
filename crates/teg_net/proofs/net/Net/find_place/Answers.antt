use Rattle.std.proofs.Common.{◌≡◌}
use Rattle.std.proofs.lemmas.Bool.Decides.{Decides-eqb}
use Rattle.std.proofs.lemmas.Slice.Eq.{slice_eq-Decides}
use Rattle.teg_net.proofs.Named.{found_named}
use Rattle.teg_net.proofs.net.Net.find_place.Goals as goal

pub returns-then-eq-clause-found : goal.returns-then-eq-clause-found
returns-then-eq-clause-found c =
    let same : c.as_str.result.now ≡ c.args.name.now = (slice_eq-Decides Decides-eqb c.as_str.result.now c.args.name.now c.eq.result c.eq.ensures).0 c.if-eq.true in
    found_named (λ x. x.name) c.args.self.now.places c.places-place-items.result.now c.loop-number.number c.place-item.result
    c.as_str.result.now c.args.name.now c.places-place-items.ensures.value c.loop-number-test.true c.place-item.is c.as_str.ensures.text same
