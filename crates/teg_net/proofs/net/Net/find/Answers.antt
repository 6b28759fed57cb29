use Rattle.std.proofs.Common.{◌≡◌}
use Rattle.std.proofs.lemmas.Bool.Decides.{Decides-eqb}
use Rattle.std.proofs.lemmas.Slice.Eq.{slice_eq-Decides}
use Rattle.teg_net.proofs.Named.{found_named}
use Rattle.teg_net.proofs.net.Net.find.Goals as goal

pub returns-then-eq-clause-found : goal.returns-then-eq-clause-found
returns-then-eq-clause-found c =
    let same : c.as_str.result.now ≡ c.args.name.now = (slice_eq-Decides Decides-eqb c.as_str.result.now c.args.name.now c.eq.result c.eq.ensures).0 c.if-eq.true in
    found_named (λ x. x.name) c.args.self.now.transitions c.transitions-transition-items.result.now c.loop-index.index
    c.transition-item.result c.as_str.result.now c.args.name.now c.transitions-transition-items.ensures.value c.loop-index-test.true
    c.transition-item.is c.as_str.ensures.text same
