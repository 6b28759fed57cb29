use Rattle.std.proofs.Common.{ℕ, ◌≡◌, List, length, ap, subst}
use Rattle.teg_net.specs.declared.entries.Transition.{Transition}
use Rattle.teg_net.specs.declared.entries.Place.{Place}
use Rattle.teg_net.specs.Parts.{to_of}
use Rattle.teg_sizing.specs.TracedPaths.{HaveToldAll}
use Rattle.teg_sizing.specs.Surpluses.{StartsFrom}
use Rattle.teg_net.proofs.Reading.{read_place}
use Rattle.teg_sizing.proofs.Traces.{of_net}
use Rattle.teg_sizing.proofs.surpluses.rounds_back.Goals as goal

pub returns-clause-back : goal.returns-clause-back
returns-clause-back c =
    let net = c.args.net.now in
    let first = c.in_ok-first.first in
    let all = c.in_ok-all.all.items in
    let q : Place = c.index-places-place.result in
    let place = read_place net c.places.result.now c.args.place q c.places.ensures.value c.requires.place c.index-places-place.is in
    let n : length c.transitions-count.result.now ≡ length net.transitions = ap (λ (z : List Transition). length z) c.transitions-count.ensures.value in
    let starts : StartsFrom (length net.transitions) (to_of net c.args.place) first =
    subst (λ (z : Place). StartsFrom (length net.transitions) z.to.index first) place (subst (λ (z : ℕ). StartsFrom z q.to.index first) n c.in_ok-first.ensures) in
    record {
      first = first;
      starts = starts;
      told = subst (λ (z : ℕ). HaveToldAll net c.args.target c.args.place first z all) n c.in_ok-all.ensures.all;
      of_net = of_net net c.args.target c.args.place first all c.in_ok-all.ensures.rounds starts.by_none;
    }
