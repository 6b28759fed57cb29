use Rattle.std.proofs.Common.{ℕ, ◌<◌, ◌≡◌, All, List, length, sym, subst, refl}
use Rattle.teg_net.specs.declared.entries.PlaceId.{PlaceId}
use Rattle.teg_net.specs.declared.places_of.PlaceEnd.TheVariants.{From}
use Rattle.teg_net.specs.PlaceLists.{ListsPlacesAt}
use Rattle.teg_settle.proofs.walk_times_proofs.Walking.{input_within}
use Rattle.walks_by_ends.proofs.inputs.walk_times_of.Goals as goal

pub are_kept-requires-clause-known : goal.are_kept-requires-clause-known
are_kept-requires-clause-known c =
    let net = c.args.net.now in
    let lists = c.requires.leaving.each c.args.input.index (input_within net c.args.input.index c.requires.input) in
    subst (All (λ p. p.index < length net.places)) (sym c.of-places.ensures) lists.known

pub new-ways-requires : goal.new-ways-requires
new-ways-requires c =
    let net = c.args.net.now in
    let lists = c.requires.leaving.each c.args.input.index (input_within net c.args.input.index c.requires.input) in
    record {
      rules = c.rules.ensures;
      input = c.requires.input;
      leave = subst (ListsPlacesAt net From c.args.input.index) (sym c.of-places.ensures) lists;
      ends = c.requires.ends;
      kept = c.if-are_kept.ensures refl;
    }
