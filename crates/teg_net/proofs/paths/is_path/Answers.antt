use Rattle.std.proofs.Common.{◌≡◌, List, [], ◌∷◌, length, refl, ap, arith, rules}
use Rattle.std.proofs.lemmas.Grind.{common_steps}
use Rattle.teg_net.specs.declared.entries.PlaceId.{PlaceId}
use Rattle.teg_net.specs.Nets.{NetLists}
use Rattle.teg_net.specs.Circuits.{IsPath}
use Rattle.teg_net.proofs.PathLaws.{IsPath-in_range}
use Rattle.teg_net.proofs.paths.is_path.Goals as goal

empty_path : (net : NetLists) (ps : List PlaceId) → length ps ≡ 0 → IsPath net ps
empty_path net [] e = (0, 0, refl)
empty_path net (p ∷ ps) e = absurd (omega arith)

pub returns-in-None-clause-is : goal.returns-in-None-clause-is
returns-in-None-clause-is c = (
  λ t. empty_path c.args.net.now c.args.places.now (grind (arith, common_steps)),
  λ h. let none : c.args.places.now ≡ [] = c.in-None.ensures.none
      (IsPath-in_range c.args.net.now c.args.places.now h) in let short : length c.args.places.now ≡ 0 = ap length none in grind (arith, common_steps),
)

pub returns-in-Some-clause-in_range : goal.returns-in-Some-clause-in_range
returns-in-Some-clause-in_range c = λ t. let path : IsPath c.args.net.now c.args.places.now = search rules in IsPath-in_range c.args.net.now c.args.places.now path
