use Rattle.std.proofs.Common.{ℕ, List, Option, Some, None, ◌≡◌, ◌<◌, length, get_or, sym, ap}
use Rattle.std.specs.Prelude.{IfSome}
use Rattle.teg_net.specs.declared.entries.PlaceId.{PlaceId}
use Rattle.teg_net.specs.Nets.{NetLists}
use Rattle.teg_sizing.specs.declared.rounds.ValueCell.{ValueCell}
use Rattle.teg_sizing.specs.ValueRounds.{by_at, round_at, no_cell}
use Rattle.teg_sizing.specs.TracedPaths.{AreOfNet}
use Rattle.teg_sizing.proofs.Traces.{read_round}
use Rattle.teg_sizing.proofs.tracing.place_by.Goals as goal

told : (rounds : List (List ValueCell)) (k t : ℕ) (read cells : List ValueCell) → k < length rounds → read ≡ get_or rounds k read
    → cells ≡ read → (get_or cells t no_cell).by ≡ by_at (round_at rounds k) t
told rounds k t read cells l is same = ap (λ (z : List ValueCell). by_at z t) (read_round rounds k read cells l is same)

in_net : (net : NetLists) (rounds : List (List ValueCell)) → AreOfNet net rounds → (k t : ℕ) → k < length rounds → (o : Option PlaceId)
    → o ≡ by_at (round_at rounds k) t → IfSome o (λ id. id.index < length net.places)
in_net net rounds h k t l None e = tt
in_net net rounds h k t l (Some id) e = h.places k t id l (sym e)

pub returns-clause-by : goal.returns-clause-by
returns-clause-by c = told c.args.rounds.now c.args.number c.args.at c.index-rounds-number.result c.cells.result.now c.requires.number c.index-rounds-number.is c.cells.ensures

pub returns-clause-in_range : goal.returns-clause-in_range
returns-clause-in_range c =
    in_net c.args.net.now c.args.rounds.now c.requires.rounds c.args.number c.args.at c.requires.number _
    (told c.args.rounds.now c.args.number c.args.at c.index-rounds-number.result c.cells.result.now c.requires.number c.index-rounds-number.is c.cells.ensures)
