use Rattle.std.proofs.Common.{◌<◌, length, arith, rules}
use Rattle.std.proofs.lemmas.List.{length-map}
use Rattle.std.proofs.lemmas.List.Elements.{All-map}
use Rattle.teg_lines.specs.CycleMeanings.{round_lists}
use Rattle.teg_lines.specs.RoundLines.{IsRoundIn}
use Rattle.round_check.proofs.told.is_run_in.Goals as goal

pub returns : goal.returns
returns c = λ yes.
    let rounds = c.args.rounds.now in
    let some : 0 < length rounds = search rules in
    record { some = omega (arith, some, length-map rounds round_lists); each = All-map (IsRoundIn c.args.net.now) round_lists rounds (c.are_rounds_in.ensures yes) }
