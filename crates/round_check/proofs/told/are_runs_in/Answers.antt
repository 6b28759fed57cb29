use Rattle.std.proofs.Common.{◌≡◌, length, map, rules, ◌∙◌}
use Rattle.std.proofs.lemmas.List.{length-map}
use Rattle.std.proofs.lemmas.List.Elements.{All-map}
use Rattle.teg_lines.specs.CycleMeanings.{part_lists, round_lists}
use Rattle.teg_lines.specs.RoundLines.{IsRunIn, circuits_in}
use Rattle.round_check.proofs.told.are_runs_in.Goals as goal

pub returns : goal.returns
returns c = λ yes.
    let runs = c.args.runs.now in
    let many : length runs ≡ circuits_in (map part_lists c.args.parts.now) = search rules in
    record {
      full = length-map runs (λ run. map round_lists run.items) ∙ many;
      each = All-map (IsRunIn c.args.net.now) (λ run. map round_lists run.items) runs (c.is_each_in.ensures yes);
    }
