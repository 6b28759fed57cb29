use Rattle.std.proofs.Common.{◌≡◌, ◌++◌, map, take, string_bytes}
use Rattle.std.specs.List.{All, flat_map}
use Rattle.teg_lines.specs.RoundLines.{IsRunKept, circuits_in, run_lines, runs_from}
use Rattle.teg_lines.specs.CycleMeanings.{part_lists, runs_lists}
use Rattle.teg_text.specs.Lines.{written}
use Rattle.teg_lines.proofs.rounds.push_runs.Given as goal

abbrev pub invariant-loop-number : goal.invariant-loop-number
invariant-loop-number l = record {
  told : l.told ≡ circuits_in (take l.number (map part_lists l.parts));
  text : string_bytes l.text ≡ string_bytes l.initial.text ++ flat_map (λ run. written (run_lines l.net run)) (runs_from 0 (take l.number (map part_lists l.parts)) (runs_lists l.runs));
  kept : All IsRunKept (take l.told (runs_lists l.runs));
}
