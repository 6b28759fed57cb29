use Rattle.std.proofs.Common.{◌≡◌, ◌++◌, [], take, string_bytes}
use Rattle.std.specs.List.{flat_map}
use Rattle.teg_lines.specs.CycleLines.{member_line, members_from}
use Rattle.teg_text.specs.Lines.{line_then}
use Rattle.teg_lines.proofs.cycles.push_members.Given as goal

abbrev pub invariant-loop-index : goal.invariant-loop-index
invariant-loop-index l =
    string_bytes l.text ≡ string_bytes l.initial.text ++ flat_map (λ t. line_then (member_line l.net t) []) (members_from 0 (take l.index l.part_of) l.part)
