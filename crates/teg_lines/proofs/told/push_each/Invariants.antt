use Rattle.std.proofs.Common.{◌≡◌, ◌++◌, [], take, string_bytes}
use Rattle.std.specs.List.{All, flat_map}
use Rattle.teg_text.specs.Lines.{line_then}
use Rattle.teg_lines.proofs.told.push_each.Given as goal

abbrev pub invariant-loop-item : goal.invariant-loop-item
invariant-loop-item g l =
    (string_bytes l.text ≡ string_bytes l.initial.text ++ flat_map (λ x. line_then (g.L.LineOf.line l.net x) []) (take l.item-index l.items))
    × All g.L.LineOf.is_kept (take l.item-index l.items)
