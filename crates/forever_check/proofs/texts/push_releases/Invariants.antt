use Rattle.std.proofs.Common.{◌≡◌, ◌++◌, [], take, string_bytes}
use Rattle.std.specs.List.{flat_map}
use Rattle.teg_text.specs.Lines.{line_then}
use Rattle.forever_check.specs.ShownReleases.{release_line}
use Rattle.forever_check.proofs.texts.push_releases.Given as goal

abbrev pub invariant-loop-list : goal.invariant-loop-list
invariant-loop-list l = string_bytes l.text ≡ string_bytes l.initial.text ++ flat_map (λ x. line_then (release_line l.net x) []) (take l.list-index l.lists)
