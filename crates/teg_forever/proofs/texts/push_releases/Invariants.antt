use Rattle.std.proofs.Common.{◌≡◌, ◌++◌, All, drop, take, map, string_bytes}
use Rattle.teg_text.specs.Lines.{written}
use Rattle.teg_forever.specs.EndlessTexts.{IsReleaseTold, endless_lines_of}
use Rattle.teg_forever.proofs.texts.push_releases.Given as goal

abbrev pub invariant-loop-index : goal.invariant-loop-index
invariant-loop-index l = record {
  text : string_bytes l.text ++ written (endless_lines_of l.net (drop l.index (map (λ t. t.index) l.inputs))
      (drop l.index l.releases)) ≡ string_bytes l.initial.text ++ written (endless_lines_of l.net (map (λ t. t.index) l.inputs) l.releases);
  told : All IsReleaseTold (take l.index l.releases);
}
