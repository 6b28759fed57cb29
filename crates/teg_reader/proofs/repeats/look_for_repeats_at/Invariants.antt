use Rattle.std.proofs.Common.{◌≡◌, ◌+◌, map}
use Rattle.toml.specs.View.{view}
use Rattle.teg_reader.specs.PassWalks.{first_finding}
use Rattle.teg_reader.specs.Repeats.{repeats_earlier}
use Rattle.teg_reader.proofs.TreeLemmas.{entries_from}
use Rattle.teg_reader.proofs.RepeatLemmas.{HasTexts, texts_before}
use Rattle.teg_reader.proofs.repeats.look_for_repeats_at.Given as goal

abbrev pub invariant-loop-index : goal.invariant-loop-index
invariant-loop-index l = record {
  seen : HasTexts l.texts (texts_before l.key l.index l.entries);
  rest : first_finding (repeats_earlier l.key (map view l.entries)) l.section (l.index + 1)
      (entries_from l.index l.entries) ≡ first_finding (repeats_earlier l.key (map view l.entries)) l.section 1 (map view l.entries);
}
