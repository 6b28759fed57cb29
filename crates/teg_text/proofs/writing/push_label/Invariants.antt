use Rattle.std.proofs.Common.{◌≡◌, ◌++◌, take, string_bytes}
use Rattle.teg_text.specs.ValueWords.{label_word}
use Rattle.teg_text.proofs.writing.push_label.Given as goal

abbrev pub invariant-loop-byte : goal.invariant-loop-byte
invariant-loop-byte l = string_bytes l.text ≡ string_bytes l.initial.text ++ label_word (take l.byte-index l.label)
