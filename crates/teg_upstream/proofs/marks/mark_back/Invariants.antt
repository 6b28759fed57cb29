use Rattle.std.proofs.Common.{◌≡◌, length}
use Rattle.teg_upstream.proofs.marks.mark_back.Given as goal

abbrev pub invariant-loop-index : goal.invariant-loop-index
invariant-loop-index l = length l.marks ≡ length l.fn.marks
