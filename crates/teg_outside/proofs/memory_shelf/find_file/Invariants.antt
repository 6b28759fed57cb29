use Rattle.std.proofs.Common.{◌≡◌, length, map}
use Rattle.teg_outside.specs.Memory.{told_file}
use Rattle.teg_outside.specs.Shelves.{file_of}
use Rattle.teg_outside.proofs.memory_shelf.find_file.Given as goal

abbrev pub invariant-loop-rest : goal.invariant-loop-rest
invariant-loop-rest l = file_of (map told_file l.files) l.name ≡ file_of (map told_file l.rest) l.name

abbrev pub decreases-loop-rest : goal.decreases-loop-rest
decreases-loop-rest l = length l.rest
