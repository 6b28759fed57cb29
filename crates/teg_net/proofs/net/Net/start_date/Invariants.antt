use Rattle.std.proofs.Common.{◌≡◌, take}
use Rattle.std.specs.Prelude.{max}
use Rattle.std.specs.List.{fold}
use Rattle.teg_net.specs.ReadyDates.{ready_for}
use Rattle.teg_net.proofs.net.Net.start_date.Given as goal

abbrev pub invariant-loop-place : goal.invariant-loop-place
invariant-loop-place l = l.start ≡ fold (λ latest p. max latest (ready_for l.transition.index l.number p)) 0 (take l.place-index l.self.places)
