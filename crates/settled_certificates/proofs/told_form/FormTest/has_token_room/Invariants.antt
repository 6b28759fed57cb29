use Rattle.std.proofs.Common.{ℕ, ◌<◌, ◌≤◌, ◌+◌, get_or}
use Rattle.teg_net.specs.declared.entries.Place.{Place}
use Rattle.settled_certificates.proofs.told_form.FormTest.has_token_room.Given as goal

abbrev pub invariant-loop-place : goal.invariant-loop-place
invariant-loop-place l = (i : ℕ) → i < l.place-index → (d : Place) → l.self.after + (get_or l.self.told.net.places i d).tokens + l.self.period + l.self.period ≤ l.self.told.numbers
